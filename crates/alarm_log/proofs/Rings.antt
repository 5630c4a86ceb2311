-- What calls make of a ring.
use Rattle.std.proofs.Common.{◌≡◌, ℕ, ◌+◌, ◌<◌, List, [], ◌∷◌, ◌++◌, map, take, drop, set, length}
use Rattle.std.proofs.Common.{get_or, Bool, true, false, ◌&&◌, ◌||◌, not, nat_eq, refl, ap, sym}
use Rattle.std.proofs.Common.{arith}
use Rattle.std.proofs.lemmas.List.{get_or_default}
use Rattle.std.proofs.lemmas.List.Edits.{map_over_more}
use Rattle.std.specs.List.{list_any}
use Rattle.alarm_log.specs.declared.alarm.Alarm.{Alarm}
use Rattle.alarm_log.specs.declared.alarm.Cause.TheVariants.{Consequence}
use Rattle.alarm_log.specs.Alarms.{acknowledged_of}

-- what is read of a list past its end
abbrev pub blank : Alarm
blank = record { number = 0; cause = Consequence 0; active = false; acknowledged = false }

-- a loop that changes each alarm, at its next one
pub changed_more : (f : Alarm → Alarm) (xs ys : List Alarm) (i : ℕ) (y : Alarm)
    → i < length xs → length ys ≡ length xs → ys ≡ map f (take i xs) ++ drop i xs
    → y ≡ f (get_or ys i blank) → set ys i y ≡ map f (take (i + 1) xs) ++ drop (i + 1) xs
changed_more f xs ys i y below same_length so_far changed =
    rw changed
    (map_over_more f xs ys i _ below so_far (get_or_default ys i _ _ (omega arith)))

-- an alarm of another number stays as it is, and so does an acknowledged one
stays : (number : ℕ) (alarm : Alarm) (same acknowledged : Bool)
    → nat_eq alarm.number number ≡ same → alarm.acknowledged ≡ acknowledged
    → (same && not acknowledged) ≡ false → acknowledged_of number alarm ≡ alarm
stays number alarm true true same acknowledged closed =
    rw same (ap (λ (b : Bool). record alarm { acknowledged = b }) (sym acknowledged))
stays number alarm true false same acknowledged closed = cc
stays number alarm false b same acknowledged closed = rw same refl

-- where neither of two tests passes
head_closed : (a b : Bool) → (a || b) ≡ false → a ≡ false
head_closed true b closed = closed
head_closed false b closed = refl

rest_closed : (a b : Bool) → (a || b) ≡ false → b ≡ false
rest_closed true b closed = cc
rest_closed false b closed = closed

-- where no unacknowledged alarm has the number, all stay as they are
pub all_stay : (number : ℕ) (ring : List Alarm)
    → list_any (λ alarm. nat_eq alarm.number number && not alarm.acknowledged) ring ≡ false
    → map (acknowledged_of number) ring ≡ ring
all_stay number [] closed = refl
all_stay number (alarm ∷ ring) closed =
    let open_here = nat_eq alarm.number number && not alarm.acknowledged in
    let open_later = list_any (λ a. nat_eq a.number number && not a.acknowledged) ring in
    let head = stays number alarm _ _ refl refl (head_closed open_here open_later closed) in
    let rest = all_stay number ring (rest_closed open_here open_later closed) in
    cc
