-- What the test of replies and of thrusts tells.
use Rattle.std.proofs.Common.{◌≡◌, ℕ, List, [], ◌∷◌, Bool, true, false, ◌&&◌, refl, ap, ap₂, sym, subst}
use Rattle.std.proofs.Common.{nat_eq, arith}
use Rattle.std.proofs.lemmas.Bool.Decides.{Decides-int_eq, nat_tests}
use Rattle.std.specs.Bool.{beq}
use Rattle.std.specs.Cmp.Lexicographic.{pointwise}
use Rattle.std.specs.Ordering.{int_eq}
use Rattle.log_text.proofs.ToldFields.{both_true}
use Rattle.certificate.specs.declared.outcome.Place.{Place}
use Rattle.certificate.specs.declared.outcome.Place.TheVariants as places
use Rattle.certificate.specs.contracts.outcome.PlacePartialEq.TheImpl.{ghosts as place_ghosts}
use Rattle.plant_model.specs.declared.board.Cell.{Cell}
use Rattle.plant_model.specs.declared.board.Cell.TheVariants.{Pending, Seen}
use Rattle.plant_model.specs.contracts.board.CellPartialEq.TheImpl.{ghosts as cell_ghosts}
use Rattle.plant_model.specs.declared.thrust.Thrust.{Thrust}
use Rattle.plant_core.specs.declared.call.Reply.{Reply}
use Rattle.plant_core.specs.declared.call.Reply.TheVariants.{Version, Same, Taken, UnknownName}
use Rattle.plant_core.specs.declared.call.Reply.TheVariants.{NoPiece, Commanded, Late, WrongMode}
use Rattle.plant_core.specs.declared.call.Reply.TheVariants.{Noted, NoSuchAlarm, Cells, Shown}
use Rattle.plant_core.specs.declared.call.Reply.TheVariants.{Superseded, Unknown, Already}
use Rattle.plant_core.specs.declared.call.Reply.TheVariants.{Refused, JournalFull, Closed}
use Rattle.plant_core.specs.contracts.call.ReplyPartialEq.TheImpl.{ghosts}
use Rattle.log_audit.specs.Twins.{is_command}

apart : false ≡ true → ⊥
apart is = absurd (cc)

-- ---- the tests

abbrev place_eq : Place → Place → Bool
place_eq place other = place_ghosts.eq place other

abbrev cell_eq : Cell → Cell → Bool
cell_eq cell other = cell_ghosts.eq cell other

abbrev pub eq : Reply → Reply → Bool
eq own other = ghosts.eq own other

-- ---- lists

pub items_same : {X : Type 0} (test : X → X → Bool) → ((x y : X) → test x y ≡ true → x ≡ y)
    → (xs ys : List X) → pointwise test xs ys ≡ true → xs ≡ ys
items_same test each [] [] is = refl
items_same test each [] (y ∷ ys) is = absurd (cc)
items_same test each (x ∷ xs) [] is = absurd (cc)
items_same {X} test each (x ∷ xs) (y ∷ ys) is =
    let parts = both_true (test x y) (pointwise test xs ys) is in
    ap₂ (λ (first : X) (more : List X). first ∷ more) (each x y parts.0)
    (items_same test each xs ys parts.1)

pub items_own : {X : Type 0} (test : X → X → Bool) → ((x : X) → test x x ≡ true) → (xs : List X)
    → pointwise test xs xs ≡ true
items_own test each [] = refl
items_own test each (x ∷ xs) = rw (each x) (items_own test each xs)

-- ---- thrusts

abbrev pub same_thrust : Thrust → Thrust → Bool
same_thrust a b = int_eq a.x b.x && int_eq a.y b.y

pub thrust_same : (a b : Thrust) → same_thrust a b ≡ true → a ≡ b
thrust_same a b is =
    let parts = both_true (int_eq a.x b.x) (int_eq a.y b.y) is in
    let x = (Decides-int_eq a.x b.x).0 parts.0 in
    let y = (Decides-int_eq a.y b.y).0 parts.1 in
    λ i. record { x = x i; y = y i }

pub thrust_own : (a : Thrust) → same_thrust a a ≡ true
thrust_own a = rw ((Decides-int_eq a.x a.x).1 refl) ((Decides-int_eq a.y a.y).1 refl)

-- ---- replies

same_number : (m n : ℕ) → nat_eq m n ≡ true → m ≡ n
same_number m n is = grind (arith, nat_tests)

own_number : (n : ℕ) → nat_eq n n ≡ true
own_number n = grind (arith, nat_tests)

same_bool : (a b : Bool) → beq a b ≡ true → a ≡ b
same_bool true true is = refl
same_bool true false is = absurd (cc)
same_bool false true is = absurd (cc)
same_bool false false is = refl

own_bool : (a : Bool) → beq a a ≡ true
own_bool true = refl
own_bool false = refl

place_same : (place other : Place) → place_eq place other ≡ true → place ≡ other
place_same places.Denominator places.Denominator is = refl
place_same places.Choice places.Choice is = refl
place_same places.ThrustCount places.ThrustCount is = refl
place_same (places.Thruster i) (places.Thruster j) is =
    ap (λ (n : ℕ). places.Thruster n) (same_number i j is)
place_same places.Sum places.Sum is = refl
place_same places.CutCount places.CutCount is = refl
place_same (places.Cut i) (places.Cut j) is = ap (λ (n : ℕ). places.Cut n) (same_number i j is)
place_same place other is = absurd (apart is)

place_own : (place : Place) → place_eq place place ≡ true
place_own places.Denominator = refl
place_own places.Choice = refl
place_own places.ThrustCount = refl
place_own (places.Thruster i) = own_number i
place_own places.Sum = refl
place_own places.CutCount = refl
place_own (places.Cut i) = own_number i

cell_same : (cell other : Cell) → cell_eq cell other ≡ true → cell ≡ other
cell_same Pending Pending is = refl
cell_same (Seen version holds current) (Seen number held latest) is =
    let parts = both_true _ _ is in
    let rest = both_true _ _ parts.1 in
    let numbers = same_number version number parts.0 in
    let verdicts = same_bool holds held rest.0 in
    let times = same_bool current latest rest.1 in
    λ i. Seen (numbers i) (verdicts i) (times i)
cell_same cell other is = absurd (apart is)

cell_own : (cell : Cell) → cell_eq cell cell ≡ true
cell_own Pending = refl
cell_own (Seen version holds current) =
    rw (own_number version, own_bool holds, own_bool current) refl

pub reply_same : (own other : Reply) → is_command own ≡ false → eq own other ≡ true → own ≡ other
reply_same (Version n) (Version m) plain is = ap (λ (k : ℕ). Version k) (same_number n m is)
reply_same Same Same plain is = refl
reply_same Taken Taken plain is = refl
reply_same UnknownName UnknownName plain is = refl
reply_same NoPiece NoPiece plain is = refl
reply_same (Commanded version demand given) other plain is = absurd (apart (sym plain))
reply_same (Late n) (Late m) plain is = ap (λ (k : ℕ). Late k) (same_number n m is)
reply_same WrongMode WrongMode plain is = refl
reply_same Noted Noted plain is = refl
reply_same NoSuchAlarm NoSuchAlarm plain is = refl
reply_same (Cells cells) (Cells others) plain is =
    let parts = both_true _ _ is in
    let latest = same_number cells.latest others.latest parts.0 in
    let list = items_same cell_eq cell_same cells.list.items others.list.items parts.1 in
    λ i. Cells (record { latest = latest i; list = record { items = list i } })
reply_same Shown Shown plain is = refl
reply_same (Superseded n) (Superseded m) plain is =
    ap (λ (k : ℕ). Superseded k) (same_number n m is)
reply_same (Unknown n) (Unknown m) plain is = ap (λ (k : ℕ). Unknown k) (same_number n m is)
reply_same Already Already plain is = refl
reply_same (Refused place) (Refused other) plain is =
    ap (λ (p : Place). Refused p) (place_same place other is)
reply_same JournalFull JournalFull plain is = refl
reply_same Closed Closed plain is = refl
reply_same own other plain is = absurd (apart is)

own_reply : (own : Reply) → is_command own ≡ false → eq own own ≡ true
own_reply (Version n) plain = own_number n
own_reply Same plain = refl
own_reply Taken plain = refl
own_reply UnknownName plain = refl
own_reply NoPiece plain = refl
own_reply (Commanded version demand given) plain = absurd (apart (sym plain))
own_reply (Late n) plain = own_number n
own_reply WrongMode plain = refl
own_reply Noted plain = refl
own_reply NoSuchAlarm plain = refl
own_reply (Cells cells) plain =
    rw (own_number cells.latest) (items_own cell_eq cell_own cells.list.items)
own_reply Shown plain = refl
own_reply (Superseded n) plain = own_number n
own_reply (Unknown n) plain = own_number n
own_reply Already plain = refl
own_reply (Refused place) plain = place_own place
own_reply JournalFull plain = refl
own_reply Closed plain = refl

pub same_reply : (own other : Reply) → is_command own ≡ false → own ≡ other → eq own other ≡ true
same_reply own other plain same =
    subst (λ (reply : Reply). eq own reply ≡ true) same (own_reply own plain)
