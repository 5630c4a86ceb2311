-- Telegrams and their texts.
use Rattle.std.proofs.Common.{◌≡◌, ◌∙◌, ℕ, zero, suc, ◌-◌, ◌^◌, ◌≤◌, ◌<◌, List, [], ◌∷◌, Bool}
use Rattle.std.proofs.Common.{true, false, ◌==◌, ℤ, pos, negsuc, refl, ap, sym, subst, arith}
use Rattle.std.proofs.Common.{Ok, Result}
use Rattle.std.proofs.lemmas.Int.{ints}
use Rattle.std.proofs.lemmas.List.Splits.{slice_split_at, slice_split_none}
use Rattle.std.proofs.lemmas.List.Splits.{join_with_byte-slice_split}
use Rattle.std.proofs.lemmas.Slice.Eq.{bytes_eq-Decides}
use Rattle.std.specs.Fmt.{decimal, signed_decimal}
use Rattle.std.specs.List.{join_with_byte}
use Rattle.std.specs.Prelude.{if◌then◌else◌, codes, nat_abs}
use Rattle.std.specs.Str.{bytes_eq}
use Rattle.plant_model.specs.Names.{is_name}
use Rattle.plant_model.specs.Numbers.{IsWithin}
use Rattle.plant_model.specs.declared.limits.TheConstants.{LAST_ALARM, LAST_MOMENT, MOST_FORCE}
use Rattle.plant_model.specs.declared.limits.TheConstants.{MOST_MOMENT, MOST_PIECES, MOST_POSITION}
use Rattle.plant_model.specs.declared.limits.TheConstants.{MOST_WIND_SPEED, WHOLE_TURN}
use Rattle.plant_model.specs.declared.wrench.Wrench.{Wrench}
use Rattle.telegram.specs.Telegrams.{Form, IsTelegram, ack_of, angle_of, bar_of, comma}
use Rattle.telegram.specs.Telegrams.{fields, forms, four, manual_of, mode_of, moment_of, name_of}
use Rattle.telegram.specs.Telegrams.{natural_of, none, one, parts_of, position_of, read_by}
use Rattle.telegram.specs.Telegrams.{setpoint_of, switch_of, telegram, telegram_of, telegram_text}
use Rattle.telegram.specs.Telegrams.{three, two, wind_of, within_of, word_of}
use Rattle.telegram.specs.declared.telegram.Reject.{Reject}
use Rattle.telegram.specs.declared.telegram.Telegram.{Telegram}
use Rattle.telegram.specs.declared.telegram.Telegram.TheVariants.{Position, Wind, Setpoint}
use Rattle.telegram.specs.declared.telegram.Telegram.TheVariants.{Thruster, Generator, Tie, Mode}
use Rattle.telegram.specs.declared.telegram.Telegram.TheVariants.{Manual, Ack, Board, Bar}
use Rattle.telegram.proofs.Spelled.{bind_ok, name-again, name-takes, natural-again, natural-takes}
use Rattle.telegram.proofs.Spelled.{within-again, within-takes, word-takes}
use Rattle.telegram.proofs.TextBytes.{IsPlain, plain-decimal, plain-known, plain-name}
use Rattle.telegram.proofs.TextBytes.{plain-signed_decimal}

-- ---- a telegram is read of its own text

-- numbers within limits are short
abs-within : (most : ℕ) (z : ℤ) → IsWithin (pos most) z → most < 2 ^ 63 → nat_abs z < 2 ^ 63
abs-within most (pos n) within small = omega (arith, ints, within.high)
abs-within zero (negsuc n) within small = absurd (omega (arith, ints, within.low))
abs-within (suc m) (negsuc n) within small = omega (arith, ints, within.low)

abbrev AllPlain : List (List ℕ) → Type 0
AllPlain [] = Unit {0}
AllPlain (part ∷ more) = IsPlain part × AllPlain more

-- parts without a comma are the fields of what they make, joined by commas
fields-join : (part : List ℕ) (more : List (List ℕ)) → AllPlain (part ∷ more)
    → fields (join_with_byte comma (part ∷ more)) ≡ part ∷ more
fields-join part [] plain = slice_split_none (λ b. b == comma) part plain.0.no_comma
fields-join part (next ∷ more) plain =
    slice_split_at (λ b. b == comma) part comma (join_with_byte comma (next ∷ more))
    plain.0.no_comma refl
    ∙ ap (λ parts. part ∷ parts) (fields-join next more plain.1)

-- what a telegram's parts are read as
pub record IsReadAgain (kind : List ℕ) (more : List (List ℕ)) (t : Telegram) : Type 0 where
  pub plain : AllPlain (kind ∷ more)
  pub again : telegram_of (kind ∷ more) ≡ Ok t

telegram-of_parts : (kind : List ℕ) (more : List (List ℕ)) (t : Telegram) → IsReadAgain kind more t
    → telegram (join_with_byte comma (kind ∷ more)) ≡ Ok t
telegram-of_parts kind more t read = ap telegram_of (fields-join kind more read.plain) ∙ read.again

plain-word : (on off : List ℕ) → IsPlain on → IsPlain off → (value : Bool)
    → IsPlain (if value then on else off)
plain-word on off on_plain off_plain true = on_plain
plain-word on off on_plain off_plain false = off_plain

word-again : (on off : List ℕ) → word_of on off on ≡ Ok true → word_of on off off ≡ Ok false
    → (value : Bool) → word_of on off (if value then on else off) ≡ Ok value
word-again on off on_read off_read true = on_read
word-again on off on_read off_read false = off_read

small : (n : ℕ) → n < 2 ^ 63 → n < 2 ^ 64
small n few = omega arith

whole_plain : (most : ℕ) (z : ℤ) → IsWithin (pos most) z → most < 2 ^ 63
    → IsPlain (signed_decimal z)
whole_plain most z within few =
    plain-signed_decimal z (small (nat_abs z) (abs-within most z within few))

whole_again : (most : ℕ) (z : ℤ) → IsWithin (pos most) z → most < 2 ^ 63
    → within_of (pos most) (signed_decimal z) ≡ Ok z
whole_again most z within few = within-again (pos most) z within (abs-within most z within few)

moment_again : (n : ℕ) → n ≤ LAST_MOMENT → moment_of (decimal n) ≡ Ok n
moment_again n few = natural-again 0 LAST_MOMENT n (omega arith) few (omega (arith, few))

angle_again : (n : ℕ) → n ≤ WHOLE_TURN - 1 → angle_of (decimal n) ≡ Ok n
angle_again n few = natural-again 0 (WHOLE_TURN - 1) n (omega arith) few (omega (arith, few))

-- a switch of a part
switch_again : (kind on off name : List ℕ) (value : Bool) (t : Telegram) → IsPlain kind → IsPlain on
    → IsPlain off → is_name name ≡ true
    → telegram_of (kind ∷ name ∷ (if value then on else off) ∷ []) ≡ Ok t
    → IsReadAgain kind (name ∷ (if value then on else off) ∷ []) t
switch_again kind on off name value t kind_plain on_plain off_plain good again = record {
  plain = (kind_plain, (plain-name name good, (plain-word on off on_plain off_plain value, tt)));
  again = again;
}

pub read_again : (t : Telegram) → IsTelegram t → telegram (telegram_text t) ≡ Ok t
read_again (Position moment x y heading) good =
    let fix = good.1 in
    telegram-of_parts (codes "POS") (decimal moment ∷ signed_decimal x ∷ signed_decimal y
    ∷ decimal heading ∷ []) (Position moment x y heading) (record {
      plain = (
        plain-known (codes "POS") refl,
        (
          plain-decimal moment (omega (arith, good.0)),
          (
            whole_plain _ x fix.north (omega arith),
            (
              whole_plain _ y fix.east (omega arith),
              (plain-decimal heading (omega (arith, fix.turn)), tt),
            ),
          ),
        ),
      );
      again =
          rw (
            moment_again moment good.0,
            whole_again _ x fix.north (omega arith),
            whole_again _ y fix.east (omega arith),
            angle_again heading fix.turn,
          ) refl;
    })
read_again (Wind moment speed angle) good =
    let wind = good.1 in
    telegram-of_parts (codes "WND") (decimal moment ∷ decimal speed ∷ decimal angle ∷ [])
    (Wind moment speed angle) (record {
      plain = (
        plain-known (codes "WND") refl,
        (
          plain-decimal moment (omega (arith, good.0)),
          (
            plain-decimal speed (omega (arith, wind.strength)),
            (plain-decimal angle (omega (arith, wind.turn)), tt),
          ),
        ),
      );
      again =
          rw (
            moment_again moment good.0,
            natural-again 0 MOST_WIND_SPEED speed (omega arith) wind.strength
                (omega (arith, wind.strength)),
            angle_again angle wind.turn,
          ) refl;
    })
read_again (Setpoint x y heading) good =
    telegram-of_parts (codes "SET") (signed_decimal x ∷ signed_decimal y ∷ decimal heading ∷ [])
    (Setpoint x y heading) (record {
      plain = (
        plain-known (codes "SET") refl,
        (
          whole_plain _ x good.north (omega arith),
          (
            whole_plain _ y good.east (omega arith),
            (plain-decimal heading (omega (arith, good.turn)), tt),
          ),
        ),
      );
      again =
          rw (
            whole_again _ x good.north (omega arith),
            whole_again _ y good.east (omega arith),
            angle_again heading good.turn,
          ) refl;
    })
read_again (Thruster name selected) good =
    telegram-of_parts (codes "THR") (name ∷ (if selected then codes "IN" else codes "OUT") ∷ [])
    (Thruster name selected)
    (switch_again (codes "THR") (codes "IN") (codes "OUT") name selected (Thruster name selected)
    (plain-known (codes "THR") refl) (plain-known (codes "IN") refl)
    (plain-known (codes "OUT") refl) good
    (rw (name-again name good, word-again (codes "IN") (codes "OUT") refl refl selected) refl))
read_again (Generator name running) good =
    telegram-of_parts (codes "GEN") (name ∷ (if running then codes "RUN" else codes "STOP") ∷ [])
    (Generator name running)
    (switch_again (codes "GEN") (codes "RUN") (codes "STOP") name running (Generator name running)
    (plain-known (codes "GEN") refl) (plain-known (codes "RUN") refl)
    (plain-known (codes "STOP") refl) good
    (rw (name-again name good, word-again (codes "RUN") (codes "STOP") refl refl running) refl))
read_again (Tie name closed) good =
    telegram-of_parts (codes "TIE") (name ∷ (if closed then codes "CLOSE" else codes "OPEN") ∷ [])
    (Tie name closed)
    (switch_again (codes "TIE") (codes "CLOSE") (codes "OPEN") name closed (Tie name closed)
    (plain-known (codes "TIE") refl) (plain-known (codes "CLOSE") refl)
    (plain-known (codes "OPEN") refl) good
    (rw (name-again name good, word-again (codes "CLOSE") (codes "OPEN") refl refl closed) refl))
read_again (Mode true) good = refl
read_again (Mode false) good = refl
read_again (Manual demand) good =
    telegram-of_parts (codes "MAN") (signed_decimal demand.x ∷ signed_decimal demand.y
    ∷ signed_decimal demand.n ∷ []) (Manual demand) (record {
      plain = (
        plain-known (codes "MAN") refl,
        (
          whole_plain _ demand.x good.x (omega arith),
          (
            whole_plain _ demand.y good.y (omega arith),
            (whole_plain _ demand.n good.n (omega arith), tt),
          ),
        ),
      );
      again =
          rw (
            whole_again _ demand.x good.x (omega arith),
            whole_again _ demand.y good.y (omega arith),
            whole_again _ demand.n good.n (omega arith),
          )
          refl;
    })
read_again (Ack number) good =
    telegram-of_parts (codes "ACK") (decimal number ∷ []) (Ack number) (record {
      plain =
          (plain-known (codes "ACK") refl, (plain-decimal number (omega (arith, good.high)), tt));
      again =
          rw (natural-again 1 LAST_ALARM number good.low good.high (omega (arith, good.high))) refl;
    })
read_again Board good = refl
read_again (Bar name piece barred) good =
    telegram-of_parts (codes "BAR") (name ∷ decimal piece
    ∷ (if barred then codes "BAR" else codes "FREE") ∷ []) (Bar name piece barred) (record {
      plain = (
        plain-known (codes "BAR") refl,
        (
          plain-name name good.0,
          (
            plain-decimal piece (omega (arith, good.1)),
            (
              plain-word (codes "BAR") (codes "FREE") (plain-known (codes "BAR") refl)
                  (plain-known (codes "FREE") refl) barred,
              tt,
            ),
          ),
        ),
      );
      again =
          rw (
            name-again name good.0,
            natural-again 0 (MOST_PIECES - 1) piece (omega arith) good.1
                (omega (arith, good.1)),
            word-again (codes "BAR") (codes "FREE") refl refl barred,
          ) refl;
    })

-- ---- what is read is spelled so, and within its ranges

abbrev pub IsSpelled : List (List ℕ) → Telegram → Type 0
IsSpelled parts t = (parts_of t ≡ parts) × IsTelegram t

abbrev Spells : Form → Type 0
Spells form =
    (rest : List (List ℕ)) (t : Telegram) → form.read rest ≡ Ok t → IsSpelled (form.kind ∷ rest) t

abbrev AllSpell : List Form → Type 0
AllSpell [] = Unit {0}
AllSpell (form ∷ others) = Spells form × AllSpell others

none-ok : (read : Result Telegram Reject) (rest : List (List ℕ)) (t : Telegram)
    → none read rest ≡ Ok t → (rest ≡ []) × (read ≡ Ok t)
none-ok read [] t is = (refl, is)
none-ok read (a ∷ more) t is = absurd (cc)

one-ok : (read : List ℕ → Result Telegram Reject) (rest : List (List ℕ)) (t : Telegram)
    → one read rest ≡ Ok t → (a : List ℕ) × (rest ≡ a ∷ []) × (read a ≡ Ok t)
one-ok read [] t is = absurd (cc)
one-ok read (a ∷ more) t is =
    let step = none-ok (read a) more t is in
    (a, ap (λ rest. a ∷ rest) step.0, step.1)

two-ok : (read : List ℕ → List ℕ → Result Telegram Reject) (rest : List (List ℕ)) (t : Telegram)
    → two read rest ≡ Ok t → (a b : List ℕ) × (rest ≡ a ∷ b ∷ []) × (read a b ≡ Ok t)
two-ok read [] t is = absurd (cc)
two-ok read (a ∷ more) t is =
    let step = one-ok (read a) more t is in
    (a, step.0, ap (λ rest. a ∷ rest) step.1, step.2)

three-ok : (read : List ℕ → List ℕ → List ℕ → Result Telegram Reject) (rest : List (List ℕ))
    (t : Telegram) → three read rest ≡ Ok t → (a b c : List ℕ) × (rest ≡ a ∷ b ∷ c ∷ [])
    × (read a b c ≡ Ok t)
three-ok read [] t is = absurd (cc)
three-ok read (a ∷ more) t is =
    let step = two-ok (read a) more t is in
    (a, step.0, step.1, ap (λ rest. a ∷ rest) step.2, step.3)

four-ok : (read : List ℕ → List ℕ → List ℕ → List ℕ → Result Telegram Reject) (rest : List (List ℕ))
    (t : Telegram) → four read rest ≡ Ok t → (a b c d : List ℕ) × (rest ≡ a ∷ b ∷ c ∷ d ∷ [])
    × (read a b c d ≡ Ok t)
four-ok read [] t is = absurd (cc)
four-ok read (a ∷ more) t is =
    let step = three-ok (read a) more t is in
    (a, step.0, step.1, step.2, ap (λ rest. a ∷ rest) step.3, step.4)

-- the parts of a telegram, and its ranges, at the telegram and the fields that were read
spelled_at : (kind : List ℕ) (rest own : List (List ℕ)) (t u : Telegram) → u ≡ t → rest ≡ own
    → parts_of u ≡ kind ∷ own → IsTelegram u → IsSpelled (kind ∷ rest) t
spelled_at kind rest own t u t_is rest_is parts good =
    subst (λ (t : Telegram). IsSpelled (kind ∷ rest) t) t_is
    (parts ∙ ap (λ more. kind ∷ more) (sym rest_is), good)

-- the number of a moment or an angle, and a number within limits
moment-takes : (field : List ℕ) (n : ℕ) → moment_of field ≡ Ok n
    → (field ≡ decimal n) × (n ≤ LAST_MOMENT)
moment-takes field n is =
    let taken = natural-takes field 0 LAST_MOMENT n is (omega arith) in
    (taken.spelled, taken.below)

angle-takes : (field : List ℕ) (n : ℕ) → angle_of field ≡ Ok n
    → (field ≡ decimal n) × (n ≤ WHOLE_TURN - 1)
angle-takes field n is =
    let taken = natural-takes field 0 (WHOLE_TURN - 1) n is (omega arith) in
    (taken.spelled, taken.below)

whole-takes : (most : ℕ) (field : List ℕ) (z : ℤ) → most < 2 ^ 63
    → within_of (pos most) field ≡ Ok z → (field ≡ signed_decimal z) × IsWithin (pos most) z
whole-takes most field z small is =
    let taken = within-takes field most z is small in
    (taken.spelled, taken.within)

position-spells : Spells (record { kind = codes "POS"; read = four position_of })
position-spells rest t is =
    let fields = four-ok position_of rest t is in
    let a = bind_ok (moment_of fields.0) _ t fields.5 in
    let b = bind_ok (within_of MOST_POSITION fields.1) _ t a.2 in
    let c = bind_ok (within_of MOST_POSITION fields.2) _ t b.2 in
    let d = bind_ok (angle_of fields.3) _ t c.2 in
    let moment = moment-takes fields.0 a.0 a.1 in
    let x = whole-takes 10000000 fields.1 b.0 (omega arith) b.1 in
    let y = whole-takes 10000000 fields.2 c.0 (omega arith) c.1 in
    let heading = angle-takes fields.3 d.0 d.1 in
    let made : Position a.0 b.0 c.0 d.0 ≡ t = let e = d.2 in cc in
    spelled_at (codes "POS") rest (decimal a.0 ∷ signed_decimal b.0 ∷ signed_decimal c.0
    ∷ decimal d.0 ∷ []) t (Position a.0 b.0 c.0 d.0) made
    (rw (← moment.0, ← x.0, ← y.0, ← heading.0) fields.4) refl
    (moment.1, record { north = x.1; east = y.1; turn = heading.1 })

wind-spells : Spells (record { kind = codes "WND"; read = three wind_of })
wind-spells rest t is =
    let fields = three-ok wind_of rest t is in
    let a = bind_ok (moment_of fields.0) _ t fields.4 in
    let b = bind_ok (natural_of 0 MOST_WIND_SPEED fields.1) _ t a.2 in
    let c = bind_ok (angle_of fields.2) _ t b.2 in
    let moment = moment-takes fields.0 a.0 a.1 in
    let speed = natural-takes fields.1 0 MOST_WIND_SPEED b.0 b.1 (omega arith) in
    let angle = angle-takes fields.2 c.0 c.1 in
    let made : Wind a.0 b.0 c.0 ≡ t = let e = c.2 in cc in
    spelled_at (codes "WND") rest (decimal a.0 ∷ decimal b.0 ∷ decimal c.0 ∷ []) t
    (Wind a.0 b.0 c.0) made
    (rw (← moment.0, ← speed.spelled, ← angle.0) fields.3) refl
    (moment.1, record { strength = speed.below; turn = angle.1 })

setpoint-spells : Spells (record { kind = codes "SET"; read = three setpoint_of })
setpoint-spells rest t is =
    let fields = three-ok setpoint_of rest t is in
    let a = bind_ok (within_of MOST_POSITION fields.0) _ t fields.4 in
    let b = bind_ok (within_of MOST_POSITION fields.1) _ t a.2 in
    let c = bind_ok (angle_of fields.2) _ t b.2 in
    let x = whole-takes 10000000 fields.0 a.0 (omega arith) a.1 in
    let y = whole-takes 10000000 fields.1 b.0 (omega arith) b.1 in
    let heading = angle-takes fields.2 c.0 c.1 in
    let made : Setpoint a.0 b.0 c.0 ≡ t = let e = c.2 in cc in
    spelled_at (codes "SET") rest (signed_decimal a.0 ∷ signed_decimal b.0 ∷ decimal c.0 ∷ []) t
    (Setpoint a.0 b.0 c.0) made
    (rw (← x.0, ← y.0, ← heading.0) fields.3) refl
    (record { north = x.1; east = y.1; turn = heading.1 })

-- a switch of a part, which says of its parts and its name what `make` says
switch-spells : (kind on off : List ℕ) (make : List ℕ → Bool → Telegram)
    → ((name : List ℕ) (value : Bool)
    → parts_of (make name value) ≡ kind ∷ name ∷ (if value then on else off) ∷ [])
    → ((name : List ℕ) (value : Bool) → is_name name ≡ true → IsTelegram (make name value))
    → Spells (record { kind = kind; read = two (switch_of make on off) })
switch-spells kind on off make parts good rest t is =
    let fields = two-ok (switch_of make on off) rest t is in
    let a = bind_ok (name_of fields.0) _ t fields.3 in
    let b = bind_ok (word_of on off fields.1) _ t a.2 in
    let name = name-takes fields.0 a.0 a.1 in
    let value = word-takes on off fields.1 b.0 b.1 in
    let made : make a.0 b.0 ≡ t = let e = b.2 in cc in
    spelled_at kind rest (a.0 ∷ (if b.0 then on else off) ∷ []) t (make a.0 b.0) made
    (fields.2 ∙ ap (λ n. n ∷ fields.1 ∷ []) name.0 ∙ ap (λ w. a.0 ∷ w ∷ []) value) (parts a.0 b.0)
    (good a.0 b.0 name.1)

mode-spells : Spells (record { kind = codes "MOD"; read = one mode_of })
mode-spells rest t is =
    let fields = one-ok mode_of rest t is in
    let a = bind_ok (word_of (codes "MANUAL") (codes "AUTO") fields.0) _ t fields.2 in
    let value = word-takes (codes "MANUAL") (codes "AUTO") fields.0 a.0 a.1 in
    let made : Mode a.0 ≡ t = let e = a.2 in cc in
    spelled_at (codes "MOD") rest ((if a.0 then codes "MANUAL" else codes "AUTO") ∷ []) t (Mode a.0)
    made (rw (← value) fields.1) refl tt

manual-spells : Spells (record { kind = codes "MAN"; read = three manual_of })
manual-spells rest t is =
    let fields = three-ok manual_of rest t is in
    let a = bind_ok (within_of MOST_FORCE fields.0) _ t fields.4 in
    let b = bind_ok (within_of MOST_FORCE fields.1) _ t a.2 in
    let c = bind_ok (within_of MOST_MOMENT fields.2) _ t b.2 in
    let x = whole-takes _ fields.0 a.0 (omega arith) a.1 in
    let y = whole-takes _ fields.1 b.0 (omega arith) b.1 in
    let n = whole-takes _ fields.2 c.0 (omega arith) c.1 in
    let demand : Wrench = record { x = a.0; y = b.0; n = c.0 } in
    let made : Manual demand ≡ t = let e = c.2 in cc in
    spelled_at (codes "MAN") rest (signed_decimal a.0 ∷ signed_decimal b.0 ∷ signed_decimal c.0
    ∷ []) t (Manual demand) made
    (rw (← x.0, ← y.0, ← n.0) fields.3) refl
    (record { x = x.1; y = y.1; n = n.1 })

ack-spells : Spells (record { kind = codes "ACK"; read = one ack_of })
ack-spells rest t is =
    let fields = one-ok ack_of rest t is in
    let a = bind_ok (natural_of 1 LAST_ALARM fields.0) _ t fields.2 in
    let number = natural-takes fields.0 1 LAST_ALARM a.0 a.1 (omega arith) in
    let made : Ack a.0 ≡ t = let e = a.2 in cc in
    spelled_at (codes "ACK") rest (decimal a.0 ∷ []) t (Ack a.0) made
    (rw (← number.spelled) fields.1) refl
    (record { low = number.above; high = number.below })

board-spells : Spells (record { kind = codes "BRD"; read = none (Ok Board) })
board-spells rest t is =
    let fields = none-ok (Ok Board) rest t is in
    let made : Board ≡ t = let e = fields.1 in cc in
    spelled_at (codes "BRD") rest [] t Board made fields.0 refl tt

bar-spells : Spells (record { kind = codes "BAR"; read = three bar_of })
bar-spells rest t is =
    let fields = three-ok bar_of rest t is in
    let a = bind_ok (name_of fields.0) _ t fields.4 in
    let b = bind_ok (natural_of 0 (MOST_PIECES - 1) fields.1) _ t a.2 in
    let c = bind_ok (word_of (codes "BAR") (codes "FREE") fields.2) _ t b.2 in
    let name = name-takes fields.0 a.0 a.1 in
    let piece = natural-takes fields.1 0 (MOST_PIECES - 1) b.0 b.1 (omega arith) in
    let value = word-takes (codes "BAR") (codes "FREE") fields.2 c.0 c.1 in
    let made : Bar a.0 b.0 c.0 ≡ t = let e = c.2 in cc in
    spelled_at (codes "BAR") rest (a.0 ∷ decimal b.0 ∷ (if c.0 then codes "BAR" else codes "FREE")
    ∷ []) t (Bar a.0 b.0 c.0) made
    (fields.3 ∙ ap (λ n. n ∷ fields.1 ∷ fields.2 ∷ []) name.0
    ∙ ap (λ k. a.0 ∷ k ∷ fields.2 ∷ []) piece.spelled
    ∙ ap (λ w. a.0 ∷ decimal b.0 ∷ w ∷ []) value) refl
    (name.1, piece.below)

all_spell : AllSpell forms
all_spell = (
  position-spells,
  (
    wind-spells,
    (
      setpoint-spells,
      (
        switch-spells (codes "THR") (codes "IN") (codes "OUT") Thruster (λ name value. refl)
            (λ name value good. good),
        (
          switch-spells (codes "GEN") (codes "RUN") (codes "STOP") Generator (λ name value. refl)
              (λ name value good. good),
          (
            switch-spells (codes "TIE") (codes "CLOSE") (codes "OPEN") Tie (λ name value. refl)
                (λ name value good. good),
            (mode-spells, (manual-spells, (ack-spells, (board-spells, (bar-spells, tt))))),
          ),
        ),
      ),
    ),
  ),
)

by_kind : (form : Form) (others : List Form) (kind : List ℕ) (rest : List (List ℕ)) (t : Telegram)
    (same : Bool) → Spells form
    → ((is : read_by others kind rest ≡ Ok t) → IsSpelled (kind ∷ rest) t)
    → bytes_eq kind form.kind ≡ same
    → (if same then form.read rest else read_by others kind rest) ≡ Ok t → IsSpelled (kind ∷ rest) t
by_kind form others kind rest t true spells later same is =
    subst (λ (kind : List ℕ). IsSpelled (kind ∷ rest) t)
    (sym ((bytes_eq-Decides kind form.kind).0 same)) (spells rest t is)
by_kind form others kind rest t false spells later same is = later is

read_by-ok : (among : List Form) → AllSpell among
    → (kind : List ℕ) (rest : List (List ℕ)) (t : Telegram) → read_by among kind rest ≡ Ok t
    → IsSpelled (kind ∷ rest) t
read_by-ok [] all kind rest t is = absurd (cc)
read_by-ok (form ∷ others) all kind rest t is =
    by_kind form others kind rest t (bytes_eq kind form.kind) all.0
    (read_by-ok others all.1 kind rest t) refl is

telegram_of-ok : (parts : List (List ℕ)) (t : Telegram) → telegram_of parts ≡ Ok t
    → IsSpelled parts t
telegram_of-ok [] t is = absurd (cc)
telegram_of-ok (kind ∷ rest) t is = read_by-ok forms all_spell kind rest t is

-- the text of the telegram that was read of a body is the body, and the telegram is within its
-- ranges
pub text-of_telegram : (body : List ℕ) (t : Telegram) → telegram body ≡ Ok t
    → (telegram_text t ≡ body) × IsTelegram t
text-of_telegram body t is =
    let spelled = telegram_of-ok (fields body) t is in
    (ap (join_with_byte comma) spelled.0 ∙ join_with_byte-slice_split comma body, spelled.1)
