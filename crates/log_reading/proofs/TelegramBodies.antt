-- The text of a telegram within its ranges is a body of a frame.
use Rattle.std.proofs.Common.{◌≡◌, ℕ, zero, suc, ◌+◌, ◌^◌, ◌≤◌, ◌<◌, List, ◌∷◌, ◌++◌, length}
use Rattle.std.proofs.Common.{Bool, true, false, if◌then◌else◌, ℤ, pos, negsuc, nat_abs, codes, refl}
use Rattle.std.proofs.Common.{arith, None, subst}
use Rattle.std.proofs.lemmas.Int.{ints}
use Rattle.std.specs.Fmt.{signed_decimal}
use Rattle.std.specs.Prelude.{Result, Ok, Err}
use Rattle.frame.specs.Bodies.{is_body}
use Rattle.plant_model.specs.Names.{is_name}
use Rattle.plant_model.specs.Numbers.{IsWithin}
use Rattle.telegram.specs.Telegrams.{IsTelegram, comma, telegram, telegram_text}
use Rattle.telegram.specs.declared.telegram.Reject.{Reject}
use Rattle.telegram.specs.declared.telegram.Telegram.{Telegram}
use Rattle.telegram.specs.declared.telegram.Telegram.TheVariants as telegrams
use Rattle.telegram.proofs.Exact.{text-of_telegram}
use Rattle.log_text.specs.Commands.{IsPart}
use Rattle.log_text.proofs.CommandBodies.{is_body-part, part-append, part-known, part-name}
use Rattle.log_text.proofs.CommandBodies.{part-signed, part-u32}
use Rattle.log_reading.specs.Calls.{telegram_of}

-- two parts with a comma between them
with_comma : {m n : ℕ} {xs ys : List ℕ} → IsPart m xs → IsPart n ys
    → IsPart (m + (1 + n)) (xs ++ comma ∷ ys)
with_comma first second = part-append first (part-append (part-known (codes ",") refl) second)

small_abs : (most : ℕ) (z : ℤ) → IsWithin (pos most) z → most < 10 ^ 10 → nat_abs z < 10 ^ 10
small_abs most (pos n) within few = omega (arith, ints, within.high)
small_abs zero (negsuc n) within few = absurd (omega (arith, ints, within.low))
small_abs (suc m) (negsuc n) within few = omega (arith, ints, within.low)

part_within : (most : ℕ) (z : ℤ) → IsWithin (pos most) z → most < 10 ^ 10
    → IsPart 11 (signed_decimal z)
part_within most z within few =
    let size = small_abs most z within few in
    part-signed 10 z (omega arith) size (omega (arith, size))

part_word : (m n : ℕ) (on off : List ℕ) (value : Bool) → IsPart m on → IsPart n off
    → IsPart (m + n) (if value then on else off)
part_word m n on off true first second =
    record { few = omega (arith, first.few); each = first.each }
part_word m n on off false first second =
    record { few = omega (arith, second.few); each = second.each }

switched : (kind on off name : List ℕ) (value : Bool) → IsPart 3 kind → IsPart 5 on → IsPart 5 off
    → is_name name ≡ true
    → IsPart 27 (kind ++ comma ∷ (name ++ comma ∷ (if value then on else off)))
switched kind on off name value first one two named =
    with_comma first (with_comma (part-name name named) (part_word 5 5 on off value one two))

known : (most : ℕ) (bytes : List ℕ) → IsPart (length bytes) bytes → length bytes ≤ most
    → IsPart most bytes
known most bytes part few = record { few = omega (arith, part.few, few); each = part.each }

pub is_body-telegram : (t : Telegram) → IsTelegram t → is_body (telegram_text t) ≡ true
is_body-telegram (telegrams.Position moment x y heading) good =
    is_body-part 49 (telegram_text (telegrams.Position moment x y heading))
    (with_comma (part-known (codes "POS") refl) (with_comma (part-u32 moment (omega (arith, good.0)))
    (with_comma (part_within _ x good.1.north (omega arith))
    (with_comma (part_within _ y good.1.east (omega arith))
    (part-u32 heading (omega (arith, good.1.turn))))))) (omega arith) (omega arith)
is_body-telegram (telegrams.Wind moment speed angle) good =
    is_body-part 36 (telegram_text (telegrams.Wind moment speed angle))
    (with_comma (part-known (codes "WND") refl) (with_comma (part-u32 moment (omega (arith, good.0)))
    (with_comma (part-u32 speed (omega (arith, good.1.strength)))
    (part-u32 angle (omega (arith, good.1.turn)))))) (omega arith) (omega arith)
is_body-telegram (telegrams.Setpoint x y heading) good =
    is_body-part 38 (telegram_text (telegrams.Setpoint x y heading))
    (with_comma (part-known (codes "SET") refl)
    (with_comma (part_within _ x good.north (omega arith))
    (with_comma (part_within _ y good.east (omega arith))
    (part-u32 heading (omega (arith, good.turn)))))) (omega arith) (omega arith)
is_body-telegram (telegrams.Thruster name selected) good =
    is_body-part 27 (telegram_text (telegrams.Thruster name selected))
    (switched (codes "THR") (codes "IN") (codes "OUT") name selected
    (part-known (codes "THR") refl) (known 5 (codes "IN") (part-known (codes "IN") refl) (omega arith))
    (known 5 (codes "OUT") (part-known (codes "OUT") refl) (omega arith)) good)
    (omega arith) (omega arith)
is_body-telegram (telegrams.Generator name running) good =
    is_body-part 27 (telegram_text (telegrams.Generator name running))
    (switched (codes "GEN") (codes "RUN") (codes "STOP") name running
    (part-known (codes "GEN") refl) (known 5 (codes "RUN") (part-known (codes "RUN") refl) (omega arith))
    (known 5 (codes "STOP") (part-known (codes "STOP") refl) (omega arith)) good)
    (omega arith) (omega arith)
is_body-telegram (telegrams.Tie name closed) good =
    is_body-part 27 (telegram_text (telegrams.Tie name closed))
    (switched (codes "TIE") (codes "CLOSE") (codes "OPEN") name closed
    (part-known (codes "TIE") refl)
    (known 5 (codes "CLOSE") (part-known (codes "CLOSE") refl) (omega arith))
    (known 5 (codes "OPEN") (part-known (codes "OPEN") refl) (omega arith)) good)
    (omega arith) (omega arith)
is_body-telegram (telegrams.Mode true) good = refl
is_body-telegram (telegrams.Mode false) good = refl
is_body-telegram (telegrams.Manual demand) good =
    is_body-part 39 (telegram_text (telegrams.Manual demand))
    (with_comma (part-known (codes "MAN") refl)
    (with_comma (part_within _ demand.x good.x (omega arith))
    (with_comma (part_within _ demand.y good.y (omega arith))
    (part_within _ demand.n good.n (omega arith))))) (omega arith) (omega arith)
is_body-telegram (telegrams.Ack number) good =
    is_body-part 14 (telegram_text (telegrams.Ack number))
    (with_comma (part-known (codes "ACK") refl) (part-u32 number (omega (arith, good.high))))
    (omega arith) (omega arith)
is_body-telegram telegrams.Board good = refl
is_body-telegram (telegrams.Bar name piece barred) good =
    is_body-part 35 (telegram_text (telegrams.Bar name piece barred))
    (with_comma (part-known (codes "BAR") refl) (with_comma (part-name name good.0)
    (with_comma (part-u32 piece (omega (arith, good.1)))
    (part_word 3 4 (codes "BAR") (codes "FREE") barred (part-known (codes "BAR") refl)
    (part-known (codes "FREE") refl))))) (omega arith) (omega arith)

by_read : (text : List ℕ) (read : Result Telegram Reject) → telegram text ≡ read
    → (is_body text ≡ true → ⊥) → telegram_of read ≡ None
by_read text (Err reject) is none = refl
by_read text (Ok t) is none =
    let spelled = text-of_telegram text t is in
    absurd (none (subst (λ (body : List ℕ). is_body body ≡ true) spelled.0
    (is_body-telegram t spelled.1)))

-- what is no body is no telegram
pub no_telegram : (text : List ℕ) → (is_body text ≡ true → ⊥) → telegram_of (telegram text) ≡ None
no_telegram text none = by_read text (telegram text) refl none
