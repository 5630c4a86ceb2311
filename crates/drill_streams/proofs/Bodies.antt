-- The bodies of a drill's telegrams: bytes of bodies, and few.
use Rattle.std.proofs.Common.{◌≡◌, ◌∙◌, ℕ, ◌+◌, ◌^◌, ◌≤◌, ◌<◌, List, ◌∷◌, ◌++◌, length}
use Rattle.std.proofs.Common.{true, nat_le, suc, ℤ, pos, negsuc, refl, arith, codes, length-append}
use Rattle.std.proofs.lemmas.Bool.Decides.{nat_tests}
use Rattle.std.proofs.lemmas.Fmt.{length-decimal-le}
use Rattle.std.proofs.lemmas.List.Folds.{list_all-append}
use Rattle.std.specs.Fmt.{decimal, signed_decimal}
use Rattle.std.specs.List.{list_all}
use Rattle.std.specs.Prelude.{nat_abs}
use Rattle.frame.specs.Bodies.{is_body, is_body_byte}
use Rattle.frame.specs.declared.body.TheConstants.{MOST_BODY_BYTES}
use Rattle.telegram.specs.Telegrams.{comma, telegram_text}
use Rattle.telegram.specs.declared.telegram.Telegram.TheVariants.{Position, Wind}
use Rattle.telegram.proofs.TextBytes.{plain-decimal, plain-signed_decimal}

-- a part of a body: at most so many bytes, all of them those of bodies
pub record IsPart (most : ℕ) (bytes : List ℕ) : Type 0 where
  pub few : length bytes ≤ most
  pub each : list_all is_body_byte bytes ≡ true

-- a field more, after a comma
part-field : (m n : ℕ) (xs ys : List ℕ) → IsPart m xs → IsPart n ys
    → IsPart (m + 1 + n) (xs ++ comma ∷ ys)
part-field m n xs ys first second =
    let front = first.each in
    let back = second.each in
    record {
      few = omega (arith, length-append xs (comma ∷ ys), first.few, second.few);
      each = list_all-append is_body_byte xs (comma ∷ ys) ∙ rw (front, back) refl;
    }

part-known : (most : ℕ) (bytes : List ℕ) → nat_le (length bytes) most ≡ true
    → list_all is_body_byte bytes ≡ true → IsPart most bytes
part-known most bytes few each = record { few = grind (arith, nat_tests); each = each }

part-wider : (few many : ℕ) (bytes : List ℕ) → few ≤ many → IsPart few bytes → IsPart many bytes
part-wider few many bytes fewer part = record { few = omega (arith, part.few); each = part.each }

part-decimal : (k n : ℕ) → 0 < k → n < 10 ^ k → n < 2 ^ 64 → IsPart k (decimal n)
part-decimal k n some below small = record {
  few = length-decimal-le k n some below small;
  each = (plain-decimal n small).body;
}

-- a body of at most 35 bytes
pub record IsShortBody (bytes : List ℕ) : Type 0 where
  pub body : is_body bytes ≡ true
  pub few : length bytes ≤ 35

body-part : (bytes : List ℕ) → length bytes ≤ MOST_BODY_BYTES → 1 ≤ length bytes
    → list_all is_body_byte bytes ≡ true → is_body bytes ≡ true
body-part bytes few some each = grind (arith, nat_tests)

short-part : (most : ℕ) (bytes : List ℕ) → most ≤ 35 → 0 < length bytes → IsPart most bytes
    → IsShortBody bytes
short-part most bytes small some part =
    let few : length bytes ≤ 35 = omega (arith, part.few) in
    record { body = body-part bytes (omega arith) (omega arith) part.each; few = few }

-- ---- telegrams

part-wind : (moment speed angle : ℕ) → moment < 10 ^ 8 → speed < 10 ^ 3 → angle < 10 ^ 5
    → IsPart 22 (telegram_text (Wind moment speed angle))
part-wind moment speed angle m s a =
    part-field 3 18 (codes "WND") (decimal moment ++ comma ∷ (decimal speed ++ comma ∷ decimal angle))
    (part-known 3 (codes "WND") refl refl)
    (part-field 8 9 (decimal moment) (decimal speed ++ comma ∷ decimal angle)
    (part-decimal 8 moment (omega arith) m (omega arith))
    (part-field 3 5 (decimal speed) (decimal angle)
    (part-decimal 3 speed (omega arith) s (omega arith))
    (part-decimal 5 angle (omega arith) a (omega arith))))

pub short-wind : (moment speed angle : ℕ) → moment < 10 ^ 8 → speed < 10 ^ 3 → angle < 10 ^ 5
    → IsShortBody (telegram_text (Wind moment speed angle))
short-wind moment speed angle m s a =
    short-part 22 (telegram_text (Wind moment speed angle)) (omega arith) (omega arith)
    (part-wind moment speed angle m s a)

part-signed : (z : ℤ) → nat_abs z < 99 → IsPart 3 (signed_decimal z)
part-signed (pos n) small = part-wider 2 3 (decimal n) (omega arith)
    (part-decimal 2 n (omega arith) (omega arith) (omega arith))
part-signed (negsuc n) small =
    let digits = (part-decimal 2 (suc n) (omega arith) (omega arith) (omega arith)).few in
    record {
      few = omega arith;
      each = (plain-signed_decimal (negsuc n) (omega arith)).body;
    }

part-position : (moment : ℕ) (x y : ℤ) → moment < 10 ^ 8 → nat_abs x < 99 → nat_abs y < 99
    → IsPart 22 (telegram_text (Position moment x y 0))
part-position moment x y m near_x near_y =
    part-field 3 18 (codes "POS")
    (decimal moment ++ comma ∷ (signed_decimal x ++ comma ∷ (signed_decimal y ++ comma ∷ decimal 0)))
    (part-known 3 (codes "POS") refl refl)
    (part-field 8 9 (decimal moment)
    (signed_decimal x ++ comma ∷ (signed_decimal y ++ comma ∷ decimal 0))
    (part-decimal 8 moment (omega arith) m (omega arith))
    (part-field 3 5 (signed_decimal x) (signed_decimal y ++ comma ∷ decimal 0) (part-signed x near_x)
    (part-field 3 1 (signed_decimal y) (decimal 0) (part-signed y near_y)
    (part-decimal 1 0 (omega arith) (omega arith) (omega arith)))))

pub short-position : (moment : ℕ) (x y : ℤ) → moment < 10 ^ 8 → nat_abs x < 99 → nat_abs y < 99
    → IsShortBody (telegram_text (Position moment x y 0))
short-position moment x y m near_x near_y =
    short-part 22 (telegram_text (Position moment x y 0)) (omega arith) (omega arith)
    (part-position moment x y m near_x near_y)
