-- The bytes of the fields of telegrams.
use Rattle.std.proofs.Common.{◌≡◌, ℕ, suc, ◌^◌, ◌≤◌, ◌<◌, List, [], ◌∷◌}
use Rattle.std.proofs.Common.{true, false, ◌==◌, not, ◌&&◌, ℤ, pos, negsuc, refl, w64, arith}
use Rattle.std.proofs.lemmas.Bool.Decides.{nat_tests}
use Rattle.std.proofs.lemmas.Fmt.{decimal_is_IsNumeral}
use Rattle.std.proofs.lemmas.List.Elements.{All-nil, All-cons}
use Rattle.std.proofs.lemmas.Str.Parse.{digit_from_value}
use Rattle.std.specs.Fmt.{decimal, signed_decimal}
use Rattle.std.specs.List.{All, list_all}
use Rattle.std.specs.Prelude.{FitsSigned, nat_abs}
use Rattle.std.specs.Str.Parse.{AllDigits}
use Rattle.frame.specs.Bodies.{is_body_byte}
use Rattle.plant_model.specs.Names.{is_name, is_name_byte}
use Rattle.telegram.specs.Telegrams.{comma}

-- the bytes are those of bodies, and none is a comma
pub record IsPlain (field : List ℕ) : Type 0 where
  pub body : list_all is_body_byte field ≡ true
  pub no_comma : All (λ b. (b == comma) ≡ false) field

plain-nil : IsPlain []
plain-nil = record { body = refl; no_comma = All-nil (λ b. (b == comma) ≡ false) }

plain-cons : (b : ℕ) (bs : List ℕ) → is_body_byte b ≡ true → (b == comma) ≡ false → IsPlain bs
    → IsPlain (b ∷ bs)
plain-cons b bs good apart plain =
    let others = plain.body in
    record {
      body = rw (good, others) refl;
      no_comma = All-cons (λ b. (b == comma) ≡ false) b bs apart plain.no_comma;
    }

plain-from_digits : (digits : List ℕ) → AllDigits 10 digits → IsPlain digits
plain-from_digits [] each = plain-nil
plain-from_digits (b ∷ bs) each =
    let here = digit_from_value b each.0 in
    let low : 48 ≤ b = here.0 in
    let high : b ≤ 57 = here.1 in
    plain-cons b bs (grind (arith, nat_tests)) (grind (arith, nat_tests))
    (plain-from_digits bs each.1)

pub plain-decimal : (n : ℕ) → n < 2 ^ 64 → IsPlain (decimal n)
plain-decimal n small = plain-from_digits (decimal n) (decimal_is_IsNumeral n small).0.1

pub plain-signed_decimal : (z : ℤ) → nat_abs z < 2 ^ 64 → IsPlain (signed_decimal z)
plain-signed_decimal (pos n) small = plain-decimal n small
plain-signed_decimal (negsuc n) small =
    plain-cons 45 (decimal (suc n)) refl refl (plain-decimal (suc n) small)

-- the same of a number of 64 bits
pub plain-fitting : (z : ℤ) → FitsSigned w64 z → IsPlain (signed_decimal z)
plain-fitting (pos n) fits = plain-signed_decimal (pos n) (omega (arith, fits.sfits))
plain-fitting (negsuc n) fits = plain-signed_decimal (negsuc n) (omega (arith, fits.sfits))

plain-from_name_bytes : (name : List ℕ) → list_all is_name_byte name ≡ true → IsPlain name
plain-from_name_bytes [] each = plain-nil
plain-from_name_bytes (b ∷ bs) each =
    let first : is_name_byte b ≡ true = grind (arith, nat_tests) in
    let others : list_all is_name_byte bs ≡ true = grind (arith, nat_tests) in
    plain-cons b bs (name_byte-body b first) (name_byte-apart b first)
    (plain-from_name_bytes bs others)
  where
    name_byte-body : (b : ℕ) → is_name_byte b ≡ true → is_body_byte b ≡ true
    name_byte-body b good = grind (arith, nat_tests)

    name_byte-apart : (b : ℕ) → is_name_byte b ≡ true → (b == comma) ≡ false
    name_byte-apart b good = grind (arith, nat_tests)

pub plain-name : (name : List ℕ) → is_name name ≡ true → IsPlain name
plain-name name good =
    let each : list_all is_name_byte name ≡ true = grind (arith, nat_tests) in
    plain-from_name_bytes name each

-- the same of bytes that are known
pub plain-known : (field : List ℕ) → list_all (λ b. is_body_byte b && not (b == comma)) field ≡ true
    → IsPlain field
plain-known [] each = plain-nil
plain-known (b ∷ bs) each =
    let good : is_body_byte b ≡ true = grind (arith, nat_tests) in
    let apart : (b == comma) ≡ false = grind (arith, nat_tests) in
    let others : list_all (λ b. is_body_byte b && not (b == comma)) bs ≡ true =
    grind (arith, nat_tests) in
    plain-cons b bs good apart (plain-known bs others)
