-- Numbers are read of their own spelling alone.
use Rattle.std.proofs.Common.{◌≡◌, ◌∙◌, ℕ, suc, ◌^◌, ◌<◌, ◌-◌, List, [], ◌∷◌, length, Bool}
use Rattle.std.proofs.Common.{true, false, ◌&&◌, ◌==◌, if◌then◌else◌, Option, Some, None, ℤ, pos}
use Rattle.std.proofs.Common.{negsuc, neg_ℤ, nat_abs, ◌≤ℤ◌, FitsSigned, refl, ap, sym, subst, arith}
use Rattle.std.proofs.lemmas.Bool.Decides.{nat_tests}
use Rattle.std.proofs.lemmas.Fmt.{decimal_is_IsNumeral_wide}
use Rattle.std.proofs.lemmas.Int.{ints}
use Rattle.std.proofs.lemmas.Option.{same_Some}
use Rattle.std.proofs.lemmas.Slice.Eq.{bytes_eq-Decides}
use Rattle.std.proofs.lemmas.Str.Parse.{digit_from_value}
use Rattle.std.specs.Fmt.{decimal, signed_decimal}
use Rattle.std.specs.Int.{w32, w64, w128}
use Rattle.std.specs.Prelude.{int_le}
use Rattle.std.specs.Str.{bytes_eq}
use Rattle.std.specs.Str.Parse.{AllDigits, IsNumeral, digits_value, signed_digits_value}
use Rattle.std.specs.Str.Parse.{without_leading_sign}
use Rattle.telegram.specs.Numbers.{IsFromTo}
use Rattle.log_text.specs.Fits.{FitsWord}
use Rattle.log_text.proofs.ToldFields.{both_true}
use Rattle.log_reading.specs.Fields.{i128_of, i32_of, i64_of, number_in, u32_of, word_of}
use Rattle.log_reading.proofs.Inverses.{Inverts, bind_some, closed, if_some}

-- ---- values

value-of_digits : (digits : List ℕ) → 0 < length digits → AllDigits 10 digits
    → signed_digits_value 10 digits ≡ pos (digits_value 10 digits)
value-of_digits [] some each = absurd (omega (arith, some))
value-of_digits (b ∷ bs) some each =
    let here = digit_from_value b each.0 in
    let no_minus : (b == 45) ≡ false = grind (arith, nat_tests) in
    let no_plus : (b == 43) ≡ false = grind (arith, nat_tests) in
    rw (no_minus, no_plus) refl

-- the value of a number's text is the number
pub value-spelled : (z : ℤ) → nat_abs z < 10 ^ 64
    → signed_digits_value 10 (signed_decimal z) ≡ z
value-spelled (pos n) small =
    let numeral = decimal_is_IsNumeral_wide n small in
    value-of_digits (decimal n) numeral.0.0 numeral.0.1 ∙ ap pos numeral.1
value-spelled (negsuc n) small =
    ap (λ (m : ℕ). neg_ℤ (pos m)) (decimal_is_IsNumeral_wide (suc n) small).1

plain_digits : (digits : List ℕ) → 0 < length digits → AllDigits 10 digits
    → without_leading_sign digits ≡ digits
plain_digits [] some each = absurd (omega (arith, some))
plain_digits (b ∷ bs) some each =
    let here = digit_from_value b each.0 in
    let no_minus : (b == 45) ≡ false = grind (arith, nat_tests) in
    let no_plus : (b == 43) ≡ false = grind (arith, nat_tests) in
    rw (no_minus, no_plus) refl

-- and it is digits, after a sign where it has one
pub numeral-spelled : (z : ℤ) → nat_abs z < 10 ^ 64
    → IsNumeral 10 (without_leading_sign (signed_decimal z))
numeral-spelled (pos n) small =
    let numeral = decimal_is_IsNumeral_wide n small in
    rw (plain_digits (decimal n) numeral.0.0 numeral.0.1) numeral.0
numeral-spelled (negsuc n) small = (decimal_is_IsNumeral_wide (suc n) small).0

-- ---- numbers in a range

test-below : (a b : ℤ) → a ≤ℤ b → int_le a b ≡ true
test-below a b below = grind (arith, ints, nat_tests)

below-test : (a b : ℤ) → int_le a b ≡ true → a ≤ℤ b
below-test a b test = grind (arith, ints, nat_tests)

by_tests : (z : ℤ) (low high spelled : Bool) → low ≡ true → high ≡ true → spelled ≡ true
    → (if low && high && spelled then Some z else None) ≡ Some z
by_tests z low high spelled low_is high_is spelled_is = rw (low_is, high_is, spelled_is) refl

pub number-of_value : (low high z : ℤ) (field : List ℕ) → signed_digits_value 10 field ≡ z
    → low ≤ℤ z → z ≤ℤ high → signed_decimal z ≡ field → number_in low high field ≡ Some z
number-of_value low high z field value above below spelled =
    rw value
    (by_tests z (int_le low z) (int_le z high) (bytes_eq (signed_decimal z) field)
    (test-below low z above) (test-below z high below)
    ((bytes_eq-Decides (signed_decimal z) field).1 spelled))

pub number-again : (low high z : ℤ) → nat_abs z < 10 ^ 64 → IsFromTo low high z
    → number_in low high (signed_decimal z) ≡ Some z
number-again low high z small within =
    number-of_value low high z (signed_decimal z) (value-spelled z small) within.low_end
    within.high_end refl

pub number-takes : (low high : ℤ) (field : List ℕ) (z : ℤ) → number_in low high field ≡ Some z
    → (field ≡ signed_decimal z) × IsFromTo low high z
number-takes low high field z is =
    let value = signed_digits_value 10 field in
    let passed = if_some (int_le low value && int_le value high
    && bytes_eq (signed_decimal value) field) (Some value) z is in
    let outer = both_true (int_le low value && int_le value high)
    (bytes_eq (signed_decimal value) field) passed.0 in
    let inner = both_true (int_le low value) (int_le value high) outer.0 in
    closed (List ℕ) ℤ signed_decimal (IsFromTo low high) field value z passed.1
    (sym ((bytes_eq-Decides (signed_decimal value) field).0 outer.1))
    (record {
      low_end = below-test low value inner.0;
      high_end = below-test value high inner.1;
    })

-- ---- numbers of their types

u32_spells : (z : ℤ) (n : ℕ) (field : List ℕ) → nat_abs z ≡ n
    → IsFromTo (pos 0) (pos (2 ^ 32 - 1)) z → field ≡ signed_decimal z
    → (field ≡ decimal n) × FitsWord n
u32_spells (pos m) n field is within spelled =
    (spelled ∙ ap decimal is, subst FitsWord is (omega (arith, ints, within.high_end)))
u32_spells (negsuc m) n field is within spelled = absurd (omega (arith, ints, within.low_end))

u32_takes : (field : List ℕ) (n : ℕ) → u32_of field ≡ Some n → (field ≡ decimal n) × FitsWord n
u32_takes field n is =
    let step = bind_some (number_in (pos 0) (pos (2 ^ 32 - 1)) field) (λ z. Some (nat_abs z)) n is in
    let taken = number-takes (pos 0) (pos (2 ^ 32 - 1)) field step.0 step.1 in
    u32_spells step.0 n field (same_Some (nat_abs step.0) n step.2) taken.1 taken.0

u32_again : (n : ℕ) → FitsWord n → u32_of (decimal n) ≡ Some n
u32_again n fits =
    let within : IsFromTo (pos 0) (pos (2 ^ 32 - 1)) (pos n) =
    record { low_end = omega (arith, ints); high_end = omega (arith, ints) } in
    rw (number-again (pos 0) (pos (2 ^ 32 - 1)) (pos n) (omega (arith, fits)) within) refl

pub u32-inverts : Inverts (List ℕ) ℕ u32_of decimal FitsWord
u32-inverts = record { again = u32_again; takes = u32_takes }

fits32 : (z : ℤ) → IsFromTo (neg_ℤ (pos (2 ^ 31))) (pos (2 ^ 31 - 1)) z → FitsSigned w32 z
fits32 (pos n) within = record { sfits = omega (arith, ints, within.high_end) }
fits32 (negsuc n) within = record { sfits = omega (arith, ints, within.low_end) }

within32 : (z : ℤ) → FitsSigned w32 z → IsFromTo (neg_ℤ (pos (2 ^ 31))) (pos (2 ^ 31 - 1)) z
within32 (pos n) fits =
    record { low_end = omega (arith, ints); high_end = omega (arith, ints, fits.sfits) }
within32 (negsuc n) fits =
    record { low_end = omega (arith, ints, fits.sfits); high_end = omega (arith, ints) }

fits64 : (z : ℤ) → IsFromTo (neg_ℤ (pos (2 ^ 63))) (pos (2 ^ 63 - 1)) z → FitsSigned w64 z
fits64 (pos n) within = record { sfits = omega (arith, ints, within.high_end) }
fits64 (negsuc n) within = record { sfits = omega (arith, ints, within.low_end) }

within64 : (z : ℤ) → FitsSigned w64 z → IsFromTo (neg_ℤ (pos (2 ^ 63))) (pos (2 ^ 63 - 1)) z
within64 (pos n) fits =
    record { low_end = omega (arith, ints); high_end = omega (arith, ints, fits.sfits) }
within64 (negsuc n) fits =
    record { low_end = omega (arith, ints, fits.sfits); high_end = omega (arith, ints) }

fits128 : (z : ℤ) → IsFromTo (neg_ℤ (pos (2 ^ 127))) (pos (2 ^ 127 - 1)) z → FitsSigned w128 z
fits128 (pos n) within = record { sfits = omega (arith, ints, within.high_end) }
fits128 (negsuc n) within = record { sfits = omega (arith, ints, within.low_end) }

within128 : (z : ℤ) → FitsSigned w128 z → IsFromTo (neg_ℤ (pos (2 ^ 127))) (pos (2 ^ 127 - 1)) z
within128 (pos n) fits =
    record { low_end = omega (arith, ints); high_end = omega (arith, ints, fits.sfits) }
within128 (negsuc n) fits =
    record { low_end = omega (arith, ints, fits.sfits); high_end = omega (arith, ints) }

small32 : (z : ℤ) → FitsSigned w32 z → nat_abs z < 10 ^ 64
small32 (pos n) fits = omega (arith, fits.sfits)
small32 (negsuc n) fits = omega (arith, fits.sfits)

small64 : (z : ℤ) → FitsSigned w64 z → nat_abs z < 10 ^ 64
small64 (pos n) fits = omega (arith, fits.sfits)
small64 (negsuc n) fits = omega (arith, fits.sfits)

small128 : (z : ℤ) → FitsSigned w128 z → nat_abs z < 10 ^ 64
small128 (pos n) fits = omega (arith, fits.sfits)
small128 (negsuc n) fits = omega (arith, fits.sfits)

module _ (low high : ℤ) (Fits : ℤ → Type 0) (fits : (z : ℤ) → IsFromTo low high z → Fits z)
    (within : (z : ℤ) → Fits z → IsFromTo low high z)
    (small : (z : ℤ) → Fits z → nat_abs z < 10 ^ 64) where
  typed_takes : (field : List ℕ) (z : ℤ) → number_in low high field ≡ Some z
      → (field ≡ signed_decimal z) × Fits z
  typed_takes field z is =
      let taken = number-takes low high field z is in
      (taken.0, fits z taken.1)

  typed-inverts : Inverts (List ℕ) ℤ (number_in low high) signed_decimal Fits
  typed-inverts = record {
    again = λ z good. number-again low high z (small z good) (within z good);
    takes = typed_takes;
  }

pub i32-inverts : Inverts (List ℕ) ℤ i32_of signed_decimal (FitsSigned w32)
i32-inverts = typed-inverts (neg_ℤ (pos (2 ^ 31))) (pos (2 ^ 31 - 1)) (FitsSigned w32) fits32
    within32 small32

pub i64-inverts : Inverts (List ℕ) ℤ i64_of signed_decimal (FitsSigned w64)
i64-inverts = typed-inverts (neg_ℤ (pos (2 ^ 63))) (pos (2 ^ 63 - 1)) (FitsSigned w64) fits64
    within64 small64

pub i128-inverts : Inverts (List ℕ) ℤ i128_of signed_decimal (FitsSigned w128)
i128-inverts = typed-inverts (neg_ℤ (pos (2 ^ 127))) (pos (2 ^ 127 - 1)) (FitsSigned w128) fits128
    within128 small128

-- ---- words

word_by_tests : (on off field : List ℕ) (is_on is_off value : Bool) → bytes_eq field on ≡ is_on
    → bytes_eq field off ≡ is_off
    → (if is_on then Some true else (if is_off then Some false else None)) ≡ Some value
    → field ≡ (if value then on else off)
word_by_tests on off field true is_off true on_is off_is is = (bytes_eq-Decides field on).0 on_is
word_by_tests on off field true is_off false on_is off_is is = absurd (cc)
word_by_tests on off field false true true on_is off_is is = absurd (cc)
word_by_tests on off field false true false on_is off_is is = (bytes_eq-Decides field off).0 off_is
word_by_tests on off field false false value on_is off_is is = absurd (cc)

pub word-takes : (on off field : List ℕ) (value : Bool) → word_of on off field ≡ Some value
    → field ≡ (if value then on else off)
word-takes on off field value is =
    word_by_tests on off field (bytes_eq field on) (bytes_eq field off) value refl refl is

-- ---- what isn't read

none_from : {A : Type 0} (read : Option A) → ((x : A) → read ≡ Some x → ⊥) → read ≡ None
none_from None never = refl
none_from (Some x) never = absurd (never x refl)

-- what is read has its value
value-taken : (low high : ℤ) (field : List ℕ) (z : ℤ) → number_in low high field ≡ Some z
    → signed_digits_value 10 field ≡ z
value-taken low high field z is =
    let value = signed_digits_value 10 field in
    same_Some value z (if_some (int_le low value && int_le value high
    && bytes_eq (signed_decimal value) field) (Some value) z is).1

fits_between : (low z high : ℤ) → IsFromTo low high z → FitsSigned w128 low → FitsSigned w128 high
    → FitsSigned w128 z
fits_between low (pos n) (pos h) within low_fits high_fits =
    record { sfits = omega (arith, ints, within.high_end, high_fits.sfits) }
fits_between low (pos n) (negsuc h) within low_fits high_fits =
    absurd (omega (arith, ints, within.high_end))
fits_between (pos l) (negsuc n) high within low_fits high_fits =
    absurd (omega (arith, ints, within.low_end))
fits_between (negsuc l) (negsuc n) high within low_fits high_fits =
    record { sfits = omega (arith, ints, within.low_end, low_fits.sfits) }

-- a field that `parse` doesn't read spells no number in a range of its type
pub number-unread : (low high : ℤ) (field : List ℕ) → FitsSigned w128 low → FitsSigned w128 high
    → ¬ (IsNumeral 10 (without_leading_sign field)
    × FitsSigned w128 (signed_digits_value 10 field))
    → number_in low high field ≡ None
number-unread low high field low_fits high_fits unread =
    none_from (number_in low high field) (λ z is.
    let taken = number-takes low high field z is in
    let fits = fits_between low z high taken.1 low_fits high_fits in
    let numeral = subst (λ (t : List ℕ). IsNumeral 10 (without_leading_sign t)) (sym taken.0)
    (numeral-spelled z (small128 z fits)) in
    unread (numeral, subst (FitsSigned w128) (sym (value-taken low high field z is)) fits))

pub number-outside : (low high value : ℤ) (field : List ℕ) → signed_digits_value 10 field ≡ value
    → (IsFromTo low high value → ⊥) → number_in low high field ≡ None
number-outside low high value field is outside =
    none_from (number_in low high field) (λ z read.
    outside (subst (IsFromTo low high) (sym (value-taken low high field z read) ∙ is)
    (number-takes low high field z read).1))

pub number-otherwise : (low high value : ℤ) (field : List ℕ) → signed_digits_value 10 field ≡ value
    → (signed_decimal value ≡ field → ⊥) → number_in low high field ≡ None
number-otherwise low high value field is otherwise =
    none_from (number_in low high field) (λ z read.
    otherwise (ap signed_decimal (sym is ∙ value-taken low high field z read)
    ∙ sym (number-takes low high field z read).0))
