-- How numbers are spelled.
use Rattle.std.proofs.Common.{◌≡◌, ◌∙◌, ℕ, zero, suc, ◌^◌, ◌≤◌, ◌<◌, List, [], ◌∷◌}
use Rattle.std.proofs.Common.{length, get_or, Bool, true, false, ◌==◌, not, ◌&&◌, ℤ}
use Rattle.std.proofs.Common.{pos, negsuc, neg_ℤ, ◌≤ℤ◌, ◌<ℤ◌, refl, ap, sym}
use Rattle.std.proofs.Common.{subst, arith, w64, Ok, Err}
use Rattle.std.proofs.lemmas.Bool.Decides.{nat_tests}
use Rattle.std.proofs.lemmas.Fmt.{decimal_digit, decimal_is_IsNumeral, decimal-digits_value}
use Rattle.std.proofs.lemmas.Fmt.{first_decimal, IsAscii-from_digits}
use Rattle.std.proofs.lemmas.Int.{ints, by_lt_z}
use Rattle.std.proofs.lemmas.Str.{digit_value_digit}
use Rattle.std.proofs.lemmas.Str.Ascii.{IsAscii-cons}
use Rattle.std.proofs.lemmas.Str.Parse.{digit_from_value, numerals_by_value, tells_digits}
use Rattle.std.specs.Fmt.{decimal, signed_decimal}
use Rattle.std.specs.Int.{IsInRange}
use Rattle.std.specs.List.{list_all}
use Rattle.std.specs.Prelude.{if◌then◌else◌, FitsSigned, int_le, nat_abs}
use Rattle.std.proofs.lemmas.Str.{IsUtf8-from_ascii}
use Rattle.std.specs.Str.{IsUtf8}
use Rattle.std.specs.Str.Parse.{AllDigits, IsNumeral, digits_value, signed_digits_value}
use Rattle.std.specs.Str.Parse.{starts_with_minus, without_leading_sign}
use Rattle.telegram.specs.Numbers.{is_digit, is_led_well, is_natural, is_number, minus, number_of}
use Rattle.telegram.specs.declared.telegram.Reject.TheVariants.{Number, Range}

-- where the first byte is right, the test of each byte decides
pub is_natural-from_list_all : (digits : List ℕ) (good : Bool) → 1 ≤ length digits
    → is_led_well digits ≡ true → good ≡ list_all is_digit digits → good ≡ is_natural digits
is_natural-from_list_all digits good some led each = grind (arith, nat_tests)

-- ---- digits

AllDigits-from_list_all : (digits : List ℕ) → list_all is_digit digits ≡ true → AllDigits 10 digits
AllDigits-from_list_all [] each = tt
AllDigits-from_list_all (b ∷ bs) each =
    let low : 48 ≤ b = grind (arith, nat_tests) in
    let high : b ≤ 57 = grind (arith, nat_tests) in
    let others : list_all is_digit bs ≡ true = grind (arith, nat_tests) in
    (omega (arith, digit_value_digit b (low, high)), AllDigits-from_list_all bs others)

list_all-from_AllDigits : (digits : List ℕ) → AllDigits 10 digits → list_all is_digit digits ≡ true
list_all-from_AllDigits [] each = refl
list_all-from_AllDigits (b ∷ bs) each =
    let here : IsInRange 48 57 b = digit_from_value b each.0 in
    let others : list_all is_digit bs ≡ true = list_all-from_AllDigits bs each.1 in
    grind (arith, nat_tests)

-- what a natural number's text is
pub record IsNatural (digits : List ℕ) : Type 0 where
  pub some : 0 < length digits
  pub each : AllDigits 10 digits
  pub led : get_or digits 0 0 ≡ 48 → length digits ≡ 1

IsNatural-from_test : (digits : List ℕ) → is_natural digits ≡ true → IsNatural digits
IsNatural-from_test digits good =
    let each : list_all is_digit digits ≡ true = grind (arith, nat_tests) in
    record {
      some = grind (arith, nat_tests);
      each = AllDigits-from_list_all digits each;
      led = λ zero_first. grind (arith, nat_tests);
    }

test-from_IsNatural : (digits : List ℕ) → IsNatural digits → is_natural digits ≡ true
test-from_IsNatural digits good =
    let each : list_all is_digit digits ≡ true = list_all-from_AllDigits digits good.each in
    let some = good.some in
    let led = good.led in
    grind (arith, nat_tests)

-- the text of a number is one
IsNatural-decimal : (n : ℕ) → n < 2 ^ 64 → IsNatural (decimal n)
IsNatural-decimal zero small =
    let numeral = decimal_is_IsNumeral 0 small in
    record {
      some = numeral.0.0;
      each = numeral.0.1;
      led =
          λ zero_first. ap length (decimal_digit 0 (omega arith));
    }
IsNatural-decimal (suc n) small =
    let numeral = decimal_is_IsNumeral (suc n) small in
    record {
      some = numeral.0.0;
      each = numeral.0.1;
      led = λ zero_first. omega (arith, first_decimal (suc n) (omega arith) small);
    }

-- a natural number's text is that of its value
decimal-of_natural : (digits : List ℕ) → IsNatural digits → digits_value 10 digits < 2 ^ 64
    → decimal (digits_value 10 digits) ≡ digits
decimal-of_natural digits good small =
    decimal-digits_value (numerals_by_value _ tells_digits) digits good.each good.some good.led
    small

-- ---- numbers

-- what a number's text is: a natural number's, or a minus with a natural number's that is not 0
pub data IsNumber : List ℕ → Type 0 where
  natural : (digits : List ℕ) → IsNatural digits → starts_with_minus digits ≡ false
      → IsNumber digits
  negative : (digits : List ℕ) → IsNatural digits → 48 < get_or digits 0 0
      → IsNumber (minus ∷ digits)

below_first : (digits : List ℕ) → IsNatural digits → 48 ≤ get_or digits 0 0
below_first [] good = absurd (omega (arith, good.some))
below_first (b ∷ bs) good = (digit_from_value b good.each.0).0

not_minus : (digits : List ℕ) → IsNatural digits → starts_with_minus digits ≡ false
not_minus digits good = let first = below_first digits good in grind (arith, nat_tests)

pub IsNumber-from_test : (field : List ℕ) → is_number field ≡ true → IsNumber field
IsNumber-from_test [] good = absurd (cc)
IsNumber-from_test (b ∷ bs) good = by_first b bs (b == minus) refl good
  where
    by_first : (b : ℕ) (bs : List ℕ) (first : Bool) → (b == minus) ≡ first
        → (if first then is_natural bs && not (get_or bs 0 0 == 48) else is_natural (b ∷ bs)) ≡ true
        → IsNumber (b ∷ bs)
    by_first b bs true is good =
        let digits : is_natural bs ≡ true = grind (arith, nat_tests) in
        let natural_digits : IsNatural bs = IsNatural-from_test bs digits in
        let first = below_first bs natural_digits in
        let minus_is : b ≡ minus = grind (arith, nat_tests) in
        subst (λ (first : ℕ). IsNumber (first ∷ bs)) (sym minus_is)
        (negative bs natural_digits (grind (arith, nat_tests)))
    by_first b bs false is good =
        let digits = IsNatural-from_test (b ∷ bs) good in
        natural (b ∷ bs) digits (not_minus (b ∷ bs) digits)

test-of_natural : (digits : List ℕ) → IsNatural digits → is_number digits ≡ true
test-of_natural [] good = absurd (omega (arith, good.some))
test-of_natural (b ∷ bs) good =
    let first : 48 ≤ b = below_first (b ∷ bs) good in
    let test : (b == minus) ≡ false = grind (arith, nat_tests) in
    rw test (test-from_IsNatural (b ∷ bs) good)

test-of_negative : (digits : List ℕ) → IsNatural digits → 48 < get_or digits 0 0
    → is_number (minus ∷ digits) ≡ true
test-of_negative digits good first =
    let test : is_natural digits ≡ true = test-from_IsNatural digits good in
    grind (arith, nat_tests)

-- the text of a whole number is a number's
pub is_number-signed_decimal : (z : ℤ) → nat_abs z < 2 ^ 63 → is_number (signed_decimal z) ≡ true
is_number-signed_decimal (pos n) small =
    test-of_natural (decimal n) (IsNatural-decimal n (omega arith))
is_number-signed_decimal (negsuc n) small =
    test-of_negative (decimal (suc n)) (IsNatural-decimal (suc n) (omega arith))
    (first_decimal (suc n) (omega arith) (omega arith))

value-of_natural : (digits : List ℕ) → IsNatural digits
    → signed_digits_value 10 digits ≡ pos (digits_value 10 digits)
value-of_natural [] good = absurd (omega (arith, good.some))
value-of_natural (b ∷ bs) good =
    let here = digit_from_value b good.each.0 in
    let no_minus : (b == 45) ≡ false = grind (arith, nat_tests) in
    let no_plus : (b == 43) ≡ false = grind (arith, nat_tests) in
    rw (no_minus, no_plus) refl

-- and its value is the number
pub value-signed_decimal : (z : ℤ) → nat_abs z < 2 ^ 63
    → signed_digits_value 10 (signed_decimal z) ≡ z
value-signed_decimal (pos n) small =
    value-of_natural (decimal n) (IsNatural-decimal n (omega arith))
    ∙ ap pos (decimal_is_IsNumeral n (omega arith)).1
value-signed_decimal (negsuc n) small =
    ap (λ m. neg_ℤ (pos m)) (decimal_is_IsNumeral (suc n) (omega arith)).1

first_positive : (n : ℕ) (digits : List ℕ) → decimal n ≡ digits → 48 < get_or digits 0 0 → 0 < n
first_positive zero digits is first =
    let e : get_or digits 0 0 ≡ 48 =
    ap (λ ds. get_or ds 0 0) (sym is ∙ decimal_digit 0 (omega arith)) in
    omega arith
first_positive (suc n) digits is first = omega arith

spelled-negative : (n : ℕ) (digits : List ℕ) → decimal n ≡ digits → 0 < n
    → signed_decimal (neg_ℤ (pos n)) ≡ minus ∷ digits
spelled-negative zero digits is some = absurd (omega arith)
spelled-negative (suc n) digits is some = ap (λ ds. minus ∷ ds) is

-- a number's text is that of its value
pub signed_decimal-of_number : (field : List ℕ) → IsNumber field
    → nat_abs (signed_digits_value 10 field) < 2 ^ 64
    → signed_decimal (signed_digits_value 10 field) ≡ field
signed_decimal-of_number _ (natural digits good plain) small =
    let value = value-of_natural digits good in
    rw value (decimal-of_natural digits good (subst (λ (z : ℤ). nat_abs z < 2 ^ 64) value small))
signed_decimal-of_number _ (negative digits good first) small =
    let size : digits_value 10 digits < 2 ^ 64 = by_size (digits_value 10 digits) small in
    let is = decimal-of_natural digits good size in
    spelled-negative (digits_value 10 digits) digits is
    (first_positive (digits_value 10 digits) digits is first)
  where
    by_size : (n : ℕ) → nat_abs (neg_ℤ (pos n)) < 2 ^ 64 → n < 2 ^ 64
    by_size zero small = omega arith
    by_size (suc n) small = small

-- ---- reading

-- a number is text
pub IsUtf8-from_is_number : (field : List ℕ) → is_number field ≡ true → IsUtf8 field
IsUtf8-from_is_number field good = by_form field (IsNumber-from_test field good)
  where
    by_form : (field : List ℕ) → IsNumber field → IsUtf8 field
    by_form _ (natural digits good plain) =
        IsUtf8-from_ascii digits (IsAscii-from_digits digits good.each)
    by_form _ (negative digits good first) =
        IsUtf8-from_ascii (minus ∷ digits)
        (IsAscii-cons minus digits (omega arith) (IsAscii-from_digits digits good.each))

-- a number is what `parse` reads as one
pub IsNumeral-from_is_number : (field : List ℕ) → is_number field ≡ true
    → IsNumeral 10 (without_leading_sign field)
IsNumeral-from_is_number field good = by_form field (IsNumber-from_test field good)
  where
    plain_digits : (digits : List ℕ) → IsNatural digits → without_leading_sign digits ≡ digits
    plain_digits [] good = absurd (omega (arith, good.some))
    plain_digits (b ∷ bs) good =
        let here = digit_from_value b good.each.0 in
        let no_minus : (b == 45) ≡ false = grind (arith, nat_tests) in
        let no_plus : (b == 43) ≡ false = grind (arith, nat_tests) in
        rw (no_minus, no_plus) refl

    by_form : (field : List ℕ) → IsNumber field → IsNumeral 10 (without_leading_sign field)
    by_form _ (natural digits good plain) = rw (plain_digits digits good) (good.some, good.each)
    by_form _ (negative digits good first) = (good.some, good.each)

in_range : (field : List ℕ) (low high : ℤ) (fits : Bool) → is_number field ≡ true
    → (int_le low (signed_digits_value 10 field) && int_le (signed_digits_value 10 field) high)
    ≡ fits
    → number_of field low high ≡ (if fits then Ok (signed_digits_value 10 field) else Err Range)
in_range field low high fits good is = rw (good, is) refl

-- what is read of a number
pub number_of-Ok : (field : List ℕ) (low high z : ℤ) → is_number field ≡ true
    → signed_digits_value 10 field ≡ z → low ≤ℤ z → z ≤ℤ high → number_of field low high ≡ Ok z
number_of-Ok field low high z good value above below =
    in_range field low high true good (rw value (grind (arith, ints, nat_tests))) ∙ ap Ok value

pub number_of-below : (field : List ℕ) (low high : ℤ) → is_number field ≡ true
    → (signed_digits_value 10 field) <ℤ low → number_of field low high ≡ Err Range
number_of-below field low high good below =
    in_range field low high false good (grind (arith, ints, nat_tests))

pub number_of-above : (field : List ℕ) (low high : ℤ) → is_number field ≡ true
    → high <ℤ (signed_digits_value 10 field) → number_of field low high ≡ Err Range
number_of-above field low high good above =
    in_range field low high false good (grind (arith, ints, nat_tests))

fits_between : (low z high : ℤ) → low ≤ℤ z → z ≤ℤ high → FitsSigned w64 low → FitsSigned w64 high
    → FitsSigned w64 z
fits_between low (pos n) (pos h) above below low_fits high_fits =
    record { sfits = omega (arith, ints, high_fits.sfits) }
fits_between low (pos n) (negsuc h) above below low_fits high_fits = absurd (omega (arith, ints))
fits_between (pos l) (negsuc n) high above below low_fits high_fits = absurd (omega (arith, ints))
fits_between (negsuc l) (negsuc n) high above below low_fits high_fits =
    record { sfits = omega (arith, ints, low_fits.sfits) }

-- what is no text spells no number
pub number_of-no_text : (field : List ℕ) (low high : ℤ) → ¬ (IsUtf8 field)
    → Err Number ≡ number_of field low high
number_of-no_text field low high other = by_test (is_number field) refl
  where
    by_test : (good : Bool) → good ≡ is_number field → Err Number ≡ number_of field low high
    by_test true is = absurd (other (IsUtf8-from_is_number field (sym is)))
    by_test false is = grind (arith, is)

-- a number that `parse` does not read at 64 bits is out of every range of theirs
pub number_of-unread : (field : List ℕ) (low high : ℤ) → is_number field ≡ true → FitsSigned w64 low
    → FitsSigned w64 high
    → ¬ (IsNumeral 10 (without_leading_sign field) × FitsSigned w64 (signed_digits_value 10 field))
    → Err Range ≡ number_of field low high
number_of-unread field low high good low_fits high_fits unread =
    let value = signed_digits_value 10 field in
    by_lt_z value low (λ below. sym (number_of-below field low high good below)) (λ from_low.
    by_lt_z high value (λ above. sym (number_of-above field low high good above)) (λ to_high.
    absurd
    (unread (
      IsNumeral-from_is_number field good,
      fits_between low value high from_low to_high low_fits high_fits,
    ))))
