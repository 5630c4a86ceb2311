-- What is read of one field, and how what is read is spelled.
use Rattle.std.proofs.Common.{◌≡◌, ℕ, zero, suc, ◌^◌, ◌≤◌, ◌<◌, List}
use Rattle.std.proofs.Common.{Bool, true, false, ◌&&◌, ℤ, pos, negsuc, neg_ℤ, ◌≤ℤ◌}
use Rattle.std.proofs.Common.{refl, sym, subst, arith, Ok, Err, Result}
use Rattle.std.proofs.lemmas.Bool.Decides.{nat_tests}
use Rattle.std.proofs.lemmas.Int.{ints}
use Rattle.std.proofs.lemmas.Slice.Eq.{bytes_eq-Decides}
use Rattle.std.specs.Fmt.{decimal, signed_decimal}
use Rattle.std.specs.Prelude.{if◌then◌else◌, int_le, nat_abs}
use Rattle.std.specs.Str.{bytes_eq}
use Rattle.std.specs.Str.Parse.{signed_digits_value}
use Rattle.plant_model.specs.Names.{is_name}
use Rattle.plant_model.specs.Numbers.{IsWithin}
use Rattle.telegram.specs.Numbers.{is_number, number_of}
use Rattle.telegram.specs.Telegrams.{◌>>=◌, name_of, natural_of, within_of, word_of}
use Rattle.telegram.specs.declared.telegram.Reject.{Reject}
use Rattle.telegram.specs.declared.telegram.Reject.TheVariants.{Number, Range, Word}
use Rattle.telegram.proofs.NumberTexts.{IsNumber-from_test, is_number-signed_decimal, number_of-Ok}
use Rattle.telegram.proofs.NumberTexts.{signed_decimal-of_number, value-signed_decimal}

-- a step that went on
pub bind_ok : {A B : Type 0} (r : Result A Reject) (f : A → Result B Reject) (y : B)
    → (r >>= f) ≡ Ok y → (x : A) × (r ≡ Ok x) × (f x ≡ Ok y)
bind_ok (Ok x) f y is = (x, refl, is)
bind_ok (Err e) f y is = absurd (cc)

-- ---- what is read of a text that was written

number-again : (low high z : ℤ) → low ≤ℤ z → z ≤ℤ high → nat_abs z < 2 ^ 63
    → number_of (signed_decimal z) low high ≡ Ok z
number-again low high z above below small =
    number_of-Ok (signed_decimal z) low high z (is_number-signed_decimal z small)
    (value-signed_decimal z small) above below

pub natural-again : (low high n : ℕ) → low ≤ n → n ≤ high → n < 2 ^ 63
    → natural_of low high (decimal n) ≡ Ok n
natural-again low high n above below small =
    rw (number-again (pos low) (pos high) (pos n) (omega (arith, ints)) (omega (arith, ints)) small)
    refl

pub within-again : (most z : ℤ) → IsWithin most z → nat_abs z < 2 ^ 63
    → within_of most (signed_decimal z) ≡ Ok z
within-again most z within small = number-again (neg_ℤ most) most z within.low within.high small

pub name-again : (name : List ℕ) → is_name name ≡ true → name_of name ≡ Ok name
name-again name good = rw good refl

-- ---- how what was read is spelled

pub record NumberTaken (field : List ℕ) (low high z : ℤ) : Type 0 where
  pub spelled : field ≡ signed_decimal z
  pub above : low ≤ℤ z
  pub below : z ≤ℤ high

number_by_tests : (field : List ℕ) (low high z : ℤ) (good within : Bool) → is_number field ≡ good
    → (int_le low (signed_digits_value 10 field) && int_le (signed_digits_value 10 field) high)
    ≡ within
    → (if good then (if within then Ok (signed_digits_value 10 field) else Err Range)
    else Err Number) ≡ Ok z → nat_abs z < 2 ^ 64 → NumberTaken field low high z
number_by_tests field low high z true true good_is within_is is small =
    let value : signed_digits_value 10 field ≡ z = cc in
    let size : nat_abs (signed_digits_value 10 field) < 2 ^ 64 = rw value small in
    let above : low ≤ℤ (signed_digits_value 10 field) = grind (arith, ints, nat_tests) in
    let below : (signed_digits_value 10 field) ≤ℤ high = grind (arith, ints, nat_tests) in
    subst (λ (z : ℤ). NumberTaken field low high z) value
    (record {
      spelled = sym (signed_decimal-of_number field (IsNumber-from_test field good_is) size);
      above = above;
      below = below;
    })
number_by_tests field low high z true false good_is within_is is small = absurd (cc)
number_by_tests field low high z false within good_is within_is is small = absurd (cc)

pub number-takes : (field : List ℕ) (low high z : ℤ) → number_of field low high ≡ Ok z
    → nat_abs z < 2 ^ 64 → NumberTaken field low high z
number-takes field low high z is small =
    number_by_tests field low high z (is_number field) _ refl refl is small

-- a number that was read is in the range
range_by_tests : (low high value z : ℤ) (good within : Bool)
    → (int_le low value && int_le value high) ≡ within
    → (if good then (if within then Ok value else Err Range) else Err Number) ≡ Ok z
    → (low ≤ℤ z) × (z ≤ℤ high)
range_by_tests low high value z true true within_is is =
    let value_is : value ≡ z = cc in
    subst (λ (z : ℤ). (low ≤ℤ z) × (z ≤ℤ high)) value_is
    (grind (arith, ints, nat_tests), grind (arith, ints, nat_tests))
range_by_tests low high value z true false within_is is = absurd (cc)
range_by_tests low high value z false within within_is is = absurd (cc)

number-in_range : (field : List ℕ) (low high z : ℤ) → number_of field low high ≡ Ok z
    → (low ≤ℤ z) × (z ≤ℤ high)
number-in_range field low high z is =
    range_by_tests low high (signed_digits_value 10 field) z (is_number field) _ refl is

pub record NaturalTaken (field : List ℕ) (low high n : ℕ) : Type 0 where
  pub spelled : field ≡ decimal n
  pub above : low ≤ n
  pub below : n ≤ high

natural_by_sign : (field : List ℕ) (low high : ℕ) (z : ℤ) → NumberTaken field (pos low) (pos high) z
    → NaturalTaken field low high (nat_abs z)
natural_by_sign field low high (pos n) taken =
    record {
      spelled = taken.spelled;
      above = omega (arith, ints, taken.above);
      below = omega (arith, ints, taken.below);
    }
natural_by_sign field low high (negsuc n) taken = absurd (omega (arith, ints, taken.above))

small_abs : (low high : ℕ) (z : ℤ) → (pos low) ≤ℤ z → z ≤ℤ (pos high) → high < 2 ^ 64
    → nat_abs z < 2 ^ 64
small_abs low high (pos n) above below small = omega (arith, ints)
small_abs low high (negsuc n) above below small = absurd (omega (arith, ints))

pub natural-takes : (field : List ℕ) (low high n : ℕ) → natural_of low high field ≡ Ok n
    → high < 2 ^ 64 → NaturalTaken field low high n
natural-takes field low high n is small =
    let step = bind_ok (number_of field (pos low) (pos high)) (λ z. Ok (nat_abs z)) n is in
    let range = number-in_range field (pos low) (pos high) step.0 step.1 in
    let taken =
    natural_by_sign field low high step.0
    (number-takes field (pos low) (pos high) step.0 step.1
    (small_abs low high step.0 range.0 range.1 small)) in
    let is_n : nat_abs step.0 ≡ n = let e = step.2 in cc in
    subst (λ (n : ℕ). NaturalTaken field low high n) is_n taken

pub record WithinTaken (field : List ℕ) (most z : ℤ) : Type 0 where
  pub spelled : field ≡ signed_decimal z
  pub within : IsWithin most z

small_within : (most : ℕ) (z : ℤ) → (neg_ℤ (pos most)) ≤ℤ z → z ≤ℤ (pos most) → most < 2 ^ 63
    → nat_abs z < 2 ^ 64
small_within most (pos n) above below small = omega (arith, ints)
small_within zero (negsuc n) above below small = absurd (omega (arith, ints))
small_within (suc m) (negsuc n) above below small = omega (arith, ints)

pub within-takes : (field : List ℕ) (most : ℕ) (z : ℤ) → within_of (pos most) field ≡ Ok z
    → most < 2 ^ 63 → WithinTaken field (pos most) z
within-takes field most z is small =
    let range = number-in_range field (neg_ℤ (pos most)) (pos most) z is in
    let taken =
    number-takes field (neg_ℤ (pos most)) (pos most) z is
    (small_within most z range.0 range.1 small) in
    record { spelled = taken.spelled; within = record { low = taken.above; high = taken.below } }

name_by_test : (field name : List ℕ) (good : Bool) → is_name field ≡ good
    → (if good then Ok field else Err Word) ≡ Ok name → (field ≡ name) × (is_name name ≡ true)
name_by_test field name true good_is is =
    let same : field ≡ name = cc in
    (same, subst (λ (n : List ℕ). is_name n ≡ true) same good_is)
name_by_test field name false good_is is = absurd (cc)

pub name-takes : (field name : List ℕ) → name_of field ≡ Ok name
    → (field ≡ name) × (is_name name ≡ true)
name-takes field name is = name_by_test field name (is_name field) refl is

word_by_tests : (on off field : List ℕ) (is_on is_off value : Bool) → bytes_eq field on ≡ is_on
    → bytes_eq field off ≡ is_off
    → (if is_on then Ok true else (if is_off then Ok false else Err Word)) ≡ Ok value
    → field ≡ (if value then on else off)
word_by_tests on off field true is_off true on_is off_is is = (bytes_eq-Decides field on).0 on_is
word_by_tests on off field true is_off false on_is off_is is = absurd (cc)
word_by_tests on off field false true true on_is off_is is = absurd (cc)
word_by_tests on off field false true false on_is off_is is = (bytes_eq-Decides field off).0 off_is
word_by_tests on off field false false value on_is off_is is = absurd (cc)

pub word-takes : (on off field : List ℕ) (value : Bool) → word_of on off field ≡ Ok value
    → field ≡ (if value then on else off)
word-takes on off field value is =
    word_by_tests on off field (bytes_eq field on) (bytes_eq field off) value refl refl is
