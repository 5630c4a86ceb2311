-- Numbers as fields, and the number that a field spells.
use Rattle.std.proofs.Common.{◌≡◌, ◌∙◌, ℕ, zero, suc, ◌/◌, ◌%◌, ◌^◌, ◌<◌, List, [], ◌∷◌, Bool}
use Rattle.std.proofs.Common.{true, false, ◌==◌, if◌then◌else◌, ℤ, pos, negsuc}
use Rattle.std.proofs.Common.{neg_ℤ, nat_abs, refl, ap, arith}
use Rattle.std.proofs.lemmas.Bool.Decides.{nat_tests}
use Rattle.std.proofs.lemmas.Fmt.{decimal_is_IsNumeral_wide}
use Rattle.std.specs.Fmt.{decimal, digit_glyph, digits, digits_onto, signed_decimal}
use Rattle.std.specs.List.{list_all}
use Rattle.std.specs.Str.Parse.{digits_value}
use Rattle.telegram.specs.Numbers.{is_digit, minus}
use Rattle.log_text.proofs.ToldFields.{all_good-cons, all_good-head, all_good-tail, is_field}
use Rattle.log_text.proofs.ToldFields.{is_field_byte}

-- ---- bytes

digit-glyph : (d : ℕ) → d < 10 → is_digit (digit_glyph false d) ≡ true
digit-glyph d small = grind (arith, nat_tests)

digits-choice : (ended : Bool) (here rest : List ℕ) → list_all is_digit here ≡ true
    → list_all is_digit rest ≡ true → list_all is_digit (if ended then here else rest) ≡ true
digits-choice true here rest first second = first
digits-choice false here rest first second = second

digits-onto : (k n : ℕ) (after : List ℕ) → list_all is_digit after ≡ true
    → list_all is_digit (digits_onto k 10 false n after) ≡ true
digits-onto zero n after good = good
digits-onto (suc k) n after good =
    let glyph = digit_glyph false (n % 10) in
    let more = all_good-cons is_digit glyph after (digit-glyph (n % 10) (omega arith)) good in
    digits-choice (n / 10 == 0) (glyph ∷ after) (digits_onto k 10 false (n / 10) (glyph ∷ after))
    more (digits-onto k (n / 10) (glyph ∷ after) more)

pub digits-decimal : (n : ℕ) → list_all is_digit (decimal n) ≡ true
unfolding digits
digits-decimal n = digits-onto 64 n [] refl

field_byte-from_digit : (b : ℕ) → is_digit b ≡ true → is_field_byte b ≡ true
field_byte-from_digit b good = grind (arith, nat_tests)

field-digits : (digits : List ℕ) → list_all is_digit digits ≡ true → is_field digits ≡ true
field-digits [] good = refl
field-digits (b ∷ bs) good =
    all_good-cons is_field_byte b bs
    (field_byte-from_digit b (all_good-head is_digit b bs good))
    (field-digits bs (all_good-tail is_digit b bs good))

-- the text of a number is a field
pub field-decimal : (n : ℕ) → is_field (decimal n) ≡ true
field-decimal n = field-digits (decimal n) (digits-decimal n)

pub field-signed : (z : ℤ) → is_field (signed_decimal z) ≡ true
field-signed (pos n) = field-decimal n
field-signed (negsuc n) =
    all_good-cons is_field_byte minus (decimal (suc n)) refl (field-decimal (suc n))

-- ---- values

-- the number that a field spells
abbrev pub number_in : List ℕ → ℕ
number_in field = digits_value 10 field

-- the number that a field spells, where a minus may stand first
abbrev pub signed_in : List ℕ → ℤ
signed_in [] = pos 0
signed_in (b ∷ bs) = if b == minus then neg_ℤ (pos (number_in bs)) else pos (number_in (b ∷ bs))

pub number-told : (n : ℕ) → n < 10 ^ 64 → number_in (decimal n) ≡ n
number-told n small = (decimal_is_IsNumeral_wide n small).1

no_minus : (b : ℕ) → is_digit b ≡ true → (b == minus) ≡ false
no_minus b good = grind (arith, nat_tests)

signed_in-digits : (digits : List ℕ) → list_all is_digit digits ≡ true
    → signed_in digits ≡ pos (number_in digits)
signed_in-digits [] good = refl
signed_in-digits (b ∷ bs) good = rw (no_minus b (all_good-head is_digit b bs good)) refl

pub signed-told : (z : ℤ) → nat_abs z < 10 ^ 64 → signed_in (signed_decimal z) ≡ z
signed-told (pos n) small =
    signed_in-digits (decimal n) (digits-decimal n) ∙ ap pos (number-told n small)
signed-told (negsuc n) small =
    ap (λ (m : ℕ). neg_ℤ (pos m)) (number-told (suc n) small)
