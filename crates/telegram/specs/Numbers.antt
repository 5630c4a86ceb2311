-- How a number is spelled in a field, and which number it is.
use Rattle.std.specs.Prelude.{ℕ, ℤ, List, [], ◌∷◌, length, Bool, false, not, ◌&&◌, ◌||◌, ◌==◌}
use Rattle.std.specs.Prelude.{nat_le, int_le, ◌≤ℤ◌, slice_index, Result, Ok, Err, if◌then◌else◌}
use Rattle.std.specs.List.{list_all}
use Rattle.std.specs.Str.Parse.{signed_digits_value}
use Rattle.telegram.specs.declared.telegram.Reject.{Reject}
use Rattle.telegram.specs.declared.telegram.Reject.TheVariants.{Number, Range}

abbrev pub minus : ℕ
minus = 45

abbrev pub zero_digit : ℕ
zero_digit = 48

abbrev pub is_digit : ℕ → Bool
is_digit b = nat_le zero_digit b && nat_le b 57

-- one byte, or bytes of which the first is not `0`
abbrev pub is_led_well : List ℕ → Bool
is_led_well bytes = length bytes == 1 || not (slice_index bytes 0 == zero_digit)

-- `0`, or digits of which the first is not 0
abbrev pub is_natural : List ℕ → Bool
is_natural digits = nat_le 1 (length digits) && is_led_well digits && list_all is_digit digits

-- `0`, or an optional `-` and digits of which the first is not 0
abbrev pub is_number : List ℕ → Bool
is_number [] = false
is_number (b ∷ bs) =
    if b == minus then is_natural bs && not (slice_index bs 0 == zero_digit)
    else is_natural (b ∷ bs)

-- the number that a field spells, where it lies from low to high
abbrev pub number_of : List ℕ → ℤ → ℤ → Result ℤ Reject
number_of field low high =
    let value = signed_digits_value 10 field in
    if is_number field then (if int_le low value && int_le value high then Ok value else Err Range)
    else Err Number

-- the number lies from low to high
pub record IsFromTo (low high z : ℤ) : Type 0 where
  pub low_end : low ≤ℤ z
  pub high_end : z ≤ℤ high
