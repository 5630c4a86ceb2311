-- Texts of an ASCII alphabet are ASCII, so they are UTF-8.
use Rattle.std.proofs.Common.{◌≡◌, ℕ, ◌≤◌, List, [], ◌∷◌, length, Bool, true, arith}
use Rattle.std.proofs.lemmas.Bool.Decides.{nat_tests}
use Rattle.std.proofs.lemmas.Str.{IsUtf8-from_ascii}
use Rattle.std.proofs.lemmas.Str.Ascii.{IsAscii-nil, IsAscii-cons}
use Rattle.std.specs.List.{list_all}
use Rattle.std.specs.Str.{IsAscii, IsUtf8}
use Rattle.short_text.specs.ShortTexts.{is_short_text, IsAsciiAlphabet}

IsAscii-from_list_all : (has : ℕ → Bool) (bytes : List ℕ)
    → IsAsciiAlphabet has → list_all has bytes ≡ true → IsAscii bytes
IsAscii-from_list_all has [] is_ascii each = IsAscii-nil
IsAscii-from_list_all has (b ∷ bs) is_ascii each =
    let first : has b ≡ true = grind (arith, nat_tests) in
    let others : list_all has bs ≡ true = grind (arith, nat_tests) in
    IsAscii-cons b bs (is_ascii b first) (IsAscii-from_list_all has bs is_ascii others)

-- where the length fits, the test of each byte decides
pub is_short_text-from_list_all : (has : ℕ → Bool) (most : ℕ) (bytes : List ℕ) (good : Bool)
    → 1 ≤ length bytes → length bytes ≤ most → good ≡ list_all has bytes
    → good ≡ is_short_text has most bytes
is_short_text-from_list_all has most bytes good some few each = grind (arith, nat_tests)

pub IsUtf8-from_is_short_text : (has : ℕ → Bool) (most : ℕ) (bytes : List ℕ)
    → IsAsciiAlphabet has → is_short_text has most bytes ≡ true → IsUtf8 bytes
IsUtf8-from_is_short_text has most bytes is_ascii good =
    let each : list_all has bytes ≡ true = grind (arith, nat_tests) in
    IsUtf8-from_ascii bytes (IsAscii-from_list_all has bytes is_ascii each)
