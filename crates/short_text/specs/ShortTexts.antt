-- Which bytes are a short text.
use Rattle.std.specs.Prelude.{◌≡◌, ◌<◌, ℕ, List, length, Bool, true, ◌&&◌, nat_le}
use Rattle.std.specs.List.{list_all}

-- each byte that passes the test is ASCII
abbrev pub IsAsciiAlphabet : (ℕ → Bool) → Type 0
IsAsciiAlphabet has = (b : ℕ) → has b ≡ true → b < 128

-- 1 to so many bytes, each of which passes the test
abbrev pub is_short_text : (ℕ → Bool) → ℕ → List ℕ → Bool
is_short_text has most bytes =
    nat_le 1 (length bytes) && nat_le (length bytes) most && list_all has bytes
