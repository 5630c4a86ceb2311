-- Which bytes are a body.
use Rattle.std.specs.Prelude.{ℕ, List, Bool, not, ◌&&◌, ◌==◌, nat_le}
use Rattle.short_text.specs.ShortTexts.{is_short_text}
use Rattle.frame.specs.declared.body.TheConstants.{MOST_BODY_BYTES}

-- what begins a frame, and what stands before its checksum
abbrev pub dollar : ℕ
dollar = 36

abbrev pub star : ℕ
star = 42

-- a byte from 0x20 to 0x7E but these two
abbrev pub is_body_byte : ℕ → Bool
is_body_byte b = nat_le 0x20 b && nat_le b 0x7E && not (b == dollar) && not (b == star)

-- 1 to 120 of these
abbrev pub is_body : List ℕ → Bool
is_body bytes = is_short_text is_body_byte MOST_BODY_BYTES bytes
