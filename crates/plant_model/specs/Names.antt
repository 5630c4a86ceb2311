-- Which bytes are a name.
use Rattle.std.specs.Prelude.{ℕ, List, Bool, ◌||◌, ◌==◌}
use Rattle.std.specs.Char.{is_ascii_alphanumeric}
use Rattle.short_text.specs.ShortTexts.{is_short_text}
use Rattle.plant_model.specs.declared.limits.TheConstants.{MOST_NAME_BYTES}

abbrev pub underscore : ℕ
underscore = 95

abbrev pub dash : ℕ
dash = 45

-- a digit, a letter, `_` or `-`
abbrev pub is_name_byte : ℕ → Bool
is_name_byte b = is_ascii_alphanumeric b || b == underscore || b == dash

-- 1 to 12 of these
abbrev pub is_name : List ℕ → Bool
is_name bytes = is_short_text is_name_byte MOST_NAME_BYTES bytes
