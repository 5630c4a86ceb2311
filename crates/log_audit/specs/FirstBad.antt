-- Where a text that isn't accepted is bad first.
use Rattle.std.specs.Prelude.{◌≡◌, ◌⊎◌, ℕ, ◌+◌, ◌≤◌, ◌<◌, List, ◌++◌, length, take}
use Rattle.std.specs.List.{flat_map}
use Rattle.frame.specs.Frames.{whole_lines}
use Rattle.log_text.specs.Lines.{line}

-- these lines, each with its line feed
abbrev pub text_of : List (List ℕ) → List ℕ
text_of lines = flat_map line lines

-- the first lines of a text, as many as it has, each with its line feed
abbrev pub first_lines : ℕ → List ℕ → List ℕ
first_lines count text = text_of (take count (whole_lines text))

-- some text of these begins with the first lines of this one
abbrev pub SomeBegins : (List ℕ → Type 0) → ℕ → List ℕ → Type 0
SomeBegins Is count text = (rest : List ℕ) × Is (first_lines count text ++ rest)

-- The line of this number is the first up to which no text of these begins so. Behind the whole lines
-- there is one line more, which is bad: a last piece without a line feed, or the text's end.
pub record IsFirstBad (Is : List ℕ → Type 0) (text : List ℕ) (number : ℕ) : Type 0 where
  pub from_1 : 1 ≤ number
  pub before : (earlier : ℕ) → 1 ≤ earlier → earlier < number → SomeBegins Is earlier text
  pub bad : ((number ≤ length (whole_lines text)) × (¬ SomeBegins Is number text))
      ⊎ (number ≡ length (whole_lines text) + 1)
