-- Where a text that isn't all that a session writes is bad first.
use Rattle.std.specs.Prelude.{◌≡◌, ◌⊎◌, ℕ, ◌+◌, ◌-◌, ◌≤◌, List, ◌++◌, length, take, drop, codes}
use Rattle.std.specs.Prelude.{Bool, false, Option, Some, None}
use Rattle.std.specs.List.{AllByRecursion, position}
use Rattle.std.specs.Str.{bytes_eq}
use Rattle.frame.specs.Frames.{whole_lines}
use Rattle.plant_model.specs.declared.plant.Parts.{Parts}
use Rattle.plant_core.specs.declared.call.Entry.{Entry}
use Rattle.log_text.specs.Commands.{commands_text}
use Rattle.log_text.specs.Texts.{report_text}
use Rattle.log_audit.specs.Accepted.{Tells, log_part, session_text}
use Rattle.log_audit.specs.FirstBad.{IsFirstBad, first_lines}

-- the line of this number is the first at which two texts differ
pub record IsFirstOther (text other : List ℕ) (number : ℕ) : Type 0 where
  pub from_1 : 1 ≤ number
  pub same : first_lines (number - 1) text ≡ first_lines (number - 1) other
  pub differs : ¬ (first_lines number text ≡ first_lines number other)

-- a line that begins a log
abbrev pub begins_log : List ℕ → Bool
begins_log own = bytes_eq (take 4 own) (codes "LOG,")

-- a line that may be a frame's
abbrev pub is_framed : List ℕ → Bool
is_framed own = bytes_eq (take 1 own) (codes "$")

-- none of these lines begins a log
abbrev pub NoneBegins : List (List ℕ) → Type 0
NoneBegins lines = AllByRecursion (λ own. begins_log own ≡ false) lines

-- the lines of a history's report
abbrev pub report_lines : Parts → List Entry → List (List ℕ)
report_lines plant history = whole_lines (report_text plant history)

-- how many whole lines stand before the first that begins a log
abbrev pub lines_before_log : List ℕ → Option ℕ
lines_before_log text = position begins_log (whole_lines text)

-- the text behind so many of its whole lines
abbrev pub behind : ℕ → List ℕ → List ℕ
behind lines text = drop (length (first_lines lines text)) text

-- The part from the log on is bad itself; or it tells a history, and all that a session writes of that
-- one differs from the text, so that a frame of a command is bad.
abbrev pub IsFirstBadBehind : ℕ → Parts → List ℕ → ℕ → Type 0
IsFirstBadBehind lines plant text number =
    ((¬ Tells log_part plant (behind lines text))
    × (own : ℕ) × (number ≡ lines + own)
    × IsFirstBad (Tells log_part plant) (behind lines text) own)
    ⊎ ((log : Tells log_part plant (behind lines text))
    × IsFirstOther text (commands_text plant log.history ++ behind lines text) number)

-- Where no line begins a log, the first bad line is the one behind all whole lines.
abbrev pub IsFirstBadFrom : Option ℕ → Parts → List ℕ → ℕ → Type 0
IsFirstBadFrom None plant text number = number ≡ length (whole_lines text) + 1
IsFirstBadFrom (Some lines) plant text number = IsFirstBadBehind lines plant text number

-- the text isn't all that a session writes, and is bad at this line first
pub record IsBadSession (plant : Parts) (text : List ℕ) (number : ℕ) : Type 0 where
  pub refused : ¬ Tells session_text plant text
  pub first : IsFirstBadFrom (lines_before_log text) plant text number
