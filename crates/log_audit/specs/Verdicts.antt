-- The verdict on a text.
use Rattle.std.specs.Prelude.{◌≡◌, ℕ, List, length, Bool, true, false}
use Rattle.plant_model.specs.declared.plant.Parts.{Parts}
use Rattle.log_audit.specs.Accepted.{IsLog, Tells, session_text}
use Rattle.log_audit.specs.FirstBad.{IsFirstBad}
use Rattle.log_audit.specs.Sessions.{IsBadSession}
use Rattle.log_audit.specs.declared.verdict.Verdict.{Verdict}
use Rattle.log_audit.specs.declared.verdict.Verdict.TheVariants.{Legal, NotALog}

-- the text is the log of a history with so many entries
abbrev pub HasEntries : Parts → List ℕ → ℕ → Type 0
HasEntries plant text entries = (log : IsLog plant text) × (entries ≡ length log.history)

-- the text is no log, and is bad at this line first
pub record IsBadAt (plant : Parts) (text : List ℕ) (number : ℕ) : Type 0 where
  pub refused : ¬ IsLog plant text
  pub first : IsFirstBad (IsLog plant) text number

abbrev pub IsLogVerdict : Parts → List ℕ → Verdict → Type 0
IsLogVerdict plant text (Legal entries) = HasEntries plant text entries
IsLogVerdict plant text (NotALog number) = IsBadAt plant text number

abbrev pub IsSessionVerdict : Parts → List ℕ → Verdict → Type 0
IsSessionVerdict plant text (Legal entries) =
    (told : Tells session_text plant text) × (entries ≡ length told.history)
IsSessionVerdict plant text (NotALog number) = IsBadSession plant text number

-- on a text that may be a log, or all that a session writes
abbrev pub IsVerdict : Bool → Parts → List ℕ → Verdict → Type 0
IsVerdict false plant text verdict = IsLogVerdict plant text verdict
IsVerdict true plant text verdict = IsSessionVerdict plant text verdict

-- a text has one verdict
abbrev pub VerdictsAreOne : Parts → Type 0
VerdictsAreOne plant = (session : Bool) (text : List ℕ) (verdict other : Verdict)
    → IsVerdict session plant text verdict → IsVerdict session plant text other → verdict ≡ other
