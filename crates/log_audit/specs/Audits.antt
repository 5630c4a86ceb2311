-- How far lines are a log.
use Rattle.std.specs.Prelude.{◌≡◌, ℕ, List, [], ◌++◌, length}
use Rattle.plant_model.specs.declared.limits.TheConstants.{MOST_ENTRIES}
use Rattle.plant_core.specs.Machine.{CoreView}
use Rattle.plant_core.specs.declared.call.Entry.{Entry}
use Rattle.log_audit.specs.Accepted.{IsLogged}
use Rattle.log_audit.specs.FirstBad.{text_of}
use Rattle.log_audit.specs.Lines.{HasNames, log_lines}
use Rattle.log_audit.specs.Twins.{Twins}
use Rattle.log_audit.specs.Verdicts.{IsBadAt}
use Rattle.log_audit.specs.declared.stage.Stage.{Stage}
use Rattle.log_audit.specs.declared.stage.Stage.TheVariants.{Bad, Before, Log}

-- the machine is one of a plant whose lines name one entry each, with the limit of a
-- session
pub record CanRead (core : CoreView) : Type 0 where
  pub limit : core.limit ≡ MOST_ENTRIES
  pub names : HasNames core.plant

-- the lines are the log of a history with so many entries, of which the machine has taken twins
pub record IsRead (core : CoreView) (lines : List (List ℕ)) (entries : ℕ) : Type 0 where
  pub history : List Entry
  pub logged : IsLogged core.plant history
  pub is : lines ≡ log_lines core.plant history
  pub count : entries ≡ length history
  pub twins : Twins core.history history

-- no line was read, and the machine has answered no call
pub record IsUnread (core : CoreView) (lines : List (List ℕ)) : Type 0 where
  pub none : lines ≡ []
  pub fresh : core.history ≡ []

-- whatever follows the lines, the text is bad at this line first
abbrev pub IsBadOn : CoreView → List (List ℕ) → ℕ → Type 0
IsBadOn core lines number =
    (more : List ℕ) → IsBadAt core.plant (text_of lines ++ more) number

abbrev pub StandsAt : Stage → CoreView → List (List ℕ) → Type 0
StandsAt Before core lines = IsUnread core lines
StandsAt (Log entries) core lines = IsRead core lines entries
StandsAt (Bad number) core lines = IsBadOn core lines number
