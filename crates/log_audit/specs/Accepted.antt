-- Which texts are accepted: the logs of legal histories, or all that a session writes of one.
use Rattle.std.specs.Prelude.{◌≡◌, ℕ, List, ◌++◌}
use Rattle.plant_model.specs.declared.limits.TheConstants.{MOST_ENTRIES}
use Rattle.plant_model.specs.declared.plant.Parts.{Parts}
use Rattle.plant_core.specs.Machine.{IsLegal}
use Rattle.plant_core.specs.declared.call.Entry.{Entry}
use Rattle.log_text.specs.Commands.{commands_text}
use Rattle.log_text.specs.Fits.{AreHeld}
use Rattle.log_text.specs.Texts.{log_text, report_text}

-- a history that a log may tell: it is legal, and a program can hold it
pub record IsLogged (plant : Parts) (history : List Entry) : Type 0 where
  pub legal : IsLegal plant MOST_ENTRIES history
  pub held : AreHeld history

-- the text is what this writes of such a history
pub record Tells (write : Parts → List Entry → List ℕ) (plant : Parts) (text : List ℕ)
    : Type 0 where
  pub history : List Entry
  pub logged : IsLogged plant history
  pub is : text ≡ write plant history

-- the text is the log of such a history
abbrev pub IsLog : Parts → List ℕ → Type 0
IsLog plant text = Tells log_text plant text

-- the log, with the report behind it
abbrev pub log_part : Parts → List Entry → List ℕ
log_part plant history = log_text plant history ++ report_text plant history

-- all that a session writes: the frames of the commands, the log and the report
abbrev pub session_text : Parts → List Entry → List ℕ
session_text plant history = commands_text plant history ++ log_part plant history
