-- What a log, and all that is written, tells of its history.
use Rattle.std.specs.Prelude.{◌≡◌, ℕ, List, ◌++◌}
use Rattle.plant_model.specs.declared.plant.Parts.{Parts}
use Rattle.plant_core.specs.Machine.{IsLegal}
use Rattle.plant_core.specs.declared.call.Entry.{Entry}
use Rattle.log_text.specs.Commands.{commands_text}
use Rattle.log_text.specs.Fits.{AreHeld}
use Rattle.log_text.specs.Texts.{log_text, report_text}

-- Two legal histories of a plant that have the same log are the same, where a program can hold both:
-- of a number of more than 64 digits, which no type has, a log tells the last 64 alone.
abbrev pub LogsTellHistories : Parts → Type 0
LogsTellHistories plant = (limit other_limit : ℕ) (history other : List Entry)
    → IsLegal plant limit history → IsLegal plant other_limit other
    → AreHeld history → AreHeld other
    → log_text plant history ≡ log_text plant other → history ≡ other

-- So are two of which the same is written: the frames of the commands, the log and the report, one
-- after another.
abbrev pub TextsTellHistories : Parts → Type 0
TextsTellHistories plant = (limit other_limit : ℕ) (history other : List Entry)
    → IsLegal plant limit history → IsLegal plant other_limit other
    → AreHeld history → AreHeld other
    → commands_text plant history ++ (log_text plant history ++ report_text plant history)
    ≡ commands_text plant other ++ (log_text plant other ++ report_text plant other)
    → history ≡ other
