-- The verdicts of a legal history.
use Rattle.plant_core.proofs.Verdicts.{shown-legal, verdict-last}
use Rattle.plant_core.proofs.machine.shown_verdicts_are_valid.Goals as goal

pub returns-clause-valid : goal.returns-clause-valid
returns-clause-valid c = shown-legal

pub returns-clause-cells : goal.returns-clause-cells
returns-clause-cells c = verdict-last
