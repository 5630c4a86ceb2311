-- By the one entry of a line.
use Rattle.std.proofs.Common.{subst}
use Rattle.plant_model.specs.declared.plant.Parts.{Parts}
use Rattle.log_reading.specs.Lines.{IsLineOf}
use Rattle.log_reading.proofs.EntryLines.{one_entry}
use Rattle.log_audit.specs.Steps.{MayStand}
use Rattle.log_audit.proofs.Readings.{named}
use Rattle.log_audit.proofs.steps.step.Goals as goal

pub returns-in-Some-clause-none : goal.returns-in-Some-clause-none
returns-in-Some-clause-none g c =
    let core = c.args.core.now in
    let found : IsLineOf core.plant c.args.line.now c.in-Some.entry =
    subst (λ (plant : Parts). IsLineOf plant c.args.line.now c.in-Some.entry) c.plant.ensures
    c.in-Some.ensures.found in
    λ is other told stands. c.take.ensures.none is
    (subst (MayStand core) (one_entry core.plant (named core.plant c.requires) c.requires.distinct
    c.args.line.now other c.in-Some.entry told found) stands)
