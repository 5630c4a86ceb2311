use Rattle.feasibility.proofs.Scaled.{cut_separates}
use Rattle.feasibility.proofs.step.cut_off.Goals as goal

pub returns-clause-separates : goal.returns-clause-separates
returns-clause-separates c lists d exits before =
    cut_separates lists d c.args.exit.now c.direction.result exits before
    (c.direction.ensures d exits.cut.bottom)

pub returns-clause-primitive : goal.returns-clause-primitive
returns-clause-primitive c d is = (c.direction.ensures d is).primitive
