use Rattle.feasibility.proofs.Sheltered.{some_tent_over}
use Rattle.feasibility.proofs.tents.tent_in.Goals as goal

pub returns-in-None : goal.returns-in-None
returns-in-None c =
    some_tent_over c.args.plant.now c.args.regions.now c.args.k _ c.sums_of.result
    c.tent_about.result c.requires.region_each c.requires.fixed_each c.requires.there
    c.choice.ensures.pieces c.sums_of.ensures c.tent_about.ensures
