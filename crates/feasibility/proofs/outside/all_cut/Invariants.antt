use Rattle.feasibility.specs.Steps.{CutOffBelow}
use Rattle.feasibility.proofs.outside.all_cut.Given as goal

abbrev pub invariant-loop-k : goal.invariant-loop-k
invariant-loop-k l = CutOffBelow l.plant l.regions l.ahead l.k l.list.items
