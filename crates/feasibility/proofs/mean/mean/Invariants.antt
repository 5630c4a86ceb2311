use Rattle.feasibility.proofs.Taken.{MeanSoFar}
use Rattle.feasibility.proofs.mean.mean.Given as goal

abbrev pub invariant-loop-i : goal.invariant-loop-i
invariant-loop-i l = MeanSoFar l.weights l.points l.fn.t l.fn.fixed l.i l.total
