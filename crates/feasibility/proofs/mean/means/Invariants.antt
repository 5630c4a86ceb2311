use Rattle.std.proofs.Common.{map}
use Rattle.thrust_region.specs.Pieces.{points_of}
use Rattle.feasibility.proofs.Taken.{MeansSoFar}
use Rattle.feasibility.proofs.mean.means.Given as goal

abbrev pub invariant-loop-i : goal.invariant-loop-i
invariant-loop-i l =
    MeansSoFar l.exit.weights.items (map points_of l.chosen.pieces.items) l.exit.t l.fixed l.i
    l.thrusts.list.items
