use Rattle.exit_point.specs.Corners.{AreCorners}
use Rattle.exit_point.proofs.search.face.Given as goal

abbrev pub invariant-loop : goal.invariant-loop
invariant-loop l = AreCorners l.sums l.corners
