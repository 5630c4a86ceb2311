use Rattle.exit_point.specs.Corners.{AreEnds}
use Rattle.exit_point.proofs.search.cone.Given as goal

abbrev pub invariant-loop : goal.invariant-loop
invariant-loop l = AreEnds l.sums l.edge
