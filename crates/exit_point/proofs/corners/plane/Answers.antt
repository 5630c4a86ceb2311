use Rattle.exit_point.proofs.Spans.{span_of_difference}
use Rattle.exit_point.proofs.corners.plane.Goals as goal

pub normal-requires-clause-a : goal.normal-requires-clause-a
normal-requires-clause-a c =
    rw c.difference.ensures (span_of_difference _ _ c.requires.second c.requires.first)

pub normal-requires-clause-b : goal.normal-requires-clause-b
normal-requires-clause-b c = rw c.difference-2.ensures
    (span_of_difference _ _ c.requires.third c.requires.first)
