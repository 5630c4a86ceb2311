use Rattle.separation.proofs.Bounds.{difference_direction}
use Rattle.exit_point.proofs.face_cuts.least_between.Goals as goal

pub least_across-requires-clause-direction : goal.least_across-requires-clause-direction
least_across-requires-clause-direction c =
    rw c.difference.ensures
    (difference_direction c.args.point c.args.other c.requires.point c.requires.other)
