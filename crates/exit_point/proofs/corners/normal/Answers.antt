use Rattle.exit_point.proofs.Spans.{short_of_cross}
use Rattle.exit_point.proofs.corners.normal.Goals as goal

pub returns-clause-short : goal.returns-clause-short
returns-clause-short c =
    rw c.cross.ensures (short_of_cross c.args.a c.args.b c.requires.a c.requires.b)
