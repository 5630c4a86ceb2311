-- The answer lies among the three.
use Rattle.sensor_vote.proofs.Headings.{lies_among}
use Rattle.sensor_vote.proofs.vote.one_bad_reference_moves_nothing_outside.Goals as goal

pub returns-clause-between : goal.returns-clause-between
returns-clause-between c = lies_among
