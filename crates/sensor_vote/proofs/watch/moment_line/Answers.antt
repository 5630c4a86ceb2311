-- Three fields.
use Rattle.std.proofs.Common.{decimal}
use Rattle.sensor_vote.proofs.Lines.{line-three}
use Rattle.sensor_vote.proofs.watch.moment_line.Goals as goal

pub returns : goal.returns
returns c = line-three c.args.kind.now (decimal c.args.moment) (decimal c.args.number) c.of.result
    c.number.result c.number-2.result c.end.result c.of.ensures c.number.ensures.text
    c.number-2.ensures.text c.end.ensures
