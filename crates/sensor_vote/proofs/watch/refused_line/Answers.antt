-- Four fields.
use Rattle.std.proofs.Common.{codes, decimal}
use Rattle.sensor_vote.proofs.Lines.{line-four}
use Rattle.sensor_vote.proofs.watch.refused_line.Goals as goal

pub returns : goal.returns
returns c =
    let r = c.args.reference.now in
    line-four (codes "REFUSED") (decimal r.moment) (decimal r.number) c.args.cause.now c.of.result
    c.number.result c.number-2.result c.field.result c.end.result c.of.ensures
    c.number.ensures.text c.number-2.ensures.text c.field.ensures c.end.ensures
