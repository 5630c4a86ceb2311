-- One piece.
use Rattle.dp_io.specs.Shown.{writing}
use Rattle.sensor_vote.proofs.Sending.{sent-all}
use Rattle.sensor_vote.proofs.watch.send.Goals as goal

pub returns : goal.returns
returns g c = sent-all c.send_all.result
    (writing g.S.Sink c.args.out.now c.send_all.new.sink) c.args.text.now c.send_all.ensures.whole
    c.send_all.ensures.part c.send_all.ensures.failed c.send_all.ensures.same
