use Rattle.std.proofs.Common.{arith}
use Rattle.certificate.specs.Losses.{question_after}
use Rattle.capability.proofs.Limits.{still_stops, stops_earlier}
use Rattle.capability.proofs.limit.earlier.Goals as goal

pub returns-then-speed-stop : goal.returns-then-speed-stop
returns-then-speed-stop c =
    stops_earlier (question_after c.args.plant.now c.args.status.now) c.args.path.now c.args.loss
    c.args.stop c.met_up_to-speed.result c.requires.stop c.met_up_to-speed.ensures
    (omega (arith, c.if-speed-stop.true))

pub returns-else-speed-stop : goal.returns-else-speed-stop
returns-else-speed-stop c =
    still_stops (question_after c.args.plant.now c.args.status.now) c.args.path.now c.args.loss
    c.args.stop c.met_up_to-speed.result c.requires.stop c.met_up_to-speed.ensures
    (omega (arith, c.if-speed-stop.false))
