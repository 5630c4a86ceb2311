-- One step more, and the last.
use Rattle.std.proofs.Common.{arith}
use Rattle.drill_streams.proofs.SoFar.{operators-end, sensors-end, so_far-more}
use Rattle.drill_streams.proofs.streams.drill_streams.Goals as goal

pub loop-done-preserved : goal.loop-done-preserved
loop-done-preserved c =
    so_far-more c.args.seed c.loop-done.done c.loop-done.draws.number
    c.push_sensor.new.draws.number c.push_orders.new.draws.number c.loop-done.sensors.items
    c.push_sensor.new.bytes.items c.loop-done.operators.items c.push_orders.new.bytes.items
    c.loop-done.invariant c.push_sensor.ensures.number c.in_ok-push_sensor.ensures.bytes
    c.push_orders.ensures.number c.in_ok-push_orders.ensures.bytes

pub returns-clause-sensors : goal.returns-clause-sensors
returns-clause-sensors c =
    sensors-end c.args.seed c.loop-done.done c.args.size c.loop-done.sensors.items (omega arith)
    (omega arith) c.loop-done.invariant.sensors

pub returns-clause-operators : goal.returns-clause-operators
returns-clause-operators c =
    operators-end c.args.seed c.loop-done.done c.args.size c.loop-done.operators.items (omega arith)
    (omega arith) c.loop-done.invariant.operators
