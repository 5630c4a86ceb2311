use Rattle.alarm_log.proofs.Rings.{changed_more}
use Rattle.alarm_log.specs.Alarms.{acknowledged_of}
use Rattle.alarm_log.proofs.alarm.acknowledge.Goals as goal

pub loop-alarm-preserved : goal.loop-alarm-preserved
loop-alarm-preserved c =
    let loop = c.loop-alarm in
    changed_more (acknowledged_of c.args.number) c.args.alarms.now loop.alarms loop.alarm-index _
    c.loop-alarm-test.true loop.auto.alarms loop.invariant c.acknowledged.ensures
