use Rattle.std.proofs.Common.{◌≡◌, map, ◌++◌, take, drop}
use Rattle.alarm_log.specs.Alarms.{acknowledged_of}
use Rattle.alarm_log.proofs.alarm.acknowledge.Given as goal

abbrev pub invariant-loop-alarm : goal.invariant-loop-alarm
invariant-loop-alarm l =
    l.alarms
    ≡ map (acknowledged_of l.number) (take l.alarm-index l.fn.alarms)
    ++ drop l.alarm-index l.fn.alarms
