use Rattle.std.proofs.Common.{◌≡◌, map, ◌++◌, take, drop}
use Rattle.alarm_log.specs.Alarms.{cleared_of}
use Rattle.alarm_log.proofs.alarm.clear.Given as goal

abbrev pub invariant-loop-alarm : goal.invariant-loop-alarm
invariant-loop-alarm l =
    l.alarms
    ≡ map (cleared_of l.cause) (take l.alarm-index l.fn.alarms) ++ drop l.alarm-index l.fn.alarms
