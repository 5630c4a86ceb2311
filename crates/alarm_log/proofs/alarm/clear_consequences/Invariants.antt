use Rattle.std.proofs.Common.{◌≡◌, map, ◌++◌, take, drop}
use Rattle.alarm_log.specs.Alarms.{consequence_cleared_of}
use Rattle.alarm_log.proofs.alarm.clear_consequences.Given as goal

abbrev pub invariant-loop-alarm : goal.invariant-loop-alarm
invariant-loop-alarm l =
    l.alarms
    ≡ map consequence_cleared_of (take l.alarm-index l.fn.alarms) ++ drop l.alarm-index l.fn.alarms
