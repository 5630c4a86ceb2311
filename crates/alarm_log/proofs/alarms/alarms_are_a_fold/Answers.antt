use Rattle.std.proofs.Common.{[]}
use Rattle.alarm_log.proofs.Folds.{folds}
use Rattle.alarm_log.proofs.alarms.alarms_are_a_fold.Goals as goal

pub returns : goal.returns
returns c events = folds [] events
