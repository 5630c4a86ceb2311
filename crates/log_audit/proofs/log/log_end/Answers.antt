-- As far as the lines are a log.
use Rattle.log_audit.proofs.Readings.{at_stage, ends_bad, ends_log}
use Rattle.log_audit.proofs.log.log_end.Goals as goal

pub returns-in-Log : goal.returns-in-Log
returns-in-Log c = λ lines at.
    ends_log c.args.core.now c.requires lines c.in-Log.entries
    (at_stage c.in-Log.is c.args.core.now lines at)

pub returns-in-Bad : goal.returns-in-Bad
returns-in-Bad c = λ lines at.
    ends_bad c.args.core.now c.requires lines c.in-Bad.line
    (at_stage c.in-Bad.is c.args.core.now lines at)
