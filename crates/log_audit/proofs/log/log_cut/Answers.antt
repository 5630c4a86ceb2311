-- As far as the lines are a log; the piece behind them is bad.
use Rattle.log_audit.proofs.Readings.{at_stage, cut_log, cut_unread}
use Rattle.log_audit.proofs.log.log_cut.Goals as goal

pub returns-in-Before : goal.returns-in-Before
returns-in-Before c = λ before piece count at good some.
    cut_unread c.args.core.now c.requires.read before piece good some
    (at_stage c.in-Before.is c.args.core.now before at)

pub returns-in-Log : goal.returns-in-Log
returns-in-Log c = λ before piece count at good some.
    cut_log c.args.core.now c.requires.read before piece good some c.in-Log.entries c.args.lines count
    (at_stage c.in-Log.is c.args.core.now before at)
