-- As far as the lines are what a session writes; the piece behind them is bad.
use Rattle.std.proofs.Common.{◌+◌, ℕ, ◌++◌, sym, subst}
use Rattle.log_audit.specs.FirstBad.{text_of}
use Rattle.log_audit.specs.Sessions.{IsBadSession}
use Rattle.log_audit.proofs.SessionReadings.{front_there, log_cut, part_at, report_cut}
use Rattle.log_audit.proofs.session.session_cut.Goals as goal

pub returns-in-Front : goal.returns-in-Front
returns-in-Front c = λ core kept frames report before piece can count good at piece_good some.
    subst (λ (n : ℕ). IsBadSession core.plant (text_of before ++ piece) (n + 1)) (sym count)
    (front_there core can kept frames before good _
    (part_at c.in-Front.is core kept frames report before at) piece piece_good)

pub returns-in-Log : goal.returns-in-Log
returns-in-Log c = λ core kept frames report before piece can count good at piece_good some.
    subst (λ (n : ℕ). IsBadSession core.plant (text_of before ++ piece) (n + 1)) (sym count)
    (log_cut core can kept frames before good (part_at c.in-Log.is core kept frames report before at)
    piece piece_good some)

pub returns-in-Report : goal.returns-in-Report
returns-in-Report c = λ core kept frames report before piece can count good at piece_good some.
    subst (λ (n : ℕ). IsBadSession core.plant (text_of before ++ piece) (n + 1)) (sym count)
    (report_cut core can kept frames before good report _
    (part_at c.in-Report.is core kept frames report before at) piece piece_good some)
