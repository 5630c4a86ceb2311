-- As far as the lines are what a session writes.
use Rattle.std.proofs.Common.{◌≡◌, ◌∙◌, ◌+◌, ◌==◌, ℕ, List, [], length, min, false, append-nil, ap, sym, subst, arith}
use Rattle.std.proofs.lemmas.List.Elements.{All-nil}
use Rattle.frame.specs.Frames.{line_feed}
use Rattle.plant_core.specs.declared.call.Entry.{Entry}
use Rattle.log_audit.specs.FirstBad.{text_of}
use Rattle.log_audit.specs.Sessions.{IsBadSession}
use Rattle.log_audit.specs.declared.auditor.TheConstants.{MOST_LINES}
use Rattle.log_audit.proofs.SessionReadings.{ends_told, front_there, log_there, part_at, report_there}
use Rattle.log_audit.proofs.SessionReadings.{session_other, stays_there}
use Rattle.log_audit.proofs.session.session_end.Goals as goal

pub returns-in-Front : goal.returns-in-Front
returns-in-Front c = λ before count good at.
    let core = c.args.core.now in
    subst (λ (n : ℕ). IsBadSession core.plant (text_of before) (n + 1)) (sym count)
    (subst (λ (t : List ℕ). IsBadSession core.plant t (length before + 1)) (append-nil (text_of before))
    (front_there core c.requires.read c.args.kept.now c.args.frames.now before good _
    (part_at c.in-Front.is core c.args.kept.now c.args.frames.now c.args.report.now before at) []
    (All-nil (λ b. (b == line_feed) ≡ false))))

pub returns-in-Log : goal.returns-in-Log
returns-in-Log c = λ before count good at.
    let core = c.args.core.now in
    subst (λ (n : ℕ). IsBadSession core.plant (text_of before) (n + 1)) (sym count)
    (log_there core c.requires.read c.args.kept.now c.args.frames.now before good
    (part_at c.in-Log.is core c.args.kept.now c.args.frames.now c.args.report.now before at))

pub returns-then-taken-report : goal.returns-then-taken-report
returns-then-taken-report c = λ before count good at.
    let core = c.args.core.now in
    let own = part_at c.in-Report.is core c.args.kept.now c.args.frames.now c.args.report.now before at in
    subst (λ (n : ℕ). IsBadSession core.plant (text_of before) (n + 1)) (sym count)
    (report_there core c.requires.read c.args.kept.now c.args.frames.now before good
    c.args.report.now c.in-Report.taken own c.if-taken-report.true)

pub returns-in-Some : goal.returns-in-Some
returns-in-Some c = λ before count good at.
    let core = c.args.core.now in
    let own = part_at c.in-Report.is core c.args.kept.now c.args.frames.now c.args.report.now before at in
    let all : c.in-Report.taken ≡ length c.args.report.now =
    omega (arith, own.within, c.if-taken-report.false) in
    session_other core c.requires.read c.args.kept.now c.args.frames.now before good
    c.args.report.now c.in-Report.taken own all c.in-Some.line c.in-Some.ensures.some

pub returns-in-None : goal.returns-in-None
returns-in-None c = λ before count good at.
    let core = c.args.core.now in
    let own = part_at c.in-Report.is core c.args.kept.now c.args.frames.now c.args.report.now before at in
    let all : c.in-Report.taken ≡ length c.args.report.now =
    omega (arith, own.within, c.if-taken-report.false) in
    ends_told core c.requires.read c.args.kept.now c.args.frames.now before good c.args.report.now
    c.in-Report.taken own all c.min.result MOST_LINES (omega (arith, count, c.requires.room))
    (c.min.ensures
    ∙ ap (λ (history : List Entry). min (length history) MOST_LINES) c.history.ensures.entries)
    c.in-None.ensures.none

pub returns-in-Bad : goal.returns-in-Bad
returns-in-Bad c = λ before count good at.
    let core = c.args.core.now in
    stays_there core before c.in-Bad.line
    (part_at c.in-Bad.is core c.args.kept.now c.args.frames.now c.args.report.now before at)
