-- The log stopped, and the log with the report after it.
use Rattle.std.proofs.Common.{◌++◌, Result, Err, sym, subst}
use Rattle.std.proofs.lemmas.Result.{err_from_is_err_and}
use Rattle.dp_words.specs.declared.status.RunStatus.{RunStatus}
use Rattle.dp_io.specs.Shown.{writing}
use Rattle.log_text.specs.Texts.{log_text, report_text}
use Rattle.dp_words.specs.Writing.{EndsText}
use Rattle.dp_words.proofs.Texted.{text-back, text-front}
use Rattle.dp_sessions.proofs.session.write_history.Goals as goal

pub returns-in_err-write_log : goal.returns-in_err-write_log
returns-in_err-write_log g c =
    let core = c.args.core.now in
    let out = writing g.S.Sink c.args.out.now c.write_log.new.out in
    let failed = err_from_is_err_and c.from_residual.result c.from_residual.ensures.1 in
    let log = log_text core.plant core.history in
    let report = report_text core.plant core.history in
    let stopped : EndsText (Err failed.0) out log =
    subst (λ (e : RunStatus). EndsText (Err e) out log) (sym failed.2) c.in_err-write_log.ensures in
    subst (λ (r : Result (Unit {0}) RunStatus). EndsText r out (log ++ report)) (sym failed.1)
    (text-front failed.0 out log report stopped)

pub returns : goal.returns
returns g c =
    let core = c.args.core.now in
    let taken = g.S.Sink.taken in
    let faults = g.S.Sink.faults in
    let before = c.args.out.now in
    let middle = c.write_log.new.out in
    let after = c.write_report.new.out in
    text-back c.write_report.result (taken before) (taken middle) (taken after) (faults before)
    (faults middle) (faults after)
    (log_text core.plant core.history) (report_text core.plant core.history)
    c.in_ok-write_log.ensures.whole c.in_ok-write_log.ensures.writing.no_fault c.write_report.ensures
