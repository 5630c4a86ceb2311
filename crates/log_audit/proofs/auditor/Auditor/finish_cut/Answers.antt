-- The piece behind all that a session writes.
use Rattle.std.proofs.Common.{◌∙◌, ◌++◌, ap, sym, subst}
use Rattle.log_audit.specs.Auditors.{AuditView, Reads, is_session}
use Rattle.log_audit.specs.Audits.{CanRead}
use Rattle.log_audit.specs.FirstBad.{text_of}
use Rattle.log_audit.specs.Verdicts.{IsVerdict}
use Rattle.log_audit.specs.declared.part.Reading.{Reading}
use Rattle.log_audit.proofs.auditor.Auditor.finish_cut.Goals as goal

pub returns : goal.returns
returns g c = λ lines piece audits good some.
    let audit = c.args.self in
    let reading = sym (ap (λ (a : AuditView). a.reading) c.self.view_is) ∙ c.in-Session.is in
    let count = ap (λ (a : AuditView). a.lines) c.self.view_is ∙ audits.count in
    let can = subst CanRead (ap (λ (a : AuditView). a.core) c.self.view_is) c.self.invariant.2 in
    let reads = subst (λ (r : Reading). Reads r audit.core audit.kept audit.frames audit.report lines)
    reading audits.reads in
    subst (λ (r : Reading). IsVerdict (is_session r) audit.core.plant (text_of lines ++ piece)
    c.session_cut.result) (sym reading)
    (c.session_cut.ensures audit.core audit.kept audit.frames audit.report lines piece can count
    audits.good reads good some)
