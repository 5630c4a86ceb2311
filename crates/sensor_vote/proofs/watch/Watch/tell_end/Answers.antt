-- The last lines of a report, or nothing.
use Rattle.std.proofs.Common.{Bool, sym, subst, Ok}
use Rattle.dp_io.specs.Shown.{writing}
use Rattle.sensor_vote.specs.Steps.{EndsSending}
use Rattle.sensor_vote.specs.Texts.{end_of}
use Rattle.sensor_vote.proofs.Sending.{sent-none}
use Rattle.sensor_vote.proofs.watch.Watch.tell_end.Goals as goal

pub returns-then-report : goal.returns-then-report
returns-then-report g c = λ items has.
    subst (λ (report : Bool). EndsSending c.tell_counts.result
    (writing g.S.Sink c.args.out.now c.tell_counts.new.out) (end_of report items))
    (sym c.if-report.true) (c.tell_counts.ensures items has)

pub returns-else-report : goal.returns-else-report
returns-else-report g c = λ items has.
    let out = c.args.out.now in
    subst (λ (report : Bool). EndsSending (Ok tt) (writing g.S.Sink out out)
    (end_of report items)) (sym c.if-report.false)
    (sent-none (g.S.Sink.taken out) (g.S.Sink.faults out))
