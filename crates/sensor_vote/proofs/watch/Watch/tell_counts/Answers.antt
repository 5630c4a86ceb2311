-- The counts, and then the end.
use Rattle.std.proofs.Common.{◌∙◌, codes}
use Rattle.std.proofs.lemmas.Result.{err_from_is_err_and}
use Rattle.dp_io.specs.Shown.{writing}
use Rattle.dp_words.specs.Statuses.{line}
use Rattle.sensor_vote.specs.Texts.{counts_line}
use Rattle.sensor_vote.proofs.Sending.{sent-as, sent-both, sent-first}
use Rattle.sensor_vote.proofs.watch.Watch.tell_counts.Goals as goal

pub returns-in_err-send : goal.returns-in_err-send
returns-in_err-send g c = λ items has.
    let out = writing g.S.Sink c.args.out.now c.send.new.out in
    let text = c.bytes.ensures ∙ c.counts_line.ensures items has in
    let failed = err_from_is_err_and c.from_residual.result c.from_residual.ensures.1 in
    rw failed.1 (sent-first failed.0 _ out (counts_line items) (line (codes "END"))
    (sent-as _ out _ (counts_line items) text c.in_err-send.ensures))

pub returns : goal.returns
returns g c = λ items has.
    let out = writing g.S.Sink c.args.out.now c.send.new.out in
    let text = c.bytes.ensures ∙ c.counts_line.ensures items has in
    sent-both c.send-2.result _ (g.S.Sink.taken c.args.out.now) (g.S.Sink.taken c.send.new.out)
    (g.S.Sink.taken c.send-2.new.out) (g.S.Sink.faults c.args.out.now)
    (g.S.Sink.faults c.send.new.out) (g.S.Sink.faults c.send-2.new.out) (counts_line items)
    (line (codes "END")) (sent-as _ out _ (counts_line items) text c.in_ok-send.ensures)
    c.send-2.ensures
