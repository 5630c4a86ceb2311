-- A line more, whole or in part, and what stands after the last line.
use Rattle.std.proofs.Common.{◌<◌, ◌+◌, List, ℕ, ◌++◌, length, take, sym, subst, ◌∙◌}
use Rattle.std.proofs.lemmas.Result.{err_from_is_err_and, on_err_weaker}
use Rattle.dp_io.specs.Streams.{Grew}
use Rattle.dp_io.proofs.Grown.{Grew-append}
use Rattle.dp_words.proofs.Parts.{lines-more, short-back, short-front}
use Rattle.dp_words.proofs.writing.send_lines.Goals as goal

pub returns-in_err-send_all-clause-part : goal.returns-in_err-send_all-clause-part
returns-in_err-send_all-clause-part g c =
    let before = g.S.Sink.taken c.args.sink.now in
    let middle = g.S.Sink.taken c.loop-end.sink in
    let after = g.S.Sink.taken c.send_all.new.sink in
    let sent = c.loop-end.invariant.sent in
    let line = c.split_at.result.0.now in
    let rest = c.split_at.result.1.now in
    let text = lines-more c.args.text.now sent.0 c.loop-end.rest.now line rest (c.in-Some.end + 1)
    sent.1 c.split_at.ensures.front c.split_at.ensures.back in
    let some = c.in_err-send_all.ensures.part in
    let part = short-front before after (sent.0 ++ line) rest
    (short-back before middle after sent.0 line sent.2 some) in
    let failed = err_from_is_err_and c.from_residual.result c.from_residual.ensures.1 in
    rw failed.1 (subst (λ (t : List ℕ).
    (n : ℕ) × (n < length t) × Grew before after (take n t)) (sym text) part)

pub loop-end-preserved : goal.loop-end-preserved
loop-end-preserved g c =
    let sent = c.loop-end.invariant.sent in
    let line = c.split_at.result.0.now in
    let text = lines-more c.args.text.now sent.0 c.loop-end.rest.now line c.split_at.result.1.now
    (c.in-Some.end + 1) sent.1 c.split_at.ensures.front c.split_at.ensures.back in
    record {
      sent = (
        sent.0 ++ line,
        text,
        Grew-append _ _ _ sent.0 line sent.2
            c.in_ok-send_all.ensures.whole,
      );
      same = c.in_ok-send_all.ensures.same ∙ c.loop-end.invariant.same;
    }

pub returns-clause-part : goal.returns-clause-part
returns-clause-part g c =
    let before = g.S.Sink.taken c.args.sink.now in
    let middle = g.S.Sink.taken c.loop-end.sink in
    let after = g.S.Sink.taken c.send_all-2.new.sink in
    let sent = c.loop-end.invariant.sent in
    let rest : List ℕ = c.loop-end.rest.now in
    on_err_weaker c.send_all-2.result
    (λ (some : (n : ℕ) × (n < length rest) × Grew middle after (take n rest)).
    subst (λ (t : List ℕ). (n : ℕ) × (n < length t) × Grew before after (take n t)) (sym sent.1)
    (short-back before middle after sent.0 rest sent.2 some))
    c.send_all-2.ensures.part
