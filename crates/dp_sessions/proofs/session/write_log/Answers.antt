-- The first line in part, the line of an entry in part, and a line more.
use Rattle.std.proofs.Common.{◌≡◌, List, ℕ, ◌++◌, Err, ◌∙◌, ap, subst, sym, arith, IsTrue}
use Rattle.std.proofs.lemmas.Result.{err_from_is_err_and}
use Rattle.std.specs.List.{flat_map}
use Rattle.dp_io.specs.Streams.{Grew}
use Rattle.plant_model.specs.declared.plant.Parts.{Parts}
use Rattle.plant_core.specs.Machine.{IsCall, IsLegal, is_answer, opening_stand}
use Rattle.plant_core.specs.declared.call.Entry.{Entry}
use Rattle.dp_io.specs.Shown.{GrewInPart}
use Rattle.log_text.specs.Texts.{log_head, entry_text}
use Rattle.dp_words.proofs.Parts.{part-front}
use Rattle.dp_sessions.proofs.Answers.{answer-at, call-at}
use Rattle.dp_sessions.proofs.Logs.{lines-front, lines-part, lines-whole, part-as}
use Rattle.dp_words.proofs.Texted.{text-failed, text-starved}
use Rattle.dp_sessions.proofs.session.write_log.Goals as goal

pub entry_text-requires-clause-answer : goal.entry_text-requires-clause-answer
entry_text-requires-clause-answer g c =
    let core = c.args.core.now in
    let xs : List Entry = c.history-entry-items.result.now in
    let legal : IsLegal core.plant core.limit xs =
    subst (λ (h : List Entry). IsLegal core.plant core.limit h)
    (sym c.history-entry-items.ensures.entries) c.history-entry-items.ensures.legal in
    subst (λ (e : Entry). IsTrue (is_answer e.reply)) (sym c.entry-item.is)
    (answer-at core.plant core.limit (opening_stand core.plant) xs legal c.loop-entry.entry-index
    (omega arith) c.entry-item.result)

pub entry_text-requires-clause-call : goal.entry_text-requires-clause-call
entry_text-requires-clause-call g c =
    let core = c.args.core.now in
    let xs : List Entry = c.history-entry-items.result.now in
    let legal : IsLegal core.plant core.limit xs =
    subst (λ (h : List Entry). IsLegal core.plant core.limit h)
    (sym c.history-entry-items.ensures.entries) c.history-entry-items.ensures.legal in
    subst (λ (p : Parts). IsCall p c.entry-item.result.call) (sym c.plant-in-loop-entry.ensures)
    (subst (λ (e : Entry). IsCall core.plant e.call) (sym c.entry-item.is)
    (call-at core.plant core.limit (opening_stand core.plant) xs legal c.loop-entry.entry-index
    (omega arith) c.entry-item.result))

pub returns-in_err-send_all : goal.returns-in_err-send_all
returns-in_err-send_all g c =
    let before = g.S.Sink.taken c.args.out.now in
    let after = g.S.Sink.taken c.send_all.new.sink in
    let plant = c.args.core.now.plant in
    let text : c.as_bytes.result.now ≡ log_head plant =
    cc (c.as_bytes.ensures.value, c.in_ok-head.ensures, c.plant.ensures) in
    let part =
    part-front before after (log_head plant) (flat_map (entry_text c.args.core.now.plant) c.args.core.now.history)
    (part-as before after c.as_bytes.result.now (log_head plant) text
    c.in_err-send_all.ensures.part) in
    let failed = err_from_is_err_and c.from_residual-in_err-send_all.result
    c.from_residual-in_err-send_all.ensures.1 in
    text-failed _ _ _ (failed.1 ∙ ap Err failed.2) part c.in_err-send_all.ensures.failed
    c.send_all.ensures.counted

pub returns-in_err-send_all-2 : goal.returns-in_err-send_all-2
returns-in_err-send_all-2 g c =
    let before = g.S.Sink.taken c.args.out.now in
    let middle = g.S.Sink.taken c.loop-entry.out in
    let after = g.S.Sink.taken c.send_all-in-loop-entry.new.sink in
    let text : c.as_bytes-in-loop-entry.result.now ≡ entry_text c.args.core.now.plant c.entry-item.result =
    cc (c.as_bytes-in-loop-entry.ensures.value, c.in_ok-line.ensures) in
    let part = lines-part before middle after (log_head c.args.core.now.plant)
    (entry_text c.args.core.now.plant)
    c.history-entry-items.result.now c.loop-entry.entry-index
    c.entry-item.result (omega arith) c.entry-item.is c.loop-entry.invariant.sent
    (part-as middle after c.as_bytes-in-loop-entry.result.now (entry_text c.args.core.now.plant c.entry-item.result) text
    c.in_err-send_all-2.ensures.part) in
    let failed = err_from_is_err_and c.from_residual-in_err-send_all-2.result
    c.from_residual-in_err-send_all-2.ensures.1 in
    text-failed _ _ _ (failed.1 ∙ ap Err failed.2)
    (subst (λ (h : List Entry). GrewInPart before after
    (log_head c.args.core.now.plant ++ flat_map (entry_text c.args.core.now.plant) h)) c.history-entry-items.ensures.entries
    part)
    (omega (arith, c.loop-entry.invariant.same, c.in_err-send_all-2.ensures.failed))
    (omega (arith, c.loop-entry.invariant.same, c.send_all-in-loop-entry.ensures.counted))

pub loop-entry-preserved : goal.loop-entry-preserved
loop-entry-preserved g c =
    let before = g.S.Sink.taken c.args.out.now in
    let middle = g.S.Sink.taken c.loop-entry.out in
    let after = g.S.Sink.taken c.send_all-in-loop-entry.new.sink in
    let text : c.as_bytes-in-loop-entry.result.now ≡ entry_text c.args.core.now.plant c.entry-item.result =
    cc (c.as_bytes-in-loop-entry.ensures.value, c.in_ok-line.ensures) in
    record {
      sent = lines-whole before middle after (log_head c.args.core.now.plant)
          (entry_text c.args.core.now.plant)
          c.history-entry-items.result.now c.loop-entry.entry-index
          c.entry-item.result (omega arith) c.entry-item.is c.loop-entry.invariant.sent
          (subst (λ (t : List ℕ). Grew middle after t) text c.in_ok-send_all-2.ensures.whole);
      same = c.in_ok-send_all-2.ensures.same ∙ c.loop-entry.invariant.same;
    }

pub returns-in_err-line : goal.returns-in_err-line
returns-in_err-line g c =
    let before = g.S.Sink.taken c.args.out.now in
    let middle = g.S.Sink.taken c.loop-entry.out in
    let plant = c.args.core.now.plant in
    let part = lines-front before middle (log_head plant) (entry_text plant)
    c.history-entry-items.result.now c.loop-entry.entry-index c.loop-entry.invariant.sent in
    let failed = err_from_is_err_and c.from_residual-in_err-line.result
    c.from_residual-in_err-line.ensures.1 in
    text-starved _ _ _ (failed.1 ∙ ap Err failed.2)
    (subst (λ (h : List Entry). GrewInPart before middle
    (log_head plant ++ flat_map (entry_text plant) h)) c.history-entry-items.ensures.entries part)
    (omega (arith, c.loop-entry.invariant.same))
