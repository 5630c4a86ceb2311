-- The item was answered, with the frames of its command, or its call has no entry.
use Rattle.std.proofs.Common.{◌≡◌, ℕ, List, true, false, ap, rules, sym, subst, ◌∙◌}
use Rattle.dp_io.specs.Shown.{writing}
use Rattle.plant_core.specs.Machine.{is_answer}
use Rattle.plant_core.specs.declared.call.Call.{Call}
use Rattle.plant_book.specs.declared.base.BookBase.{BookBase}
use Rattle.log_text.specs.Commands.{command_text}
use Rattle.dp_sessions.proofs.Taken.{grew-none}
use Rattle.watch_session.specs.Asked.{call_for}
use Rattle.watch_session.specs.Loops.{WritesFrames}
use Rattle.watch_session.proofs.Passes.{answers-served, entry_of, frames-are, goes-refused}
use Rattle.watch_session.proofs.Passes.{refused-served, takes-written}
use Rattle.watch_session.proofs.looping.take_item.Goals as goal

pub ask-answer-requires-clause-call : goal.ask-answer-requires-clause-call
ask-answer-requires-clause-call g c =
    c.call_for-call.ensures.within c.args.shared.now.book.now.base.plant

pub returns-then-not-is_answered-clause-taken : goal.returns-then-not-is_answered-clause-taken
returns-then-not-is_answered-clause-taken g c =
    let old = c.args.caller.now.pass in
    let new = c.ask-answer.new.pass in
    let call = c.call_for-call.result in
    let served = c.in-Ok.field-0 in
    let unanswered : is_answer served.reply ≡ false = search rules in (
      goes-refused old new call served c.in-Ok.ensures.served unanswered,
      refused-served old new call served c.in-Ok.ensures.served unanswered,
      grew-none (g.O.Sink.taken c.args.out.now),
    )

pub returns-clause-taken : goal.returns-clause-taken
returns-clause-taken g c =
    let old = c.args.caller.now.pass in
    let new = c.ask-answer.new.pass in
    let item = c.args.item in
    let call : Call = c.call_for-call.result in
    let served = c.in-Ok.field-0 in
    let n : ℕ = c.caller-number.result in
    let command = c.command_of-command.result in
    let out = writing g.O.Sink c.args.out.now c.write_reply-written.new.out in
    let answered : is_answer served.reply ≡ true = search rules in
    let asked : call ≡ call_for old.shown.caller item = c.call_for-call.ensures.asked
    ∙ ap (λ (m : ℕ). call_for m item) (sym c.requires.is.is_number) in
    let answers = answers-served old new item call served c.in-Ok.ensures.served answered asked in
    let plant : c.plant.result.now ≡ old.shown.base.plant = c.plant.ensures
    ∙ sym (ap (λ (b : BookBase). b.plant) c.requires.is.of.base) in
    let text = frames-are c.plant.result.now n command call served.reply
    c.command_of-command.ensures
    ∙ (λ i. command_text (plant i)
    (entry_of (c.caller-number.ensures.caller i) call served.reply)) in
    takes-written c.write_reply-written.result old new item out
    (entry_of old.shown.caller call served.reply) answers
    (subst (λ (t : List ℕ). WritesFrames c.write_reply-written.result t out) text
    c.write_reply-written.ensures.frames)
