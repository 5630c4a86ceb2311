use Rattle.std.proofs.Common.{◌≡◌, ℕ, IfOk, OnErr, subst, ◌∙◌}
use Rattle.plant_book.specs.Books.{BookShown}
use Rattle.plant_book.specs.Calls.{Passes, Serves, entries_for}
use Rattle.plant_book.proofs.Turns.{Entered, Left, caller_is, passed_by, rests, served_by}
use Rattle.plant_book.proofs.Turns.{with_more}
use Rattle.plant_book.proofs.book.Book.serve.Goals as goal

pub invariant_of-pass : goal.invariant_of-pass
invariant_of-pass g c =
    let e : Entered c.pass.inside.pass c.enter-value.new.pass c.enter-value.result = record {
      pass = c.enter-value.ensures.pass;
      seen = c.enter-value.ensures.seen;
      base = c.enter-value.ensures.base;
      alone = c.enter-value.ensures.alone;
      legal = c.history.ensures.legal;
    } in
    let l : Left c.enter-value.new.pass c.leave.new.pass c.answer-answer.new.self = record {
      pass = c.leave.ensures.pass;
      sound = c.leave.ensures.sound;
      legal = c.history-2.ensures.legal;
    } in
    rests c.pass.inside.pass c.enter-value.new.pass c.leave.new.pass
    c.enter-value.result c.answer-answer.new.self
    (entries_for c.caller-caller.result c.args.call c.answer-answer.result) e l
    c.answer-answer.ensures.history

pub returns-clause-served : goal.returns-clause-served
returns-clause-served g c =
    let v = c.enter-value.result in
    let w = c.answer-answer.new.self in
    let e : Entered c.pass.inside.pass c.enter-value.new.pass c.enter-value.result = record {
      pass = c.enter-value.ensures.pass;
      seen = c.enter-value.ensures.seen;
      base = c.enter-value.ensures.base;
      alone = c.enter-value.ensures.alone;
      legal = c.history.ensures.legal;
    } in
    let l : Left c.enter-value.new.pass c.leave.new.pass c.answer-answer.new.self = record {
      pass = c.leave.ensures.pass;
      sound = c.leave.ensures.sound;
      legal = c.history-2.ensures.legal;
    } in
    let caller = c.caller-caller.ensures
    ∙ caller_is c.pass.inside.pass c.enter-value.new.pass v e in
    let history = subst (λ (n : ℕ). w
    ≡ with_more v (entries_for n c.args.call c.answer-answer.result))
    caller c.answer-answer.ensures.history in
    subst (λ (old : BookShown). IfOk c.answer-answer.result (Serves old
    (record { shown = c.leave.new.pass; displays = c.pass.inside.displays }) c.args.call))
    c.pass.view_is (served_by c.pass.inside.pass c.enter-value.new.pass c.leave.new.pass
    c.pass.inside.displays v w c.args.call c.answer-answer.result c.pass.invariant.free e l
    history c.answer-answer.ensures.answered)

pub returns-clause-kept : goal.returns-clause-kept
returns-clause-kept g c =
    let v = c.enter-value.result in
    let w = c.answer-answer.new.self in
    let e : Entered c.pass.inside.pass c.enter-value.new.pass c.enter-value.result = record {
      pass = c.enter-value.ensures.pass;
      seen = c.enter-value.ensures.seen;
      base = c.enter-value.ensures.base;
      alone = c.enter-value.ensures.alone;
      legal = c.history.ensures.legal;
    } in
    let l : Left c.enter-value.new.pass c.leave.new.pass c.answer-answer.new.self = record {
      pass = c.leave.ensures.pass;
      sound = c.leave.ensures.sound;
      legal = c.history-2.ensures.legal;
    } in
    let caller = c.caller-caller.ensures
    ∙ caller_is c.pass.inside.pass c.enter-value.new.pass v e in
    let history = subst (λ (n : ℕ). w
    ≡ with_more v (entries_for n c.args.call c.answer-answer.result))
    caller c.answer-answer.ensures.history in
    subst (λ (old : BookShown). OnErr c.answer-answer.result (Passes old
    (record { shown = c.leave.new.pass; displays = c.pass.inside.displays })))
    c.pass.view_is (passed_by c.pass.inside.pass c.enter-value.new.pass c.leave.new.pass
    c.pass.inside.displays v w c.args.call c.answer-answer.result c.pass.invariant.free e l
    history)
