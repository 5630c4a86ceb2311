use Rattle.std.proofs.Common.{[], sym, subst, ◌∙◌}
use Rattle.plant_core.specs.Machine.{IsLegal}
use Rattle.plant_book.specs.Books.{BookShown}
use Rattle.plant_book.specs.Calls.{Passes}
use Rattle.plant_book.specs.Values.{ValueView}
use Rattle.plant_book.proofs.Turns.{Entered, Left, passes, rests, same_value}
use Rattle.plant_book.proofs.book.Book.show.Goals as goal

pub invariant_of-pass : goal.invariant_of-pass
invariant_of-pass g c =
    let v = c.enter-value.result in
    let e : Entered c.pass.inside.pass c.enter-value.new.pass c.enter-value.result = record {
      pass = c.enter-value.ensures.pass;
      seen = c.enter-value.ensures.seen;
      base = c.enter-value.ensures.base;
      alone = c.enter-value.ensures.alone;
      legal = c.history.ensures.legal;
    } in
    let l : Left c.enter-value.new.pass c.leave.new.pass c.show-answer.new.self = record {
      pass = c.leave.ensures.pass;
      sound = c.leave.ensures.sound;
      legal = subst
          (λ (x : ValueView). IsLegal x.core.plant x.core.limit x.core.history)
          (sym c.show-answer.ensures.value) c.history.ensures.legal;
    } in
    rests c.pass.inside.pass c.enter-value.new.pass c.leave.new.pass v c.show-answer.new.self [] e l
    (c.show-answer.ensures.value ∙ same_value v)

pub returns-clause-passes : goal.returns-clause-passes
returns-clause-passes g c =
    let v = c.enter-value.result in
    let e : Entered c.pass.inside.pass c.enter-value.new.pass c.enter-value.result = record {
      pass = c.enter-value.ensures.pass;
      seen = c.enter-value.ensures.seen;
      base = c.enter-value.ensures.base;
      alone = c.enter-value.ensures.alone;
      legal = c.history.ensures.legal;
    } in
    let l : Left c.enter-value.new.pass c.leave.new.pass c.show-answer.new.self = record {
      pass = c.leave.ensures.pass;
      sound = c.leave.ensures.sound;
      legal = subst
          (λ (x : ValueView). IsLegal x.core.plant x.core.limit x.core.history)
          (sym c.show-answer.ensures.value) c.history.ensures.legal;
    } in
    subst (λ (old : BookShown). Passes old
    (record { shown = c.leave.new.pass; displays = c.pass.inside.displays }))
    c.pass.view_is (passes c.pass.inside.pass c.enter-value.new.pass c.leave.new.pass
    c.pass.inside.displays v c.show-answer.new.self c.pass.invariant.free e l
    (c.show-answer.ensures.value ∙ same_value v))
