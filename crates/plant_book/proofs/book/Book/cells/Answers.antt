use Rattle.std.proofs.Common.{[], ap, subst, ◌∙◌}
use Rattle.plant_core.specs.Board.{cells_of}
use Rattle.plant_core.specs.Machine.{state_after}
use Rattle.plant_book.specs.Books.{BookShown}
use Rattle.plant_book.specs.Calls.{Passes}
use Rattle.plant_book.proofs.Turns.{Entered, Left, passes, rests, same_value, seen_is}
use Rattle.plant_book.proofs.book.Book.cells.Goals as goal

pub invariant_of-pass : goal.invariant_of-pass
invariant_of-pass g c =
    let v = c.enter-value.result in
    let e : Entered c.pass.inside.pass c.enter-value.new.pass c.enter-value.result = record {
      pass = c.enter-value.ensures.pass;
      seen = c.enter-value.ensures.seen;
      base = c.enter-value.ensures.base;
      alone = c.enter-value.ensures.alone;
      legal = c.history.ensures.legal;
    } in
    let l : Left c.enter-value.new.pass c.leave.new.pass c.enter-value.result = record {
      pass = c.leave.ensures.pass;
      sound = c.leave.ensures.sound;
      legal = c.history.ensures.legal;
    } in
    rests c.pass.inside.pass c.enter-value.new.pass c.leave.new.pass v v [] e l (same_value v)

pub returns-clause-passes : goal.returns-clause-passes
returns-clause-passes g c =
    let v = c.enter-value.result in
    let e : Entered c.pass.inside.pass c.enter-value.new.pass c.enter-value.result = record {
      pass = c.enter-value.ensures.pass;
      seen = c.enter-value.ensures.seen;
      base = c.enter-value.ensures.base;
      alone = c.enter-value.ensures.alone;
      legal = c.history.ensures.legal;
    } in
    let l : Left c.enter-value.new.pass c.leave.new.pass c.enter-value.result = record {
      pass = c.leave.ensures.pass;
      sound = c.leave.ensures.sound;
      legal = c.history.ensures.legal;
    } in
    subst (λ (old : BookShown). Passes old
    (record { shown = c.leave.new.pass; displays = c.pass.inside.displays }))
    c.pass.view_is (passes c.pass.inside.pass c.enter-value.new.pass c.leave.new.pass
    c.pass.inside.displays v v c.pass.invariant.free e l (same_value v))

pub returns-clause-cells : goal.returns-clause-cells
returns-clause-cells g c =
    let v = c.enter-value.result in
    let e : Entered c.pass.inside.pass c.enter-value.new.pass c.enter-value.result = record {
      pass = c.enter-value.ensures.pass;
      seen = c.enter-value.ensures.seen;
      base = c.enter-value.ensures.base;
      alone = c.enter-value.ensures.alone;
      legal = c.history.ensures.legal;
    } in
    let l : Left c.enter-value.new.pass c.leave.new.pass c.enter-value.result = record {
      pass = c.leave.ensures.pass;
      sound = c.leave.ensures.sound;
      legal = c.history.ensures.legal;
    } in
    let base = e.base ∙ ap (λ (x : BookShown). x.shown.base) c.pass.view_is
    ∙ c.requires.of.base in
    let seen = seen_is c.pass.inside.pass c.enter-value.new.pass c.leave.new.pass v v [] e l (same_value v) in
    c.cells-cells.ensures.cells
    ∙ λ i. cells_of (base i).plant (state_after (base i).plant (seen i))
