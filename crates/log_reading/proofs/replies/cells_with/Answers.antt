-- Item by item.
use Rattle.std.proofs.Common.{◌∙◌, ◌≤◌, ◌<◌, List, length, ap, arith, refl, subst, sym}
use Rattle.std.proofs.lemmas.Bool.Decides.{nat_tests}
use Rattle.plant_model.specs.declared.limits.TheConstants.{MOST_GROUPS}
use Rattle.plant_model.specs.declared.board.Cell.{Cell}
use Rattle.log_reading.specs.Replies.{cell_of}
use Rattle.telegram.specs.Telegrams.{fields_left}
use Rattle.log_reading.specs.Fields.{at_first, taken}
use Rattle.log_reading.proofs.Items.{IsGoing, begins, full, goes_on, some_left, unread}
use Rattle.log_reading.proofs.replies.cells_with.Goals as goal

pub loop-rest-init : goal.loop-rest-init
loop-rest-init c =
    subst (λ (items : List Cell). IsGoing Cell (at_first cell_of) MOST_GROUPS (fields_left c.args.fields) items
    (fields_left c.args.fields)) (sym c.new-list.ensures)
    (begins Cell (at_first cell_of) MOST_GROUPS (fields_left c.args.fields))

pub returns-then-is_full : goal.returns-then-is_full
returns-then-is_full c =
    let some = some_left c.loop-rest.rest (sym c.is_some.ensures ∙ c.loop-rest-test.true) in
    let past : MOST_GROUPS ≤ length c.loop-rest.list.items = grind (arith, nat_tests) in
    rw (full Cell (at_first cell_of) MOST_GROUPS (fields_left c.args.fields) c.loop-rest.list.items
    (fields_left c.loop-rest.rest) c.loop-rest.invariant some past) refl

pub returns-in_err-cell : goal.returns-in_err-cell
returns-in_err-cell c =
    let some = some_left c.loop-rest.rest (sym c.is_some.ensures ∙ c.loop-rest-test.true) in
    let there : length c.loop-rest.list.items < MOST_GROUPS = grind (arith, nat_tests) in
    let none = sym c.cell_at.ensures ∙ ap (taken {X = Cell}) c.in_err-cell.was in
    c.from_residual.ensures
    ∙ rw (unread Cell (at_first cell_of) MOST_GROUPS (fields_left c.args.fields) c.loop-rest.list.items
    (fields_left c.loop-rest.rest) c.loop-rest.invariant some there none) refl

pub loop-rest-preserved : goal.loop-rest-preserved
loop-rest-preserved c =
    let some = some_left c.loop-rest.rest (sym c.is_some.ensures ∙ c.loop-rest-test.true) in
    let there : length c.loop-rest.list.items < MOST_GROUPS = grind (arith, nat_tests) in
    let found = sym c.cell_at.ensures ∙ ap (taken {X = Cell}) c.in_ok-cell.was in
    subst (λ (items : List Cell). IsGoing Cell (at_first cell_of) MOST_GROUPS (fields_left c.args.fields) items
    (fields_left c.in_ok-cell.others)) (sym c.push.ensures.items)
    (goes_on Cell (at_first cell_of) MOST_GROUPS (fields_left c.args.fields) c.loop-rest.list.items
    (fields_left c.loop-rest.rest) c.in_ok-cell.cell (fields_left c.in_ok-cell.others)
    c.loop-rest.invariant some there found)
