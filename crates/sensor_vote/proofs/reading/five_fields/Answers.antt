-- Five fields with more after them are too many.
use Rattle.std.proofs.Common.{◌≡◌, ◌∙◌, ◌∷◌, Option, Some, List, ℕ, ap}
use Rattle.std.specs.Borrow.{Bor}
use Rattle.telegram.specs.Telegrams.{fields, fields_left}
use Rattle.sensor_vote.proofs.Fields.{found-too_many}
use Rattle.sensor_vote.proofs.reading.five_fields.Goals as goal

-- a field and what is left after it, where a text is left
found : (rest after : Option (Bor (List ℕ))) (text : Bor (List ℕ)) (field : List ℕ)
    → rest ≡ Some text → fields text.now ≡ field ∷ fields_left after
    → fields_left rest ≡ field ∷ fields_left after
found rest after text field is first = ap fields_left is ∙ first

pub returns-in-Some-clause-others : goal.returns-in-Some-clause-others
returns-in-Some-clause-others c =
    let first = c.first_field.result in
    let second = c.first_field-2.result in
    let third = c.first_field-3.result in
    let fourth = c.first_field-4.result in
    let fifth = c.first_field-5.result in
    found-too_many c.args.rest first.1 second.1 third.1 fourth.1 fifth.1
    first.0.now second.0.now third.0.now fourth.0.now fifth.0.now c.in-Some.field-0
    (found c.args.rest first.1 c.in_ok-rest.field-0 first.0.now c.in_ok-rest.was
    c.first_field.ensures)
    (found first.1 second.1 c.in_ok-rest-2.field-0 second.0.now c.in_ok-rest-2.was
    c.first_field-2.ensures)
    (found second.1 third.1 c.in_ok-rest-3.field-0 third.0.now c.in_ok-rest-3.was
    c.first_field-3.ensures)
    (found third.1 fourth.1 c.in_ok-rest-4.field-0 fourth.0.now c.in_ok-rest-4.was
    c.first_field-4.ensures)
    (found fourth.1 fifth.1 c.in_ok-rest-5.field-0 fifth.0.now c.in_ok-rest-5.was
    c.first_field-5.ensures)
    c.in-Some.is
