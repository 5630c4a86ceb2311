-- A text is left behind the first field.
use Rattle.std.proofs.Common.{◌≡◌, ◌∙◌, ℕ, List, Option, Some, ap, sym}
use Rattle.telegram.specs.Telegrams.{fields_left}
use Rattle.log_reading.specs.Fields.{next_field}
use Rattle.log_reading.proofs.FieldsLeft.{only_of_more}
use Rattle.log_reading.proofs.Inverses.{Fields}
use Rattle.log_reading.proofs.fields.only_field.Goals as goal

pub returns-in-Some : goal.returns-in-Some
returns-in-Some c =
    let first = c.in_ok-field.field.now in
    let told : ◌≡◌ {A = Option (List ℕ × Fields)} (Some (first, fields_left c.in_ok-field.rest))
    (next_field (fields_left c.args.rest)) = c.in_ok-field.ensures in
    only_of_more (fields_left c.args.rest) first c.in-Some.field-0.now
    (ap (λ (left : Fields). Some (first, left)) (sym (ap fields_left c.in-Some.is)) ∙ told)
