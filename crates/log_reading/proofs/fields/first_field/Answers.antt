-- The text is cut at the first comma.
use Rattle.std.proofs.Common.{Some, None, lit<}
use Rattle.telegram.proofs.Fields.{fields-split}
use Rattle.log_reading.proofs.fields.first_field.Goals as goal

pub returns-in-Some : goal.returns-in-Some
returns-in-Some c =
    fields-split c.args.text.now (Some (c.in-Some.field, c.in-Some.rest))
    (c.in-Some.ensures.byte (lit< tt) (λ text places found. found))

pub returns-in-None : goal.returns-in-None
returns-in-None c =
    fields-split c.args.text.now None (c.in-None.ensures.byte (lit< tt)
    (λ text places found. found))
