-- A text is a field too many.
use Rattle.telegram.proofs.Fields.{none-text}
use Rattle.telegram.proofs.reading.no_field.Goals as goal

pub returns-in-Some : goal.returns-in-Some
returns-in-Some c = λ read. rw c.in-Some.is (none-text c.in-Some.field-0.now read)
