-- A text is a field too many.
use Rattle.log_reading.proofs.FieldsLeft.{ended_text}
use Rattle.log_reading.proofs.replies.plain.Goals as goal

pub returns-in-Some : goal.returns-in-Some
returns-in-Some c = rw c.in-Some.is (ended_text c.args.reply c.in-Some.field-0.now)
