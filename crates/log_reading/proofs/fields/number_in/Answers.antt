-- What `parse` doesn't read spells no number of the range.
use Rattle.std.proofs.Common.{sym}
use Rattle.log_reading.proofs.NumberFields.{number-unread}
use Rattle.log_reading.proofs.fields.number_in.Goals as goal

pub returns-in-Err-clause-value : goal.returns-in-Err-clause-value
returns-in-Err-clause-value c =
    sym (number-unread c.args.low c.args.high c.args.field.now c.ranges.low c.ranges.high
    c.in-Err.ensures.value.0)
