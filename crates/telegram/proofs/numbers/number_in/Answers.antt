-- One that isn't read at 64 bits is out of the range.
use Rattle.std.proofs.Common.{◌≡◌, true, arith}
use Rattle.std.proofs.lemmas.Grind.{common_steps}
use Rattle.telegram.specs.Numbers.{is_number}
use Rattle.telegram.proofs.NumberTexts.{number_of-unread}
use Rattle.telegram.proofs.numbers.number_in.Goals as goal

pub returns-in_default-clause-value : goal.returns-in_default-clause-value
returns-in_default-clause-value c =
    let good : is_number c.args.field.now ≡ true = grind (arith, common_steps) in
    number_of-unread c.args.field.now c.args.low c.args.high good c.ranges.low c.ranges.high
    c.in_default.ensures.value.0
