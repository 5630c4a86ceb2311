-- A number is text.
use Rattle.std.proofs.Common.{arith}
use Rattle.std.proofs.lemmas.Grind.{common_steps}
use Rattle.std.specs.Str.{IsUtf8}
use Rattle.telegram.proofs.NumberTexts.{number_of-no_text}
use Rattle.telegram.proofs.numbers.number.Goals as goal

pub returns-in-Err-clause-value : goal.returns-in-Err-clause-value
returns-in-Err-clause-value c =
    let other : ¬ (IsUtf8 c.args.field.now) = λ text. absurd (grind (arith, common_steps, text)) in
    number_of-no_text c.args.field.now c.args.low c.args.high other
