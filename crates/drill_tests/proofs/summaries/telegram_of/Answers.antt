-- What is read is within its ranges.
use Rattle.std.proofs.Common.{sym}
use Rattle.telegram.proofs.Exact.{text-of_telegram}
use Rattle.drill_tests.proofs.summaries.telegram_of.Goals as goal

pub returns-in-Ok : goal.returns-in-Ok
returns-in-Ok c = (text-of_telegram c.args.body.now c.in-Ok.telegram (sym c.in-Ok.ensures)).1
