-- A telegram that was read is within its ranges.
use Rattle.std.proofs.Common.{sym}
use Rattle.telegram.proofs.Exact.{text-of_telegram}
use Rattle.dp_sessions.proofs.session.asked_for.Goals as goal

pub returns-in-Ok-clause-within : goal.returns-in-Ok-clause-within
returns-in-Ok-clause-within c = λ plant.
    (text-of_telegram c.in-Body.body c.in-Ok.telegram (sym c.in-Ok.ensures)).1
