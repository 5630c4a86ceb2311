-- A telegram that was read is within its ranges.
use Rattle.std.proofs.Common.{sym}
use Rattle.telegram.proofs.Exact.{text-of_telegram}
use Rattle.watch_session.proofs.asking.call_for.Goals as goal

pub call_on-requires : goal.call_on-requires
call_on-requires c =
    (text-of_telegram c.in-Body.body c.in-Ok.telegram (sym c.in-Ok.ensures)).1
