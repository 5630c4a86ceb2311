-- The operators' output never fails.
use Rattle.std.proofs.Common.{arith}
use Rattle.watch_session.proofs.looping.take_orders.Goals as goal

pub returns-clause-taken : goal.returns-clause-taken
returns-clause-taken g c = record {
  out = _;
  never = λ rose. omega (arith, rose);
  takes = c.take_stream.ensures.taken;
}
