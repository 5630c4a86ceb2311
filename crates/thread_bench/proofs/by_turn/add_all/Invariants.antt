use Rattle.std.proofs.Common.{◌≡◌, false}
use Rattle.thread_bench.proofs.by_turn.add_all.Given as goal

abbrev pub invariant-loop : goal.invariant-loop
invariant-loop g l = record {
  lock : l.pass.lock ≡ l.initial.pass.lock;
  free : l.pass.holds ≡ false;
  caller : l.pass.caller ≡ l.initial.pass.caller;
  away : l.pass.away ≡ l.initial.pass.away;
}
