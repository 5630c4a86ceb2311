use Rattle.std.proofs.Common.{◌≡◌, false}
use Rattle.machine_tests.proofs.turns.add_all.Given as goal

abbrev pub invariant-loop-number : goal.invariant-loop-number
invariant-loop-number g l = record {
  lock : l.pass.lock ≡ l.initial.pass.lock;
  free : l.pass.holds ≡ false;
  caller : l.pass.caller ≡ l.initial.pass.caller;
}
