use Rattle.std.proofs.Common.{◌≡◌}
use Rattle.glance_tests.proofs.tests.watch.Given as goal

abbrev pub invariant-loop : goal.invariant-loop
invariant-loop l = l.display.glance ≡ l.glance.glance
