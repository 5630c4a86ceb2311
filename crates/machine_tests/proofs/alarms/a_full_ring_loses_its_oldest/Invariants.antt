use Rattle.std.proofs.Common.{◌≡◌}
use Rattle.machine_tests.proofs.alarms.a_full_ring_loses_its_oldest.Given as goal

abbrev pub invariant-loop-group : goal.invariant-loop-group
invariant-loop-group g l = l.alarms.raised ≡ l.group
