use Rattle.std.proofs.Common.{◌≡◌, []}
use Rattle.glance_tests.proofs.tests.looked_at_with_no_place.Given as goal

abbrev pub invariant-loop : goal.invariant-loop
invariant-loop g l = (l.writer.glance ≡ l.glance.glance) × (l.writer.list ≡ [])
