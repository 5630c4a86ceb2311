use Rattle.std.proofs.Common.{◌≡◌}
use Rattle.allocator.proofs.Resting.{rests}
use Rattle.allocator.proofs.thrusts.no_thrusts.Given as goal

abbrev pub invariant-loop-thruster : goal.invariant-loop-thruster
invariant-loop-thruster l = l.thrusts.list.items ≡ rests l._thruster-index
