use Rattle.std.specs.Prelude.{map}
use Rattle.redundancy_groups.proofs.Loads.{IsLoadSoFar}
use Rattle.redundancy_groups.proofs.fixed.fixed_load.Given as goal

abbrev pub invariant-loop-place : goal.invariant-loop-place
invariant-loop-place l =
    IsLoadSoFar (map (λ thruster. thruster.lever) l.thrusters) l.fixed l.place l.total
