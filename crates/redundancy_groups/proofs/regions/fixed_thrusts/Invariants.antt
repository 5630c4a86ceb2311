use Rattle.redundancy_groups.specs.Surviving.{fixed_at}
use Rattle.redundancy_groups.proofs.Numbered.{AreMade}
use Rattle.redundancy_groups.proofs.regions.fixed_thrusts.Given as goal

abbrev pub invariant-loop-place : goal.invariant-loop-place
invariant-loop-place l =
    AreMade (fixed_at l.parts l.status l.loss) l.parts.thrusters.items l.place l.fixed.items
