use Rattle.bus_topology.specs.Islands.{has_number}
use Rattle.bus_topology.proofs.Totals.{IsTotalSoFar}
use Rattle.bus_topology.proofs.power.rated.Given as goal

abbrev pub invariant-loop-place : goal.invariant-loop-place
invariant-loop-place l =
    IsTotalSoFar (λ t. has_number l.islands.of l.island t.section)
    (λ t. t.rated) l.parts.thrusters.items l.standing.selected l.place l.rated
