use Rattle.bus_topology.specs.Islands.{has_number}
use Rattle.bus_topology.proofs.Totals.{IsTotalSoFar}
use Rattle.bus_topology.proofs.power.power.Given as goal

abbrev pub invariant-loop-place : goal.invariant-loop-place
invariant-loop-place l =
    IsTotalSoFar (λ g. has_number l.islands.of l.island g.section)
    (λ g. g.power) l.parts.generators.items l.standing.running l.place l.power
