use Rattle.bus_topology.proofs.Apart.{IsApart}
use Rattle.bus_topology.proofs.map.apart.Given as goal

abbrev pub invariant-loop-section : goal.invariant-loop-section
invariant-loop-section l = IsApart l.standing.live l.section l.of
