use Rattle.bus_topology.specs.Islands.{IsMapSoFar}
use Rattle.bus_topology.proofs.map.islands.Given as goal

abbrev pub invariant-loop-place : goal.invariant-loop-place
invariant-loop-place l = IsMapSoFar l.plant l.standing l.place l.islands.of
