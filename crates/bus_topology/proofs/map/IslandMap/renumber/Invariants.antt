use Rattle.std.proofs.Common.{◌≡◌, ◌++◌, map, take, drop}
use Rattle.bus_topology.specs.Islands.{exchanged}
use Rattle.bus_topology.proofs.map.IslandMap.renumber.Given as goal

abbrev pub invariant-loop-island : goal.invariant-loop-island
invariant-loop-island l =
    l.island-items ≡ map (exchanged l.old l.new) (take l.island-index l.initial.island-items)
    ++ drop l.island-index l.initial.island-items
