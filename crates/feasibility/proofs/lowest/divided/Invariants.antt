use Rattle.std.proofs.Common.{◌≡◌, map, take}
use Rattle.feasibility.specs.Lowest.{divided_by}
use Rattle.feasibility.proofs.lowest.divided.Given as goal

abbrev pub invariant-loop-thrust : goal.invariant-loop-thrust
invariant-loop-thrust l =
    l.quotients.list.items ≡ map (divided_by l.common) (take l.thrust-index l.thrust-items)
