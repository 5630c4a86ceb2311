-- The elements so far.
use Rattle.std.proofs.Common.{◌≡◌, map, take}
use Rattle.toml.specs.View.{view}
use Rattle.plant_file.specs.Kinds.{point_in}
use Rattle.plant_file.proofs.thruster.ring.Given as goal

abbrev pub invariant-loop-value : goal.invariant-loop-value
invariant-loop-value l =
    l.ring.points.items ≡ map point_in (map view (take l.value-index l.value-items))
