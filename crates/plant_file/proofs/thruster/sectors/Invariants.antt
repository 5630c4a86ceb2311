-- The elements so far.
use Rattle.std.proofs.Common.{◌≡◌, map, take}
use Rattle.toml.specs.View.{view}
use Rattle.plant_file.specs.Described.{sector_in}
use Rattle.plant_file.proofs.thruster.sectors.Given as goal

abbrev pub invariant-loop-value : goal.invariant-loop-value
invariant-loop-value l =
    l.sectors.items ≡ map sector_in (map view (take l.value-index l.value-items))
