-- The mask of the values so far.
use Rattle.std.proofs.Common.{◌≡◌, map, take}
use Rattle.toml.specs.View.{view}
use Rattle.plant_file.specs.Described.{mask_of}
use Rattle.plant_file.proofs.MaskLemmas.{places_of}
use Rattle.plant_file.proofs.thruster.mask.Given as goal

abbrev pub invariant-loop-value : goal.invariant-loop-value
invariant-loop-value l =
    l.mask ≡ mask_of (places_of (map view (take l.value-index l.value-items)))
