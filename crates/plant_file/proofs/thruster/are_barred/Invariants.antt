-- Each value so far is one of the pieces, and equals no later one.
use Rattle.std.proofs.Common.{◌≡◌, drop, map}
use Rattle.toml.specs.View.{view}
use Rattle.plant_file.specs.PlantText.{are_barred}
use Rattle.plant_file.proofs.MaskLemmas.{places_of}
use Rattle.plant_file.proofs.thruster.are_barred.Given as goal

abbrev pub invariant-loop-index : goal.invariant-loop-index
invariant-loop-index l =
    are_barred l.pieces (places_of (map view (drop l.index l.values)))
    ≡ are_barred l.pieces (places_of (map view l.values))
