-- The numbers so far, and 0 past them.
use Rattle.std.proofs.Common.{◌≡◌, map, take}
use Rattle.toml.specs.View.{view}
use Rattle.plant_file.specs.Described.{filled}
use Rattle.plant_file.proofs.MaskLemmas.{places_of}
use Rattle.plant_file.proofs.parts.numbers.Given as goal

abbrev pub invariant-loop-place : goal.invariant-loop-place
invariant-loop-place g l =
    l.numbers ≡ filled g.row.N 0 (places_of (map view (take l.place l.values)))
