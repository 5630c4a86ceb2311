-- The elements so far, and false past them.
use Rattle.std.proofs.Common.{◌≡◌, false, map, take}
use Rattle.toml.specs.View.{view}
use Rattle.plant_file.specs.Described.{filled, truth_at}
use Rattle.plant_file.proofs.parts.flags.Given as goal

abbrev pub invariant-loop-place : goal.invariant-loop-place
invariant-loop-place g l =
    l.flags ≡ filled g.row.N false (map (truth_at l.key) (map view (take l.place l.elements)))
