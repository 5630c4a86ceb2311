-- The elements so far.
use Rattle.std.proofs.Common.{◌≡◌, map, take}
use Rattle.toml.specs.View.{table_view, view}
use Rattle.plant_file.specs.Described.{tie_in}
use Rattle.plant_file.proofs.parts.ties.Given as goal

abbrev pub invariant-loop-element : goal.invariant-loop-element
invariant-loop-element l =
    l.ties.items ≡ map (tie_in (table_view l.document))
    (map view (take l.element-index l.element-items))
