-- The elements so far.
use Rattle.std.proofs.Common.{◌≡◌, map, take}
use Rattle.toml.specs.View.{table_view, view}
use Rattle.plant_file.specs.Described.{generator_in}
use Rattle.plant_file.proofs.parts.generators.Given as goal

abbrev pub invariant-loop-element : goal.invariant-loop-element
invariant-loop-element l =
    l.generators.items ≡ map (generator_in (table_view l.document))
    (map view (take l.element-index l.element-items))
