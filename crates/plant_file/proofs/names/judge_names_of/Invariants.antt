-- No name so far stands earlier.
use Rattle.std.proofs.Common.{◌≡◌, ◌++◌, drop, map, take}
use Rattle.toml.specs.View.{table_view, view}
use Rattle.plant_file.specs.Described.{names_of_parts, text_at}
use Rattle.plant_file.specs.Faults.{judged}
use Rattle.plant_file.specs.PlantText.{named_from, twice_after}
use Rattle.plant_file.specs.declared.fault.Key.TheVariants.{Name}
use Rattle.plant_file.proofs.names.judge_names_of.Given as goal

abbrev pub invariant-loop-index : goal.invariant-loop-index
invariant-loop-index l =
    judged (twice_after
    (names_of_parts l.earlier (table_view l.document)
    ++ map (text_at Name) (map view (take l.index l.elements)))
    (drop l.index (named_from l.part 0 (map view l.elements))))
    ≡ judged (twice_after (names_of_parts l.earlier (table_view l.document))
    (named_from l.part 0 (map view l.elements)))
