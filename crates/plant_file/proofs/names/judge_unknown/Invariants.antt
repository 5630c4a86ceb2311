-- No element so far has a fault.
use Rattle.std.proofs.Common.{◌≡◌, drop, map}
use Rattle.std.specs.List.{enumerate_from, flat_map}
use Rattle.toml.specs.View.{table_view, view}
use Rattle.plant_file.specs.Described.{names_of_parts}
use Rattle.plant_file.specs.PlantText.{unknown}
use Rattle.plant_file.specs.Faults.{judged}
use Rattle.plant_file.proofs.names.judge_unknown.Given as goal

abbrev pub invariant-loop-index : goal.invariant-loop-index
invariant-loop-index l =
    judged (flat_map (unknown (names_of_parts l.cited (table_view l.document)) l.part l.key)
    (drop l.index (enumerate_from 0 (map view l.elements))))
    ≡ judged (flat_map (unknown (names_of_parts l.cited (table_view l.document)) l.part l.key)
    (enumerate_from 0 (map view l.elements)))
