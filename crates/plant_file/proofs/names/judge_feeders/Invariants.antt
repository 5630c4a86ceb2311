-- No element so far has a fault.
use Rattle.std.proofs.Common.{◌≡◌, drop, map}
use Rattle.std.specs.List.{enumerate_from, flat_map}
use Rattle.toml.specs.View.{view}
use Rattle.plant_file.specs.Described.{text_at}
use Rattle.plant_file.specs.PlantText.{unfed}
use Rattle.plant_file.specs.declared.fault.Key.TheVariants.{Name}
use Rattle.plant_file.specs.Faults.{judged}
use Rattle.plant_file.proofs.names.judge_feeders.Given as goal

abbrev pub invariant-loop-index : goal.invariant-loop-index
invariant-loop-index l =
    judged (flat_map (unfed (map (text_at Name) (map view l.sections)) l.part)
    (drop l.index (enumerate_from 0 (map view l.elements))))
    ≡ judged (flat_map (unfed (map (text_at Name) (map view l.sections)) l.part)
    (enumerate_from 0 (map view l.elements)))
