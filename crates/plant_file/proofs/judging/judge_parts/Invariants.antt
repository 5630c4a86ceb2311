-- No part so far has a fault.
use Rattle.std.proofs.Common.{◌≡◌, drop}
use Rattle.std.specs.List.{flat_map}
use Rattle.toml.specs.View.{table_view}
use Rattle.plant_file.specs.Faults.{judged, part_faults}
use Rattle.plant_file.specs.Keys.{arrays}
use Rattle.plant_file.proofs.judging.judge_parts.Given as goal

abbrev pub invariant-loop-part : goal.invariant-loop-part
invariant-loop-part l =
    judged (flat_map (part_faults l.format (table_view l.document)) (drop l.part-index arrays))
    ≡ judged (flat_map (part_faults l.format (table_view l.document)) arrays)
