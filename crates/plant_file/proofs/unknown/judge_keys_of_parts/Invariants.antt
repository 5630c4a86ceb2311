-- No part so far has an unknown key.
use Rattle.std.proofs.Common.{◌≡◌, drop}
use Rattle.std.specs.List.{flat_map}
use Rattle.toml.specs.View.{table_view}
use Rattle.plant_file.specs.Faults.{judged, unknown_in_part}
use Rattle.plant_file.specs.Keys.{arrays}
use Rattle.plant_file.proofs.unknown.judge_keys_of_parts.Given as goal

abbrev pub invariant-loop-part : goal.invariant-loop-part
invariant-loop-part l =
    judged (flat_map (unknown_in_part l.format (table_view l.document)) (drop l.part-index arrays))
    ≡ judged (flat_map (unknown_in_part l.format (table_view l.document)) arrays)
