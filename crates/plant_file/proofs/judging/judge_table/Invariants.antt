-- No key so far has a fault.
use Rattle.std.proofs.Common.{◌≡◌, drop}
use Rattle.std.specs.List.{flat_map}
use Rattle.toml.specs.View.{table_view}
use Rattle.plant_file.specs.Faults.{judged, row_faults}
use Rattle.plant_file.proofs.judging.judge_table.Given as goal

abbrev pub invariant-loop-row : goal.invariant-loop-row
invariant-loop-row l =
    judged (flat_map (row_faults l.part l.index (table_view l.table)) (drop l.row-index l.rows))
    ≡ judged (flat_map (row_faults l.part l.index (table_view l.table)) l.rows)
