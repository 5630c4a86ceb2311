use Rattle.std.proofs.Common.{sym, ◌∙◌}
use Rattle.toml.specs.View.{table_view}
use Rattle.plant_file.specs.Faults.{row_faults}
use Rattle.plant_file.proofs.JudgedLemmas.{walk_failed, walk_goes_on}
use Rattle.plant_file.proofs.judging.judge_table.Goals as goal

pub returns-in_err-judge_row : goal.returns-in_err-judge_row
returns-in_err-judge_row c =
    walk_failed (row_faults c.args.part c.args.index (table_view c.args.table.now)) c.args.rows.now
    c.loop-row.row-index _ c.loop-row-test.true _ _
    c.from_residual.ensures.1 (sym c.judge_row.ensures ∙ c.in_err-judge_row.was)
    c.loop-row.invariant

pub loop-row-preserved : goal.loop-row-preserved
loop-row-preserved c =
    walk_goes_on (row_faults c.args.part c.args.index (table_view c.args.table.now)) c.args.rows.now
    c.loop-row.row-index _ c.loop-row-test.true
    (sym c.judge_row.ensures ∙ c.in_ok-judge_row.was) c.loop-row.invariant
