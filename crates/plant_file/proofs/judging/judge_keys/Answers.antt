use Rattle.std.proofs.Common.{◌≡◌, Ok, Err, ap, sym, ◌∙◌}
use Rattle.toml.specs.View.{table_view}
use Rattle.plant_file.specs.declared.fault.Part.TheVariants.{Top}
use Rattle.plant_file.specs.Faults.{judged, table_faults}
use Rattle.plant_file.specs.Keys.{top_rows}
use Rattle.plant_file.proofs.JudgedLemmas.{judged_at, judged_failed, judged_past}
use Rattle.plant_file.proofs.judging.judge_keys.Goals as goal

pub returns-in_err-judge_table : goal.returns-in_err-judge_table
returns-in_err-judge_table c =
    let top : judged (table_faults Top 0 top_rows (table_view c.args.document.now))
    ≡ Err c.in_err-judge_table.field-0.0 =
    sym (c.judge_table.ensures
    ∙ ap (λ rows. judged (table_faults Top 0 rows (table_view c.args.document.now)))
    c.rows.ensures) ∙ c.in_err-judge_table.was in
    judged_failed _ _ _ _ c.from_residual.ensures.1 (judged_at _ _ _ top)

pub returns-in_err-judge_controller : goal.returns-in_err-judge_controller
returns-in_err-judge_controller c =
    let top : judged (table_faults Top 0 top_rows (table_view c.args.document.now)) ≡ Ok tt =
    sym (c.judge_table.ensures
    ∙ ap (λ rows. judged (table_faults Top 0 rows (table_view c.args.document.now)))
    c.rows.ensures) ∙ c.in_ok-judge_table.was in
    judged_failed _ _ _ _ c.from_residual-in_err-judge_controller.ensures.1 (judged_past _ _ top
    ∙ sym c.judge_controller.ensures ∙ c.in_err-judge_controller.was)

pub returns : goal.returns
returns c =
    let top : judged (table_faults Top 0 top_rows (table_view c.args.document.now)) ≡ Ok tt =
    sym (c.judge_table.ensures
    ∙ ap (λ rows. judged (table_faults Top 0 rows (table_view c.args.document.now)))
    c.rows.ensures) ∙ c.in_ok-judge_table.was in
    c.judge_parts.ensures
    ∙ sym (judged_past _ _ (judged_past _ _ top ∙ sym c.judge_controller.ensures
    ∙ c.in_ok-judge_controller.was))
