use Rattle.std.proofs.Common.{◌≡◌, Ok, Err, sym, ◌∙◌}
use Rattle.toml.specs.View.{table_view}
use Rattle.plant_file.specs.declared.fault.Part.TheVariants.{Top}
use Rattle.plant_file.specs.Faults.{judged, unknown_faults}
use Rattle.plant_file.specs.Keys.{top_keys}
use Rattle.plant_file.proofs.JudgedLemmas.{judged_at, judged_failed, judged_past}
use Rattle.plant_file.proofs.unknown.judge_known_keys.Goals as goal

pub returns-in_err-judge_table_keys : goal.returns-in_err-judge_table_keys
returns-in_err-judge_table_keys c =
    let top : judged (unknown_faults Top 0 top_keys (table_view c.args.document.now))
    ≡ Err c.in_err-judge_table_keys.field-0.0 =
    rw (← c.has_top_keys.ensures) (sym c.judge_table_keys.ensures
    ∙ c.in_err-judge_table_keys.was) in
    judged_failed _ _ _ _ c.from_residual.ensures.1 (judged_at _ _ _ top)

pub returns-in_err-judge_keys_of_controller : goal.returns-in_err-judge_keys_of_controller
returns-in_err-judge_keys_of_controller c =
    let top : judged (unknown_faults Top 0 top_keys (table_view c.args.document.now)) ≡ Ok tt =
    rw (← c.has_top_keys.ensures) (sym c.judge_table_keys.ensures ∙ c.in_ok-judge_table_keys.was) in
    judged_failed _ _ _ _ c.from_residual-in_err-judge_keys_of_controller.ensures.1
    (judged_past _ _ top ∙ sym c.judge_keys_of_controller.ensures
    ∙ c.in_err-judge_keys_of_controller.was)

pub returns : goal.returns
returns c =
    let top : judged (unknown_faults Top 0 top_keys (table_view c.args.document.now)) ≡ Ok tt =
    rw (← c.has_top_keys.ensures) (sym c.judge_table_keys.ensures ∙ c.in_ok-judge_table_keys.was) in
    c.judge_keys_of_parts.ensures
    ∙ sym (judged_past _ _ (judged_past _ _ top ∙ sym c.judge_keys_of_controller.ensures
    ∙ c.in_ok-judge_keys_of_controller.was))
