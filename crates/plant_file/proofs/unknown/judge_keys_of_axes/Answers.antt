use Rattle.std.proofs.Common.{◌≡◌, Ok, Err, ap, sym, ◌∙◌}
use Rattle.std.proofs.lemmas.List.{append-nil}
use Rattle.toml.specs.View.{table_view}
use Rattle.plant_file.specs.declared.fault.Part.TheVariants.{Controller}
use Rattle.plant_file.specs.Faults.{judged, unknown_faults}
use Rattle.plant_file.specs.Keys.{axis_keys}
use Rattle.plant_file.proofs.JudgedLemmas.{judged_failed, judged_past}
use Rattle.plant_file.proofs.unknown.judge_keys_of_axes.Goals as goal

pub returns-in_err-judge_table_keys : goal.returns-in_err-judge_table_keys
returns-in_err-judge_table_keys c =
    let own : judged (unknown_faults Controller 0 axis_keys (table_view c.args.controller.now))
    ≡ Err c.in_err-judge_table_keys.field-0.0 =
    rw (← c.has_axes.ensures) (sym c.judge_table_keys.ensures ∙ c.in_err-judge_table_keys.was) in
    judged_failed _ _ _ _ c.from_residual.ensures.1 own

pub returns-in_err-judge_keys_of_axis : goal.returns-in_err-judge_keys_of_axis
returns-in_err-judge_keys_of_axis c =
    let own : judged (unknown_faults Controller 0 axis_keys (table_view c.args.controller.now))
    ≡ Ok tt =
    rw (← c.has_axes.ensures) (sym c.judge_table_keys.ensures ∙ c.in_ok-judge_table_keys.was) in
    judged_failed _ _ _ _ c.from_residual-in_err-judge_keys_of_axis.ensures.1
    (sym c.judge_keys_of_axis.ensures ∙ c.in_err-judge_keys_of_axis.was)
    ∙ sym (judged_past _ _ own)

pub returns-in_err-judge_keys_of_axis-2 : goal.returns-in_err-judge_keys_of_axis-2
returns-in_err-judge_keys_of_axis-2 c =
    let own : judged (unknown_faults Controller 0 axis_keys (table_view c.args.controller.now))
    ≡ Ok tt =
    rw (← c.has_axes.ensures) (sym c.judge_table_keys.ensures ∙ c.in_ok-judge_table_keys.was) in
    judged_failed _ _ _ _ c.from_residual-in_err-judge_keys_of_axis-2.ensures.1
    (sym c.judge_keys_of_axis-2.ensures ∙ c.in_err-judge_keys_of_axis-2.was)
    ∙ sym (judged_past _ _ (sym c.judge_keys_of_axis.ensures ∙ c.in_ok-judge_keys_of_axis.was))
    ∙ sym (judged_past _ _ own)

pub returns : goal.returns
returns c =
    let own : judged (unknown_faults Controller 0 axis_keys (table_view c.args.controller.now))
    ≡ Ok tt =
    rw (← c.has_axes.ensures) (sym c.judge_table_keys.ensures ∙ c.in_ok-judge_table_keys.was) in
    c.judge_keys_of_axis-3.ensures
    ∙ sym (ap judged (append-nil _))
    ∙ sym (judged_past _ _ (sym c.judge_keys_of_axis-2.ensures ∙ c.in_ok-judge_keys_of_axis-2.was))
    ∙ sym (judged_past _ _ (sym c.judge_keys_of_axis.ensures ∙ c.in_ok-judge_keys_of_axis.was))
    ∙ sym (judged_past _ _ own)
