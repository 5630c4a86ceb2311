use Rattle.std.proofs.Common.{ap, sym, ◌∙◌}
use Rattle.std.proofs.lemmas.List.{append-nil}
use Rattle.plant_file.specs.Faults.{judged}
use Rattle.plant_file.proofs.JudgedLemmas.{judged_failed, judged_past}
use Rattle.plant_file.proofs.judging.judge_axes.Goals as goal

pub returns-in_err-judge_axis : goal.returns-in_err-judge_axis
returns-in_err-judge_axis c =
    judged_failed _ _ _ _ c.from_residual.ensures.1 (sym c.judge_axis.ensures
    ∙ c.in_err-judge_axis.was)

pub returns-in_err-judge_axis-2 : goal.returns-in_err-judge_axis-2
returns-in_err-judge_axis-2 c =
    judged_failed _ _ _ _ c.from_residual-in_err-judge_axis-2.ensures.1 (sym c.judge_axis-2.ensures
    ∙ c.in_err-judge_axis-2.was)
    ∙ sym (judged_past _ _ (sym c.judge_axis.ensures ∙ c.in_ok-judge_axis.was))

pub returns : goal.returns
returns c =
    c.judge_axis-3.ensures
    ∙ sym (ap judged (append-nil _))
    ∙ sym (judged_past _ _ (sym c.judge_axis-2.ensures ∙ c.in_ok-judge_axis-2.was))
    ∙ sym (judged_past _ _ (sym c.judge_axis.ensures ∙ c.in_ok-judge_axis.was))
