use Rattle.std.proofs.Common.{sym, ◌∙◌}
use Rattle.plant_file.proofs.ChainLemmas.{failed_with, first_of_four, second_of_four, third_of_four}
use Rattle.plant_file.proofs.ChainLemmas.{last_of_four}
use Rattle.plant_file.proofs.names.judge_names.Goals as goal

pub returns-in_err-judge_part_names : goal.returns-in_err-judge_part_names
returns-in_err-judge_part_names c =
    failed_with _ _ _ c.from_residual.ensures.1
    (first_of_four _ _ _ _ _ (sym c.judge_part_names.ensures ∙ c.in_err-judge_part_names.was))

pub returns-in_err-judge_names_of : goal.returns-in_err-judge_names_of
returns-in_err-judge_names_of c =
    failed_with _ _ _ c.from_residual-in_err-judge_names_of.ensures.1
    (second_of_four _ _ _ _ _ (sym c.judge_part_names.ensures ∙ c.in_ok-judge_part_names.was)
    (sym c.judge_names_of.ensures ∙ c.in_err-judge_names_of.was))

pub returns-in_err-judge_repeated : goal.returns-in_err-judge_repeated
returns-in_err-judge_repeated c =
    failed_with _ _ _ c.from_residual-in_err-judge_repeated.ensures.1
    (third_of_four _ _ _ _ _ (sym c.judge_part_names.ensures ∙ c.in_ok-judge_part_names.was)
    (sym c.judge_names_of.ensures ∙ c.in_ok-judge_names_of.was) (sym c.judge_repeated.ensures
    ∙ c.in_err-judge_repeated.was))

pub returns : goal.returns
returns c =
    c.judge_repeated-2.ensures
    ∙ sym (last_of_four _ _ _ _ (sym c.judge_part_names.ensures ∙ c.in_ok-judge_part_names.was)
    (sym c.judge_names_of.ensures ∙ c.in_ok-judge_names_of.was) (sym c.judge_repeated.ensures
    ∙ c.in_ok-judge_repeated.was))
