use Rattle.std.proofs.Common.{ap, sym, ◌∙◌}
use Rattle.std.proofs.lemmas.List.{append-nil}
use Rattle.std.specs.List.{flat_map}
use Rattle.toml.specs.View.{table_view}
use Rattle.plant_file.specs.Described.{names_of}
use Rattle.plant_file.specs.Faults.{judged}
use Rattle.plant_file.specs.PlantText.{placed, unknown}
use Rattle.plant_file.specs.declared.fault.Key.TheVariants.{Ends, Members}
use Rattle.plant_file.specs.declared.fault.Part.TheVariants.{Section, Tie, Group}
use Rattle.plant_file.proofs.ChainLemmas.{failed_with, first_of_four, second_of_four, third_of_four}
use Rattle.plant_file.proofs.ChainLemmas.{last_of_four}
use Rattle.plant_file.proofs.NameLemmas.{all_names-parts}
use Rattle.plant_file.proofs.names.judge_references.Goals as goal

pub returns-in_err-judge_unknown : goal.returns-in_err-judge_unknown
returns-in_err-judge_unknown c =
    let doc = table_view c.args.document.now in
    let ends =
    c.judge_unknown.ensures
    ∙ ap (λ names. judged (flat_map (unknown names Tie Ends) (placed Tie doc)))
    (append-nil (names_of Section doc)) in
    failed_with _ _ _ c.from_residual.ensures.1
    (first_of_four _ _ _ _ _ (sym ends ∙ c.in_err-judge_unknown.was))

pub returns-in_err-judge_feeders : goal.returns-in_err-judge_feeders
returns-in_err-judge_feeders c =
    let doc = table_view c.args.document.now in
    let ends =
    c.judge_unknown.ensures
    ∙ ap (λ names. judged (flat_map (unknown names Tie Ends) (placed Tie doc)))
    (append-nil (names_of Section doc)) in
    failed_with _ _ _ c.from_residual-in_err-judge_feeders.ensures.1
    (second_of_four _ _ _ _ _ (sym ends ∙ c.in_ok-judge_unknown.was) (sym c.judge_feeders.ensures
    ∙ c.in_err-judge_feeders.was))

pub returns-in_err-judge_feeders-2 : goal.returns-in_err-judge_feeders-2
returns-in_err-judge_feeders-2 c =
    let doc = table_view c.args.document.now in
    let ends =
    c.judge_unknown.ensures
    ∙ ap (λ names. judged (flat_map (unknown names Tie Ends) (placed Tie doc)))
    (append-nil (names_of Section doc)) in
    failed_with _ _ _ c.from_residual-in_err-judge_feeders-2.ensures.1
    (third_of_four _ _ _ _ _ (sym ends ∙ c.in_ok-judge_unknown.was) (sym c.judge_feeders.ensures
    ∙ c.in_ok-judge_feeders.was) (sym c.judge_feeders-2.ensures ∙ c.in_err-judge_feeders-2.was))

pub returns : goal.returns
returns c =
    let doc = table_view c.args.document.now in
    let ends =
    c.judge_unknown.ensures
    ∙ ap (λ names. judged (flat_map (unknown names Tie Ends) (placed Tie doc)))
    (append-nil (names_of Section doc)) in
    c.judge_unknown-2.ensures
    ∙ ap (λ names. judged (flat_map (unknown names Group Members) (placed Group doc)))
    (all_names-parts doc)
    ∙ sym (last_of_four _ _ _ _ (sym ends ∙ c.in_ok-judge_unknown.was) (sym c.judge_feeders.ensures
    ∙ c.in_ok-judge_feeders.was) (sym c.judge_feeders-2.ensures ∙ c.in_ok-judge_feeders-2.was))
