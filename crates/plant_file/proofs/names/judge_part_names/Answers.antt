use Rattle.std.proofs.Common.{ap, sym, ◌∙◌}
use Rattle.toml.specs.View.{table_view}
use Rattle.plant_file.specs.Described.{names_of}
use Rattle.plant_file.specs.Faults.{judged}
use Rattle.plant_file.specs.PlantText.{named}
use Rattle.plant_file.specs.declared.fault.Part.TheVariants.{Section, Tie, Generator, Thruster}
use Rattle.plant_file.proofs.ChainLemmas.{failed_with, first_of_four, second_of_four, third_of_four}
use Rattle.plant_file.proofs.ChainLemmas.{last_of_four}
use Rattle.plant_file.proofs.NameLemmas.{names-named, twice_after-four}
use Rattle.plant_file.proofs.names.judge_part_names.Goals as goal

pub returns-in_err-judge_names_of : goal.returns-in_err-judge_names_of
returns-in_err-judge_names_of c =
    let doc = table_view c.args.document.now in
    let four =
    twice_after-four (named Section doc) (named Tie doc) (named Generator doc)
    (named Thruster doc) (names_of Section doc) (names_of Tie doc) (names_of Generator doc)
    (names-named Section doc) (names-named Tie doc) (names-named Generator doc) in
    failed_with _ _ _ c.from_residual.ensures.1
    (ap judged four
    ∙ first_of_four _ _ _ _ _ (sym c.judge_names_of.ensures ∙ c.in_err-judge_names_of.was))

pub returns-in_err-judge_names_of-2 : goal.returns-in_err-judge_names_of-2
returns-in_err-judge_names_of-2 c =
    let doc = table_view c.args.document.now in
    let four =
    twice_after-four (named Section doc) (named Tie doc) (named Generator doc)
    (named Thruster doc) (names_of Section doc) (names_of Tie doc) (names_of Generator doc)
    (names-named Section doc) (names-named Tie doc) (names-named Generator doc) in
    failed_with _ _ _ c.from_residual-in_err-judge_names_of-2.ensures.1
    (ap judged four
    ∙ second_of_four _ _ _ _ _ (sym c.judge_names_of.ensures ∙ c.in_ok-judge_names_of.was)
    (sym c.judge_names_of-2.ensures ∙ c.in_err-judge_names_of-2.was))

pub returns-in_err-judge_names_of-3 : goal.returns-in_err-judge_names_of-3
returns-in_err-judge_names_of-3 c =
    let doc = table_view c.args.document.now in
    let four =
    twice_after-four (named Section doc) (named Tie doc) (named Generator doc)
    (named Thruster doc) (names_of Section doc) (names_of Tie doc) (names_of Generator doc)
    (names-named Section doc) (names-named Tie doc) (names-named Generator doc) in
    failed_with _ _ _ c.from_residual-in_err-judge_names_of-3.ensures.1
    (ap judged four
    ∙ third_of_four _ _ _ _ _ (sym c.judge_names_of.ensures ∙ c.in_ok-judge_names_of.was)
    (sym c.judge_names_of-2.ensures ∙ c.in_ok-judge_names_of-2.was)
    (sym c.judge_names_of-3.ensures ∙ c.in_err-judge_names_of-3.was))

pub returns : goal.returns
returns c =
    let doc = table_view c.args.document.now in
    let four =
    twice_after-four (named Section doc) (named Tie doc) (named Generator doc)
    (named Thruster doc) (names_of Section doc) (names_of Tie doc) (names_of Generator doc)
    (names-named Section doc) (names-named Tie doc) (names-named Generator doc) in
    c.judge_names_of-4.ensures
    ∙ sym (ap judged four
    ∙ last_of_four _ _ _ _ (sym c.judge_names_of.ensures ∙ c.in_ok-judge_names_of.was)
    (sym c.judge_names_of-2.ensures ∙ c.in_ok-judge_names_of-2.was) (sym c.judge_names_of-3.ensures
    ∙ c.in_ok-judge_names_of-3.was))
