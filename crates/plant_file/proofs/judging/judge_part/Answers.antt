use Rattle.std.proofs.Common.{◌≡◌, length, ap, ap₂, sym, ◌∙◌, arith}
use Rattle.std.proofs.lemmas.List.{length-map}
use Rattle.std.specs.List.{enumerate_from}
use Rattle.toml.specs.Data.{get_member}
use Rattle.toml.specs.View.{table_view, view}
use Rattle.plant_file.specs.Faults.{array_faults, elements_at, faults_of_elements, judged}
use Rattle.plant_file.specs.Faults.{table_faults_at}
use Rattle.plant_file.proofs.ArrayLemmas.{length-elements_at}
use Rattle.plant_file.proofs.JudgedLemmas.{judged_failed, judged_past}
use Rattle.plant_file.proofs.judging.judge_part.Goals as goal

pub returns-in_err-judge_array : goal.returns-in_err-judge_array
returns-in_err-judge_array c =
    let array = c.judge_array.ensures
    ∙ ap₂ (λ count held. judged (array_faults c.args.part count held)) c.count_of.ensures
    (c.value_at.ensures
    ∙ ap (λ key. get_member key (table_view c.args.document.now)) c.text.ensures.text) in
    judged_failed _ _ _ _ c.from_residual.ensures.1 (sym array ∙ c.in_err-judge_array.was)

pub judge_elements-requires : goal.judge_elements-requires
judge_elements-requires c =
    let array = c.judge_array.ensures
    ∙ ap₂ (λ count held. judged (array_faults c.args.part count held)) c.count_of.ensures
    (c.value_at.ensures
    ∙ ap (λ key. get_member key (table_view c.args.document.now)) c.text.ensures.text) in
    let same : length (elements_at c.args.part (table_view c.args.document.now))
    ≡ length c.elements.result.now =
    ap length c.elements.ensures ∙ length-map c.elements.result.now view in
    omega (
      arith,
      length-elements_at c.args.format c.args.part (table_view c.args.document.now)
          (sym array ∙ c.in_ok-judge_array.was),
    )

pub returns : goal.returns
returns c =
    let array = c.judge_array.ensures
    ∙ ap₂ (λ count held. judged (array_faults c.args.part count held)) c.count_of.ensures
    (c.value_at.ensures
    ∙ ap (λ key. get_member key (table_view c.args.document.now)) c.text.ensures.text) in
    c.judge_elements.ensures
    ∙ ap₂ (λ rows es.
    judged (faults_of_elements (table_faults_at c.args.part rows) (enumerate_from 0 es)))
    c.rows.ensures (sym c.elements.ensures)
    ∙ sym (judged_past _ _ (sym array ∙ c.in_ok-judge_array.was))
