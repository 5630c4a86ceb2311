use Rattle.std.proofs.Common.{◌≡◌, length, ap, ap₂, sym, ◌∙◌, arith}
use Rattle.std.proofs.lemmas.List.{length-map}
use Rattle.std.specs.List.{enumerate_from}
use Rattle.toml.specs.View.{table_view, view}
use Rattle.plant_file.specs.Faults.{elements_at, faults_of_elements, judged, unknown_faults_at}
use Rattle.plant_file.proofs.unknown.judge_keys_of_part.Goals as goal

pub judge_keys_of_elements-requires : goal.judge_keys_of_elements-requires
judge_keys_of_elements-requires c =
    let same : length (elements_at c.args.part (table_view c.args.document.now))
    ≡ length c.elements.result.now =
    ap length c.elements.ensures ∙ length-map c.elements.result.now view in
    omega (arith, c.requires.short c.args.part)

pub returns : goal.returns
returns c =
    c.judge_keys_of_elements.ensures
    ∙ ap₂ (λ rows es.
    judged (faults_of_elements (unknown_faults_at c.args.part rows) (enumerate_from 0 es)))
    c.rows.ensures (sym c.elements.ensures)
