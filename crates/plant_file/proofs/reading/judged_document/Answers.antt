use Rattle.std.proofs.Common.{sym, ◌∙◌}
use Rattle.toml.specs.View.{table_view}
use Rattle.plant_file.proofs.JudgedLemmas.{judged_at, judged_past}
use Rattle.plant_file.proofs.RightLemmas.{short_arrays}
use Rattle.plant_file.proofs.TextLemmas.{answer_failed, judged_document-faulty}
use Rattle.plant_file.proofs.TextLemmas.{judged_document-right, right_keys}
use Rattle.plant_file.proofs.reading.judged_document.Goals as goal

pub judge_names-requires : goal.judge_names-requires
judge_names-requires c =
    let doc = table_view c.in_ok-document.document in
    short_arrays doc (right_keys c.args.bytes.now doc c.in_ok-document.ensures)

pub returns-in_err-judge_names : goal.returns-in_err-judge_names
returns-in_err-judge_names c =
    let doc = table_view c.in_ok-document.document in
    answer_failed table_view _ _ _ c.from_residual-in_err-judge_names.ensures.1
    (judged_document-faulty c.args.bytes.now doc _ c.in_ok-document.ensures
    (judged_at _ _ _ (judged_at _ _ _ (sym c.judge_names.ensures ∙ c.in_err-judge_names.was))))

pub judge_references-requires : goal.judge_references-requires
judge_references-requires c =
    let doc = table_view c.in_ok-document.document in
    short_arrays doc (right_keys c.args.bytes.now doc c.in_ok-document.ensures)

pub returns-in_err-judge_references : goal.returns-in_err-judge_references
returns-in_err-judge_references c =
    let doc = table_view c.in_ok-document.document in
    answer_failed table_view _ _ _ c.from_residual-in_err-judge_references.ensures.1
    (judged_document-faulty c.args.bytes.now doc _ c.in_ok-document.ensures
    (judged_at _ _ _
    (judged_past _ _ (sym c.judge_names.ensures ∙ c.in_ok-judge_names.was)
    ∙ sym c.judge_references.ensures ∙ c.in_err-judge_references.was)))

pub judge_thrusters-requires : goal.judge_thrusters-requires
judge_thrusters-requires c =
    right_keys c.args.bytes.now (table_view c.in_ok-document.document) c.in_ok-document.ensures

pub returns-in_err-judge_thrusters : goal.returns-in_err-judge_thrusters
returns-in_err-judge_thrusters c =
    let doc = table_view c.in_ok-document.document in
    let names = sym c.judge_names.ensures ∙ c.in_ok-judge_names.was in
    let references = sym c.judge_references.ensures ∙ c.in_ok-judge_references.was in
    answer_failed table_view _ _ _ c.from_residual-in_err-judge_thrusters.ensures.1
    (judged_document-faulty c.args.bytes.now doc _ c.in_ok-document.ensures
    (judged_past _ _ (judged_past _ _ names ∙ references)
    ∙ sym c.judge_thrusters.ensures ∙ c.in_err-judge_thrusters.was))

pub returns : goal.returns
returns c =
    let doc = table_view c.in_ok-document.document in
    let names = sym c.judge_names.ensures ∙ c.in_ok-judge_names.was in
    let references = sym c.judge_references.ensures ∙ c.in_ok-judge_references.was in
    judged_document-right c.args.bytes.now doc c.in_ok-document.ensures
    (judged_past _ _ (judged_past _ _ names ∙ references)
    ∙ sym c.judge_thrusters.ensures ∙ c.in_ok-judge_thrusters.was)
