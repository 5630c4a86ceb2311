use Rattle.std.proofs.Common.{ap, sym, ◌∙◌}
use Rattle.toml.specs.View.{table_view}
use Rattle.plant_file.specs.Faults.{faults_of_keys, faults_of_unknown_keys, judged}
use Rattle.plant_file.proofs.ArrayLemmas.{HasShortArrays-from_judged}
use Rattle.plant_file.proofs.JudgedLemmas.{judged_at, judged_past}
use Rattle.plant_file.proofs.TextLemmas.{answer_failed, right_document-faulty}
use Rattle.plant_file.proofs.TextLemmas.{right_document-judged}
use Rattle.plant_file.proofs.reading.read_document.Goals as goal

pub returns-in_err-judge_keys : goal.returns-in_err-judge_keys
returns-in_err-judge_keys c =
    let doc = table_view c.in_ok-document.document in
    let keys =
    c.judge_keys.ensures
    ∙ ap (λ format. judged (faults_of_keys format doc)) c.format_of-format.ensures in
    answer_failed table_view _ _ _ c.from_residual-in_err-judge_keys.ensures.1
    (right_document-faulty c.args.bytes.now doc _ c.in_ok-document.ensures
    (judged_at _ _ _ (sym keys ∙ c.in_err-judge_keys.was)))

pub judge_known_keys-requires : goal.judge_known_keys-requires
judge_known_keys-requires c =
    HasShortArrays-from_judged c.format_of-format.result (table_view c.in_ok-document.document)
    (sym c.judge_keys.ensures ∙ c.in_ok-judge_keys.was)

pub returns-in_err-judge_known_keys : goal.returns-in_err-judge_known_keys
returns-in_err-judge_known_keys c =
    let doc = table_view c.in_ok-document.document in
    let keys =
    c.judge_keys.ensures
    ∙ ap (λ format. judged (faults_of_keys format doc)) c.format_of-format.ensures in
    let known =
    c.judge_known_keys.ensures
    ∙ ap (λ format. judged (faults_of_unknown_keys format doc))
    c.format_of-format.ensures in
    answer_failed table_view _ _ _ c.from_residual-in_err-judge_known_keys.ensures.1
    (right_document-faulty c.args.bytes.now doc _ c.in_ok-document.ensures
    (judged_past _ _ (sym keys ∙ c.in_ok-judge_keys.was) ∙ sym known
    ∙ c.in_err-judge_known_keys.was))

pub returns : goal.returns
returns c =
    let doc = table_view c.in_ok-document.document in
    let keys =
    c.judge_keys.ensures
    ∙ ap (λ format. judged (faults_of_keys format doc)) c.format_of-format.ensures in
    let known =
    c.judge_known_keys.ensures
    ∙ ap (λ format. judged (faults_of_unknown_keys format doc))
    c.format_of-format.ensures in
    right_document-judged c.args.bytes.now doc c.in_ok-document.ensures
    (judged_past _ _ (sym keys ∙ c.in_ok-judge_keys.was) ∙ sym known
    ∙ c.in_ok-judge_known_keys.was)
