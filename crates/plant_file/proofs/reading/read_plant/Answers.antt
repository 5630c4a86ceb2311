-- The plant of a document that was judged but for its choices.
use Rattle.std.proofs.Common.{◌≡◌, ℕ, ap, inl, inr, ◌∙◌, ◌++◌, arith, true, false, ◌⊎◌, Ok, Err}
use Rattle.std.proofs.Common.{sym}
use Rattle.std.proofs.lemmas.Bool.{le-leb, lt-leb}
use Rattle.std.specs.List.{flat_map}
use Rattle.toml.specs.View.{table_view}
use Rattle.plant_model.specs.Plants.{choices_of}
use Rattle.plant_model.specs.declared.limits.TheConstants.{MOST_CHOICES}
use Rattle.plant_file.specs.declared.fault.Part.TheVariants.{Thruster}
use Rattle.plant_file.specs.declared.fault.PlantFault.TheVariants.{NoMemory}
use Rattle.plant_file.specs.Described.{parts_in}
use Rattle.plant_file.specs.PlantText.{faults_of_names, faults_of_references, placed, plant_of}
use Rattle.plant_file.specs.PlantText.{thruster_faults}
use Rattle.plant_file.proofs.JudgedLemmas.{judged_both}
use Rattle.plant_file.proofs.PlantLemmas.{are_few, few-judged, judged-right, plant-faulty}
use Rattle.plant_file.proofs.PlantLemmas.{plant-few}
use Rattle.plant_file.proofs.PlantLemmas.{plant-many}
use Rattle.plant_file.proofs.TextLemmas.{answer_passed, right_keys}
use Rattle.plant_file.proofs.reading.read_plant.Goals as goal

pub returns-in_err-document : goal.returns-in_err-document
returns-in_err-document c =
    let fault = c.in_err-document.field-0.0 in
    let cause : (fault ≡ NoMemory) ⊎ (plant_of c.args.bytes.now ≡ Err fault) =
    elim c.in_err-document.ensures [
      | inl none ↦ inl none
      | inr judged ↦ inr (plant-faulty c.args.bytes.now fault judged)
    ] in
    answer_passed (λ plant. plant) _ fault _ c.from_residual.ensures.1 cause

pub thrusters-thrusters-requires-clause-keys : goal.thrusters-thrusters-requires-clause-keys
thrusters-thrusters-requires-clause-keys c =
    let doc = table_view c.in_ok-document.document in
    let right = judged-right c.args.bytes.now doc c.in_ok-document.ensures in
    right_keys c.args.bytes.now doc right.0

pub thrusters-thrusters-requires-clause-right : goal.thrusters-thrusters-requires-clause-right
thrusters-thrusters-requires-clause-right c =
    let doc = table_view c.in_ok-document.document in
    let right = judged-right c.args.bytes.now doc c.in_ok-document.ensures in
    (judged_both (faults_of_names doc ++ faults_of_references doc)
    (flat_map thruster_faults (placed Thruster doc)) right.1).1

pub returns-then-choices : goal.returns-then-choices
returns-then-choices c =
    let doc = table_view c.in_ok-document.document in
    let choices : ℕ = choices_of (parts_in doc).thrusters.items in
    let count : c.choices.result ≡ choices =
    c.choices.ensures ∙ ap choices_of (c.deref.ensures.0 ∙ c.thrusters-thrusters.ensures) in
    let more = c.if-choices.true in
    let many : are_few doc ≡ false = lt-leb choices MOST_CHOICES (omega (arith, count, more)) in
    inr (plant-many c.args.bytes.now doc c.in_ok-document.ensures many)

pub plant-requires-clause-keys : goal.plant-requires-clause-keys
plant-requires-clause-keys c =
    let doc = table_view c.in_ok-document.document in
    let right = judged-right c.args.bytes.now doc c.in_ok-document.ensures in
    right_keys c.args.bytes.now doc right.0

pub plant-requires-clause-right : goal.plant-requires-clause-right
plant-requires-clause-right c =
    let doc = table_view c.in_ok-document.document in
    let right = judged-right c.args.bytes.now doc c.in_ok-document.ensures in
    let choices : ℕ = choices_of (parts_in doc).thrusters.items in
    let count : c.choices.result ≡ choices =
    c.choices.ensures ∙ ap choices_of (c.deref.ensures.0 ∙ c.thrusters-thrusters.ensures) in
    let within = c.if-choices.false in
    let few : are_few doc ≡ true = le-leb choices MOST_CHOICES (omega (arith, count, within)) in
    few-judged doc right.1 few

pub returns : goal.returns
returns c =
    let doc = table_view c.in_ok-document.document in
    let choices : ℕ = choices_of (parts_in doc).thrusters.items in
    let count : c.choices.result ≡ choices =
    c.choices.ensures ∙ ap choices_of (c.deref.ensures.0 ∙ c.thrusters-thrusters.ensures) in
    let within = c.if-choices.false in
    let few : are_few doc ≡ true = le-leb choices MOST_CHOICES (omega (arith, count, within)) in
    plant-few c.args.bytes.now doc c.in_ok-document.ensures few ∙ ap Ok (sym c.plant.ensures)
