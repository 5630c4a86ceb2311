-- The plant of bytes, behind the document that was judged but for its choices.
use Rattle.std.proofs.Common.{◌≡◌, List, [], ◌∷◌, ◌++◌, nat_le, Bool, true, false, Result, Ok, Err}
use Rattle.std.proofs.Common.{ℕ, ap, append_assoc, refl, subst, sym, ◌∙◌}
use Rattle.std.specs.List.{flat_map}
use Rattle.toml.specs.Data.{Members}
use Rattle.plant_model.specs.Plants.{choices_of}
use Rattle.plant_model.specs.declared.limits.TheConstants.{MOST_CHOICES}
use Rattle.plant_file.specs.declared.fault.Part.TheVariants.{Thruster}
use Rattle.plant_file.specs.declared.fault.PlantFault.{PlantFault}
use Rattle.plant_file.specs.declared.fault.PlantFault.TheVariants.{TooManyChoices}
use Rattle.plant_file.specs.Described.{parts_in}
use Rattle.plant_file.specs.Faults.{judged}
use Rattle.plant_file.specs.PlantText.{faults_of_names, faults_of_references, other_faults_of}
use Rattle.plant_file.specs.PlantText.{placed, plant_of, right_document, then_judged}
use Rattle.plant_file.specs.PlantText.{thruster_faults, unless, unless_faulty}
use Rattle.plant_file.specs.RightKeys.{faults_but_choices, judged_document}
use Rattle.plant_file.proofs.JudgedLemmas.{judged_at, judged_past, unless_faulty-faulty}
use Rattle.plant_file.proofs.JudgedLemmas.{unless_faulty-judged}

-- there are no more choices than a plant may leave
abbrev pub are_few : Members → Bool
are_few doc = nat_le (choices_of (parts_in doc).thrusters.items) MOST_CHOICES

-- the last fault that is judged is of too many choices
other_faults : (doc : Members)
    → other_faults_of doc ≡ faults_but_choices doc ++ unless (are_few doc) TooManyChoices
other_faults doc =
    sym (append_assoc (faults_of_names doc ++ faults_of_references doc)
    (flat_map thruster_faults (placed Thruster doc)) (unless (are_few doc) TooManyChoices))

-- ---- what a judged document was judged by

-- a right document without faults, and a fault of one
right-where : (found doc : Members) (faults : List PlantFault) → faults_but_choices found ≡ faults
    → ◌≡◌ {A = Result Members PlantFault} (unless_faulty faults found) (Ok doc)
    → (◌≡◌ {A = Result Members PlantFault} (Ok found) (Ok doc))
    × (judged (faults_but_choices doc) ≡ Ok tt)
right-where found doc [] none is =
    let same : found ≡ doc = cc (is) in
    (is, subst (λ (d : Members). judged (faults_but_choices d) ≡ Ok tt) same (ap judged none))
right-where found doc (fault ∷ faults) none is = absurd (cc)

right-from : (answer : Result Members PlantFault) (doc : Members)
    → then_judged answer (λ d. unless_faulty (faults_but_choices d) d) ≡ Ok doc
    → (answer ≡ Ok doc) × (judged (faults_but_choices doc) ≡ Ok tt)
right-from (Err fault) doc is = absurd (cc)
right-from (Ok found) doc is = right-where found doc (faults_but_choices found) refl is

pub judged-right : (bytes : List ℕ) (doc : Members) → judged_document bytes ≡ Ok doc
    → (right_document bytes ≡ Ok doc) × (judged (faults_but_choices doc) ≡ Ok tt)
judged-right bytes doc is = right-from (right_document bytes) doc is

-- ---- the plant

plant-from : (bytes : List ℕ) (doc : Members) → right_document bytes ≡ Ok doc
    → plant_of bytes ≡ unless_faulty (other_faults_of doc) (parts_in doc)
plant-from bytes doc found =
    ap (λ (r : Result Members PlantFault).
    then_judged r (λ d. unless_faulty (other_faults_of d) (parts_in d))) found

-- with few choices there is no fault
pub few-judged : (doc : Members) → judged (faults_but_choices doc) ≡ Ok tt → are_few doc ≡ true
    → judged (other_faults_of doc) ≡ Ok tt
few-judged doc none few =
    ap judged (other_faults doc)
    ∙ judged_past (faults_but_choices doc) (unless (are_few doc) TooManyChoices) none
    ∙ ap (λ b. judged (unless b TooManyChoices)) few

pub plant-few : (bytes : List ℕ) (doc : Members) → judged_document bytes ≡ Ok doc
    → are_few doc ≡ true → plant_of bytes ≡ Ok (parts_in doc)
plant-few bytes doc is few =
    let right = judged-right bytes doc is in
    plant-from bytes doc right.0
    ∙ unless_faulty-judged (other_faults_of doc) (parts_in doc) (few-judged doc right.1 few)

pub plant-many : (bytes : List ℕ) (doc : Members) → judged_document bytes ≡ Ok doc
    → are_few doc ≡ false → plant_of bytes ≡ Err TooManyChoices
plant-many bytes doc is many =
    let right = judged-right bytes doc is in
    plant-from bytes doc right.0
    ∙ unless_faulty-faulty (other_faults_of doc) (parts_in doc) TooManyChoices
    (ap judged (other_faults doc)
    ∙ judged_past (faults_but_choices doc) (unless (are_few doc) TooManyChoices) right.1
    ∙ ap (λ b. judged (unless b TooManyChoices)) many)

-- ---- a fault before

fault-where : (found : Members) (faults : List PlantFault) (fault : PlantFault)
    → ◌≡◌ {A = Result Members PlantFault} (unless_faulty faults found) (Err fault)
    → judged faults ≡ Err fault
fault-where found [] fault is = absurd (cc)
fault-where found (first ∷ faults) fault is = let same : first ≡ fault = cc (is) in ap Err same

faulty-from : (answer : Result Members PlantFault) (fault : PlantFault)
    → then_judged answer (λ d. unless_faulty (faults_but_choices d) d) ≡ Err fault
    → then_judged answer (λ d. unless_faulty (other_faults_of d) (parts_in d)) ≡ Err fault
faulty-from (Err first) fault is = let same : first ≡ fault = cc (is) in ap Err same
faulty-from (Ok doc) fault is =
    unless_faulty-faulty (other_faults_of doc) (parts_in doc) fault
    (ap judged (other_faults doc)
    ∙ judged_at (faults_but_choices doc) (unless (are_few doc) TooManyChoices) fault
    (fault-where doc (faults_but_choices doc) fault is))

pub plant-faulty : (bytes : List ℕ) (fault : PlantFault) → judged_document bytes ≡ Err fault
    → plant_of bytes ≡ Err fault
plant-faulty bytes fault is = faulty-from (right_document bytes) fault is
