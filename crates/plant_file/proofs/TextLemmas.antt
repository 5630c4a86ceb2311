-- When bytes are a document.
use Rattle.std.proofs.Common.{◌≡◌, ℕ, ◌≤◌, List, [], ◌∷◌, length, subst, Bool, true, false, Some}
use Rattle.std.proofs.Common.{None, Result, Ok, Err, refl, ap, sym, ◌∙◌, ◌⊎◌, inl, inr}
use Rattle.std.proofs.lemmas.Bool.{le-ltb}
use Rattle.std.proofs.lemmas.Result.{err_from_is_err_and}
use Rattle.std.proofs.lemmas.Str.{IsUtf8-from_is_utf8, is_utf8-from_IsUtf8}
use Rattle.std.specs.Prelude.{IsErrAnd}
use Rattle.std.specs.Str.{IsUtf8, is_utf8}
use Rattle.plant_model.specs.declared.limits.TheConstants.{MOST_PLANT_BYTES}
use Rattle.toml.specs.Data.{Members}
use Rattle.toml.specs.Parse.{parse_document}
use Rattle.plant_file.specs.Answers.{IsAnswer}
use Rattle.plant_file.specs.Faults.{judged}
use Rattle.plant_file.specs.PlantText.{document_of, key_faults_of, parsed, right_document}
use Rattle.plant_file.specs.PlantText.{then_judged, unless_faulty}
use Rattle.plant_file.specs.RightKeys.{HasRightKeys, faults_but_choices, judged_document}
use Rattle.plant_file.specs.declared.fault.PlantFault.{PlantFault}
use Rattle.plant_file.specs.declared.fault.PlantFault.TheVariants.{NoMemory, NotToml}
use Rattle.plant_file.proofs.JudgedLemmas.{unless_faulty-faulty, unless_faulty-judged}

pub parsed-found : (bytes : List ℕ) (doc : Members) → IsUtf8 bytes → parse_document bytes ≡ Some doc
    → parsed bytes ≡ Some doc
parsed-found bytes doc text found = rw (is_utf8-from_IsUtf8 bytes text) found

refused_if : (text : Bool) (bytes : List ℕ) → is_utf8 bytes ≡ text
    → (IsUtf8 bytes → parse_document bytes ≡ None) → parsed bytes ≡ None
refused_if true bytes is refused = rw is (refused (IsUtf8-from_is_utf8 bytes is))
refused_if false bytes is refused = rw is

pub parsed-refused : (bytes : List ℕ) → (IsUtf8 bytes → parse_document bytes ≡ None)
    → parsed bytes ≡ None
parsed-refused bytes refused = refused_if (is_utf8 bytes) bytes refl refused

pub document_of-found : (bytes : List ℕ) (doc : Members) → length bytes ≤ MOST_PLANT_BYTES
    → IsUtf8 bytes → parse_document bytes ≡ Some doc → document_of bytes ≡ Ok doc
document_of-found bytes doc short text found =
    rw (le-ltb MOST_PLANT_BYTES (length bytes) short, parsed-found bytes doc text found)

pub document_of-refused : (bytes : List ℕ) → length bytes ≤ MOST_PLANT_BYTES
    → (IsUtf8 bytes → parse_document bytes ≡ None) → document_of bytes ≡ Err NotToml
document_of-refused bytes short refused =
    rw (le-ltb MOST_PLANT_BYTES (length bytes) short, parsed-refused bytes refused)

pub right_document-judged : (bytes : List ℕ) (doc : Members) → document_of bytes ≡ Ok doc
    → judged (key_faults_of doc) ≡ Ok tt → right_document bytes ≡ Ok doc
right_document-judged bytes doc found none =
    rw found (unless_faulty-judged (key_faults_of doc) doc none)

pub right_document-faulty : (bytes : List ℕ) (doc : Members) (fault : PlantFault)
    → document_of bytes ≡ Ok doc → judged (key_faults_of doc) ≡ Err fault
    → right_document bytes ≡ Err fault
right_document-faulty bytes doc fault found faulty =
    rw found (unless_faulty-faulty (key_faults_of doc) doc fault faulty)

-- the exit of a `?` gives the answer, where the answer is the fault
pub answer_failed : {A B : Type 0} (view : A → B) (r : Result A PlantFault) (fault : PlantFault)
    (answer : Result B PlantFault) → IsErrAnd r (λ y. y ≡ fault) → answer ≡ Err fault
    → IsAnswer view r answer
answer_failed view r fault answer failed is =
    let out = err_from_is_err_and r failed in
    rw out.1 (inr (is ∙ ap Err (sym out.2)))

-- the same, where memory may have run out instead
pub answer_passed : {A B : Type 0} (view : A → B) (r : Result A PlantFault) (fault : PlantFault)
    (answer : Result B PlantFault) → IsErrAnd r (λ y. y ≡ fault)
    → (fault ≡ NoMemory) ⊎ (answer ≡ Err fault) → IsAnswer view r answer
answer_passed view r fault answer failed cause =
    let out = err_from_is_err_and r failed in
    rw out.1 (elim cause [
      | inl none ↦ inl (out.2 ∙ none)
      | inr is ↦ inr (is ∙ ap Err (sym out.2))
    ])

right_keys_of : (faults : List PlantFault) (d doc : Members) → key_faults_of d ≡ faults
    → unless_faulty faults d ≡ Ok doc → HasRightKeys doc
right_keys_of [] d doc none is =
    let same : d ≡ doc = cc in
    subst (λ (m : Members). judged (key_faults_of m) ≡ Ok tt) same (ap judged none)
right_keys_of (fault ∷ faults) d doc none is = absurd cc

right_keys_if : (r : Result Members PlantFault) (doc : Members)
    → then_judged r (λ d. unless_faulty (key_faults_of d) d) ≡ Ok doc → HasRightKeys doc
right_keys_if (Err fault) doc is = absurd cc
right_keys_if (Ok d) doc is = right_keys_of (key_faults_of d) d doc refl is

-- the keys of a right document have no faults
pub right_keys : (bytes : List ℕ) (doc : Members) → right_document bytes ≡ Ok doc → HasRightKeys doc
right_keys bytes doc is = right_keys_if (document_of bytes) doc is

pub judged_document-right : (bytes : List ℕ) (doc : Members) → right_document bytes ≡ Ok doc
    → judged (faults_but_choices doc) ≡ Ok tt → judged_document bytes ≡ Ok doc
judged_document-right bytes doc found none =
    ap (λ (r : Result Members PlantFault). then_judged r
    (λ d. unless_faulty (faults_but_choices d) d)) found
    ∙ unless_faulty-judged (faults_but_choices doc) doc none

pub judged_document-faulty : (bytes : List ℕ) (doc : Members) (fault : PlantFault)
    → right_document bytes ≡ Ok doc → judged (faults_but_choices doc) ≡ Err fault
    → judged_document bytes ≡ Err fault
judged_document-faulty bytes doc fault found faulty =
    ap (λ (r : Result Members PlantFault). then_judged r
    (λ d. unless_faulty (faults_but_choices d) d)) found
    ∙ unless_faulty-faulty (faults_but_choices doc) doc fault faulty
