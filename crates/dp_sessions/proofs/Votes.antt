-- Words that name a plant have no form without one.
use Rattle.std.proofs.Common.{◌≡◌, ◌∙◌, ℕ, List, Some, None, Ok, ap}
use Rattle.dp_words.specs.Words.{form_of, plant_place}
use Rattle.dp_words.specs.declared.form.Form.{Form}
use Rattle.dp_sessions.specs.Votes.{HaveNoPlant}

pub has-plant : (words : List (List ℕ)) (form : Form) (place : ℕ) → form_of words ≡ Ok form
    → plant_place form ≡ Some place → HaveNoPlant words → ⊥
has-plant words form place is some none =
    let same : form ≡ none.0 = cc (is, none.1) in
    let no_place : plant_place form ≡ None = ap plant_place same ∙ none.2 in
    cc
