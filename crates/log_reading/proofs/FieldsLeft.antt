-- What is left of the fields, where a text is.
use Rattle.std.proofs.Common.{◌≡◌, ◌∙◌, ℕ, ◌<◌, List, [], ◌∷◌, length, Option, Some, None, refl, ap}
use Rattle.std.proofs.Common.{arith, sym}
use Rattle.std.proofs.lemmas.Option.{same_Some}
use Rattle.telegram.specs.Telegrams.{fields}
use Rattle.telegram.proofs.Fields.{fields-nonempty}
use Rattle.log_reading.specs.Fields.{ended, next_field, only_field}
use Rattle.log_reading.proofs.Inverses.{Fields}

ended_some : {X : Type 0} (x : X) (parts : Fields) → 0 < length parts → ended x parts ≡ None
ended_some x [] some = absurd (omega (arith, some))
ended_some x (field ∷ more) some = refl

pub ended_text : {X : Type 0} (x : X) (text : List ℕ) → None ≡ ended x (fields text)
ended_text x text = sym (ended_some x (fields text) (fields-nonempty text))

only_some : (field : List ℕ) (parts : Fields) → 0 < length parts → only_field (field ∷ parts) ≡ None
only_some field [] some = absurd (omega (arith, some))
only_some field (next ∷ more) some = refl

-- the first field is known, and a text is left behind it
pub only_of_more : (parts : Fields) (field text : List ℕ)
    → ◌≡◌ {A = Option (List ℕ × Fields)} (Some (field, fields text)) (next_field parts)
    → None ≡ only_field parts
only_of_more [] field text is = absurd (cc)
only_of_more (first ∷ more) field text is =
    let same = same_Some {A = List ℕ × Fields} (field, fields text) (first, more) is in
    sym (ap (λ (rest : Fields). only_field (first ∷ rest)) (sym (ap (λ (p : List ℕ × Fields). p.1) same))
    ∙ only_some first (fields text) (fields-nonempty text))
