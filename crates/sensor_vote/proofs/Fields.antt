-- The fields of a reference, one by one.
use Rattle.std.proofs.Common.{◌≡◌, ℕ, ◌<◌, List, [], ◌∷◌, length, ◌==◌, Option, Some, Err, refl, arith}
use Rattle.std.proofs.lemmas.List.Splits.{length-slice_split}
use Rattle.std.specs.Borrow.{Bor}
use Rattle.telegram.specs.Telegrams.{comma, fields, fields_left}
use Rattle.telegram.specs.declared.telegram.Reject.TheVariants.{Count}
use Rattle.sensor_vote.specs.References.{reference_of_fields}

-- five fields with more after them are too many
too_many : (t i x y h : List ℕ) (more : List (List ℕ)) → 0 < length more
    → reference_of_fields (t ∷ i ∷ x ∷ y ∷ h ∷ more) ≡ Err Count
too_many t i x y h [] some = absurd (omega arith)
too_many t i x y h (a ∷ more) some = refl

fields-too_many : (t i x y h text : List ℕ)
    → reference_of_fields (t ∷ i ∷ x ∷ y ∷ h ∷ fields text) ≡ Err Count
fields-too_many t i x y h text =
    too_many t i x y h (fields text) (omega (arith, length-slice_split (λ b. b == comma) text))

-- the same where each field and what is left after it were found one after another
pub found-too_many : (all after_1 after_2 after_3 after_4 after_5 : Option (Bor (List ℕ)))
    (t i x y h : List ℕ) (more : Bor (List ℕ)) → fields_left all ≡ t ∷ fields_left after_1
    → fields_left after_1 ≡ i ∷ fields_left after_2 → fields_left after_2 ≡ x ∷ fields_left after_3
    → fields_left after_3 ≡ y ∷ fields_left after_4 → fields_left after_4 ≡ h ∷ fields_left after_5
    → after_5 ≡ Some more → reference_of_fields (fields_left all) ≡ Err Count
found-too_many all after_1 after_2 after_3 after_4 after_5 t i x y h more e1 e2 e3 e4 e5 is =
    rw (e1, e2, e3, e4, e5, is) (fields-too_many t i x y h more.now)
