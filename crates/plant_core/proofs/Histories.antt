-- Histories by their last entries.
use Rattle.std.proofs.Common.{◌≡◌, ℕ, List, [], ◌∷◌, ◌++◌}
use Rattle.std.proofs.lemmas.List.Sums.{fold-append}
use Rattle.std.specs.List.{fold}
use Rattle.plant_model.specs.declared.plant.Parts.{Parts}
use Rattle.plant_core.specs.declared.call.Entry.{Entry}
use Rattle.plant_core.specs.Machine.{IsEntry, IsLegal, IsLegalFrom, Stand, next, opening_stand}
use Rattle.plant_core.specs.Machine.{stand_after}

-- how the machine stands after one more entry
pub stand_after-push : (plant : Parts) (history : List Entry) (entry : Entry)
    → stand_after plant (history ++ entry ∷ []) ≡ next plant (stand_after plant history) entry
stand_after-push plant history entry =
    fold-append (next plant) (opening_stand plant) history (entry ∷ [])

legal_from-push : (plant : Parts) (limit : ℕ) (stand : Stand) (history : List Entry) (entry : Entry)
    → IsLegalFrom plant limit stand history
    → IsEntry plant limit (fold (next plant) stand history) entry
    → IsLegalFrom plant limit stand (history ++ entry ∷ [])
legal_from-push plant limit stand [] entry legal last = (last, tt)
legal_from-push plant limit stand (first ∷ more) entry legal last = (
  legal.0,
  legal_from-push plant limit (next plant stand first) more entry legal.1 last,
)

legal_from-front : (plant : Parts) (limit : ℕ) (stand : Stand) (history : List Entry)
    (entry : Entry) → IsLegalFrom plant limit stand (history ++ entry ∷ [])
    → IsLegalFrom plant limit stand history
legal_from-front plant limit stand [] entry legal = tt
legal_from-front plant limit stand (first ∷ more) entry legal =
    (legal.0, legal_from-front plant limit (next plant stand first) more entry legal.1)

legal_from-last : (plant : Parts) (limit : ℕ) (stand : Stand) (history : List Entry) (entry : Entry)
    → IsLegalFrom plant limit stand (history ++ entry ∷ [])
    → IsEntry plant limit (fold (next plant) stand history) entry
legal_from-last plant limit stand [] entry legal = legal.0
legal_from-last plant limit stand (first ∷ more) entry legal =
    legal_from-last plant limit (next plant stand first) more entry legal.1

-- a legal history with one more entry that may stand after it
pub legal-push : (plant : Parts) (limit : ℕ) (history : List Entry) (entry : Entry)
    → IsLegal plant limit history → IsEntry plant limit (stand_after plant history) entry
    → IsLegal plant limit (history ++ entry ∷ [])
legal-push plant limit history entry legal last =
    legal_from-push plant limit (opening_stand plant) history entry legal last

-- the history before the last entry of a legal one
pub legal-front : (plant : Parts) (limit : ℕ) (history : List Entry) (entry : Entry)
    → IsLegal plant limit (history ++ entry ∷ []) → IsLegal plant limit history
legal-front plant limit history entry legal =
    legal_from-front plant limit (opening_stand plant) history entry legal

-- the last entry of a legal history
pub legal-last : (plant : Parts) (limit : ℕ) (history : List Entry) (entry : Entry)
    → IsLegal plant limit (history ++ entry ∷ [])
    → IsEntry plant limit (stand_after plant history) entry
legal-last plant limit history entry legal =
    legal_from-last plant limit (opening_stand plant) history entry legal
