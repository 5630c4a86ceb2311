-- The pairs of two lists, taken one after another, while what is left of both is known.
use Rattle.std.proofs.Common.{◌≡◌, ℕ, List, [], ◌∷◌, ◌++◌, ◌⊎◌, inl, inr, map, refl}
use Rattle.std.proofs.Common.{◌∙◌, ap, ap₂, sym, append_assoc}
use Rattle.std.specs.List.{flat_map, zip}
use Rattle.std.proofs.lemmas.List.{append-nil}

zip-nil : {A B : Type 0} (ks : List A) (vs : List B) → vs ≡ [] → zip ks vs ≡ []
zip-nil [] vs ended = refl
zip-nil (k ∷ ks) vs ended = ap (zip (k ∷ ks)) ended

-- no pair is left where one list has ended
zip-ended : {A B : Type 0} (ks : List A) (vs : List B) → (ks ≡ []) ⊎ (vs ≡ []) → zip ks vs ≡ []
zip-ended ks vs (inl ended) = rw ended refl
zip-ended ks vs (inr ended) = zip-nil ks vs ended

module _ {A B : Type 0} (f : A × B → List ℕ) (old new whole : List ℕ) (ks left : List A)
    (vs right : List B) where
  -- the text of one pair more
  pub pair_told : (a : A) (b : B) → ks ≡ a ∷ left → vs ≡ b ∷ right → new ≡ old ++ f (a, b)
      → old ++ flat_map f (zip ks vs) ≡ whole → new ++ flat_map f (zip left right) ≡ whole
  pair_told a b first second more so_far =
      ap (λ (t : List ℕ). t ++ flat_map f (zip left right)) more
      ∙ append_assoc old (f (a, b)) (flat_map f (zip left right))
      ∙ sym (ap₂ (λ (k : List A) (v : List B). old ++ flat_map f (zip k v)) first second)
      ∙ so_far

  pub pairs_told : (ks ≡ []) ⊎ (vs ≡ []) → old ++ flat_map f (zip ks vs) ≡ whole → old ≡ whole
  pairs_told ended so_far =
      sym (ap (λ (ps : List (A × B)). old ++ flat_map f ps) (zip-ended ks vs ended)
      ∙ append-nil old) ∙ so_far

module _ {A B C : Type 0} (f : A × B → C) (old new whole : List C) (ks left : List A)
    (vs right : List B) where
  -- what stands for one pair more
  pub pair_made : (a : A) (b : B) → ks ≡ a ∷ left → vs ≡ b ∷ right → new ≡ old ++ f (a, b) ∷ []
      → old ++ map f (zip ks vs) ≡ whole → new ++ map f (zip left right) ≡ whole
  pair_made a b first second more so_far =
      ap (λ (t : List C). t ++ map f (zip left right)) more
      ∙ append_assoc old (f (a, b) ∷ []) (map f (zip left right))
      ∙ sym (ap₂ (λ (k : List A) (v : List B). old ++ map f (zip k v)) first second)
      ∙ so_far

  pub pairs_made : (ks ≡ []) ⊎ (vs ≡ []) → old ++ map f (zip ks vs) ≡ whole → old ≡ whole
  pairs_made ended so_far =
      sym (ap (λ (ps : List (A × B)). old ++ map f ps) (zip-ended ks vs ended)
      ∙ append-nil old) ∙ so_far
