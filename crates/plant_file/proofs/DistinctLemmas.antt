-- Texts of which no two are equal, one by one.
use Rattle.std.proofs.Common.{◌≡◌, ℕ, ◌+◌, ◌<◌, ◌≤◌, List, ◌∷◌, length, map, drop, get_or, true}
use Rattle.std.proofs.Common.{false, refl, ap, ◌∙◌}
use Rattle.std.proofs.lemmas.List.{at_drop_all, at_drop_more}
use Rattle.std.specs.List.{list_any}
use Rattle.std.specs.Str.{bytes_eq}
use Rattle.toml.specs.Data.{Data}
use Rattle.plant_model.specs.Plants.{are_distinct}
use Rattle.plant_file.specs.Documents.{text_in}

module _ {A : Type 0} (f : A → Data) (xs : List A) (i : ℕ) where
  module _ (x : A) (within : i < length xs) (is : get_or xs i x ≡ x) where
    -- one that equals a later one
    pub distinct_stop : list_any (bytes_eq (text_in (f x))) (map text_in (map f (drop (i + 1) xs)))
        ≡ true → are_distinct bytes_eq (map text_in (map f (drop i xs))) ≡ false
    distinct_stop found =
        at_drop_more (λ rest. are_distinct bytes_eq (map text_in (map f rest))) xs i x within
        ∙ ap (λ y. are_distinct bytes_eq (map text_in (map f (y ∷ drop (i + 1) xs)))) is
        ∙ rw found refl

    -- and one that doesn't
    pub distinct_more : list_any (bytes_eq (text_in (f x))) (map text_in (map f (drop (i + 1) xs)))
        ≡ false → are_distinct bytes_eq (map text_in (map f (drop i xs)))
        ≡ are_distinct bytes_eq (map text_in (map f (drop (i + 1) xs)))
    distinct_more none =
        at_drop_more (λ rest. are_distinct bytes_eq (map text_in (map f rest))) xs i x within
        ∙ ap (λ y. are_distinct bytes_eq (map text_in (map f (y ∷ drop (i + 1) xs)))) is
        ∙ rw none refl

  -- the end of a walk
  pub distinct_over : length xs ≤ i → are_distinct bytes_eq (map text_in (map f (drop i xs))) ≡ true
  distinct_over over =
      at_drop_all (λ rest. are_distinct bytes_eq (map text_in (map f rest))) xs i over
