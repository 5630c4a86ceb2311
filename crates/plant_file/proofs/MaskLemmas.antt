-- Barred pieces, and the masks whose bits stand for them.
use Rattle.std.proofs.Common.{◌≡◌, ℕ, ◌+◌, ◌<◌, ◌≤◌, ◌==◌, List, ◌∷◌}
use Rattle.std.proofs.Common.{length, map, drop, get_or, Bool, true, false, ◌&&◌, refl}
use Rattle.std.proofs.Common.{ap, sym, ◌∙◌, arith}
use Rattle.std.specs.Prelude.{nat_lt}
use Rattle.std.specs.List.{list_all, list_any}
use Rattle.std.proofs.lemmas.Bool.Decides.{nat_tests}
use Rattle.std.proofs.lemmas.List.{at_drop_more}
use Rattle.toml.specs.Data.{Data}
use Rattle.plant_file.specs.Documents.{natural, number_in}
use Rattle.plant_file.specs.PlantText.{are_barred}

-- the numbers that values are
abbrev pub places_of : List Data → List ℕ
places_of ds = map (λ d. natural (number_in d)) ds

-- one piece more, which is there and equals no later one
pub barred_more : (n place : ℕ) (places : List ℕ) → place < n
    → list_any (λ b. place == b) places ≡ false
    → are_barred n (place ∷ places) ≡ are_barred n places
barred_more n place places there none =
    let is : nat_lt place n ≡ true = grind (arith, nat_tests) in
    rw (is, none) refl

-- a piece that isn't there
pub barred_past : (n place : ℕ) (places : List ℕ) → n ≤ place
    → are_barred n (place ∷ places) ≡ false
barred_past n place places past =
    let not_there : nat_lt place n ≡ false = grind (arith, nat_tests) in
    rw not_there refl

and_false : (a : Bool) → (a && false) ≡ false
and_false true = refl
and_false false = refl

-- a piece that equals a later one
pub barred_twice : (n place : ℕ) (places : List ℕ) → list_any (λ b. place == b) places ≡ true
    → are_barred n (place ∷ places) ≡ false
barred_twice n place places found =
    rw found (and_false (nat_lt place n && list_all (λ p. nat_lt p n) places))

module _ {A : Type 0} (f : A → Data) (n : ℕ) (xs : List A) (i : ℕ) (x : A) (within : i < length xs)
    (is : x ≡ get_or xs i x) where
  -- what is left of the values, with the first of them
  pub places_more : places_of (map f (drop i xs)) ≡ natural (number_in (f x))
      ∷ places_of (map f (drop (i + 1) xs))
  places_more =
      at_drop_more (λ rest. places_of (map f rest)) xs i x within
      ∙ ap (λ y. natural (number_in (f y)) ∷ places_of (map f (drop (i + 1) xs))) (sym is)
