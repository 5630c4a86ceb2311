-- Masks of places of which no two are equal: each is below the power of two past its places.
use Rattle.std.proofs.Common.{◌≡◌, ℕ, zero, suc, ◌+◌, ◌^◌, ◌<◌, ◌≤◌, ◌==◌, arith}
use Rattle.std.proofs.Common.{List, [], ◌∷◌, ◌++◌, length, map, take, get_or, Bool, true, false}
use Rattle.std.proofs.Common.{not, cond, refl, ap, ap₂, sym, ◌∙◌, inl, inr}
use Rattle.std.specs.Prelude.{nat_lt}
use Rattle.std.specs.List.{list_all, list_any}
use Rattle.std.proofs.lemmas.Bool.{and_parts, cases_eq, cond-false, cond-true, eqb-false}
use Rattle.std.proofs.lemmas.Bool.{le-ltb, ltb-true, not-true, or_parts}
use Rattle.std.proofs.lemmas.Bool.Decides.{nat_tests}
use Rattle.std.proofs.lemmas.List.Folds.{list_all-map}
use Rattle.std.proofs.lemmas.List.Sums.{sum-map, sum_by-cons}
use Rattle.std.proofs.Math.Nat.{two-pow-succ}
use Rattle.toml.specs.Data.{Data}
use Rattle.plant_model.specs.Plants.{are_distinct}
use Rattle.plant_file.specs.Described.{mask_of}
use Rattle.plant_file.specs.Documents.{natural, number_in}
use Rattle.plant_file.specs.PlantText.{are_barred}
use Rattle.plant_file.proofs.BuiltLemmas.{all_at, built_more}
use Rattle.plant_file.proofs.MaskLemmas.{places_of}

-- what the places below a number add to their mask
abbrev below : ℕ → List ℕ → ℕ
below n [] = 0
below n (place ∷ places) = cond (nat_lt place n) (2 ^ place) 0 + below n places

same_test : (n place : ℕ) → (n ≡ place → ⊥)
    → cond (nat_lt place (suc n)) (2 ^ place) 0 ≡ cond (nat_lt place n) (2 ^ place) 0
same_test n place differ = grind (arith, nat_tests)

-- a number that is none of the places adds nothing
none_more : (n : ℕ) (places : List ℕ) → list_any (λ b. n == b) places ≡ false
    → below (suc n) places ≡ below n places
none_more n [] none = refl
none_more n (place ∷ places) none =
    let both = or_parts (n == place) (list_any (λ b. n == b) places) none in
    ap₂ (λ a b. a + b) (same_test n place (eqb-false n place both.0)) (none_more n places both.1)

at_most : (test : Bool) (x : ℕ) → cond test x 0 ≤ x
at_most true x = omega arith
at_most false x = omega arith

-- and one that is adds its power of two once
one_more : (n : ℕ) (places : List ℕ) → are_distinct (λ a b. a == b) places ≡ true
    → below (suc n) places ≤ below n places + 2 ^ n
one_more n [] distinct = omega arith
one_more n (place ∷ places) distinct =
    let both = and_parts (not (list_any (λ b. place == b) places))
    (are_distinct (λ a b. a == b) places) distinct in
    elim (cases_eq n place) as (λ w. below (suc n) (place ∷ places)
    ≤ below n (place ∷ places) + 2 ^ n) [
      | inl same ↦
          let none : list_any (λ b. n == b) places ≡ false =
          ap (λ k. list_any (λ b. k == b) places) same
          ∙ not-true (list_any (λ b. place == b) places) both.0 in
          omega (
            arith,
            none_more n places none,
            at_most (nat_lt place (suc n)) (2 ^ place),
            ap (λ k. 2 ^ k) same,
          )
      | inr differ ↦
          omega (arith, one_more n places both.1, same_test n place differ)
    ]

none_below : (places : List ℕ) → below zero places ≡ 0
none_below [] = refl
none_below (place ∷ places) =
    ap₂ (λ a b. a + b) (cond-false (nat_lt place 0) (2 ^ place) 0 (le-ltb place 0 (omega arith)))
    (none_below places)

below_bound : (n : ℕ) (places : List ℕ) → are_distinct (λ a b. a == b) places ≡ true
    → below n places < 2 ^ n
below_bound zero places distinct = omega (arith, none_below places)
below_bound (suc n) places distinct =
    omega (arith, one_more n places distinct, below_bound n places distinct, two-pow-succ n)

-- the mask's bits, one after the other
mask_first : (place : ℕ) (places : List ℕ) → mask_of (place ∷ places) ≡ 2 ^ place + mask_of places
mask_first place places =
    sum-map (λ p. 2 ^ p) (place ∷ places) ∙ sum_by-cons (λ p. 2 ^ p) place places
    ∙ ap (λ rest. 2 ^ place + rest) (sym (sum-map (λ p. 2 ^ p) places))

all_below : (n : ℕ) (places : List ℕ) → list_all (λ place. nat_lt place n) places ≡ true
    → mask_of places ≡ below n places
all_below n [] all = refl
all_below n (place ∷ places) all =
    let both = and_parts (nat_lt place n) (list_all (λ p. nat_lt p n) places) all in
    mask_first place places
    ∙ ap₂ (λ a b. a + b) (sym (cond-true (nat_lt place n) (2 ^ place) 0 both.0))
    (all_below n places both.1)

-- the mask of barred pieces has no bit past the pieces
pub mask_bound : (n : ℕ) (places : List ℕ) → are_barred n places ≡ true → mask_of places < 2 ^ n
mask_bound n places barred =
    let both = and_parts (list_all (λ place. nat_lt place n) places)
    (are_distinct (λ a b. a == b) places) barred in
    omega (arith, all_below n places both.0, below_bound n places both.1)

mask_more : (places : List ℕ) (place : ℕ)
    → mask_of (places ++ place ∷ []) ≡ mask_of places + 2 ^ place
mask_more [] place = omega arith
mask_more (p ∷ ps) place =
    omega (arith, mask_first p ps, mask_first p (ps ++ place ∷ []), mask_more ps place)

-- a front of the places has a lesser mask
front_mask : {A : Type 0} (f : A → Data) (xs : List A) (i : ℕ)
    → mask_of (places_of (map f (take i xs))) ≤ mask_of (places_of (map f xs))
front_mask f [] zero = omega arith
front_mask f [] (suc i) = omega arith
front_mask f (x ∷ xs) zero = omega arith
front_mask f (x ∷ xs) (suc i) =
    let place = natural (number_in (f x)) in
    omega (
      arith,
      front_mask f xs i,
      mask_first place (places_of (map f xs)),
      mask_first place (places_of (map f (take i xs))),
    )

module _ {A : Type 0} (f : A → Data) (xs : List A) (i : ℕ) (x : A) where
  module _ (within : i < length xs) (is : x ≡ get_or xs i x) where
    -- one value more
    pub mask_step : mask_of (places_of (map f (take (i + 1) xs)))
        ≡ mask_of (places_of (map f (take i xs))) + 2 ^ natural (number_in (f x))
    mask_step =
        let place = λ (d : Data). natural (number_in d) in
        ap mask_of (sym (built_more place f xs i x (places_of (map f (take i xs))) (place (f x))
        within is refl refl))
        ∙ mask_more (places_of (map f (take i xs))) (place (f x))

    module _ (n : ℕ) (barred : are_barred n (places_of (map f xs)) ≡ true) where
      -- a value is one of the pieces
      pub place_there : natural (number_in (f x)) < n
      place_there =
          let place = λ (d : Data). natural (number_in d) in
          let both = and_parts (list_all (λ p. nat_lt p n) (places_of (map f xs)))
          (are_distinct (λ a b. a == b) (places_of (map f xs))) barred in
          let all : list_all (λ d. nat_lt (place d) n) (map f xs) ≡ true =
          sym (list_all-map (λ p. nat_lt p n) place (map f xs)) ∙ both.0 in
          ltb-true (place (f x)) n (all_at f (λ d. nat_lt (place d) n) xs i x within is all)

      -- and the mask with its bit has none past them
      pub step_bound : mask_of (places_of (map f (take i xs))) + 2 ^ natural (number_in (f x))
          < 2 ^ n
      step_bound =
          let whole = mask_bound n (places_of (map f xs)) barred in
          omega (arith, mask_step, front_mask f xs (i + 1), whole)
