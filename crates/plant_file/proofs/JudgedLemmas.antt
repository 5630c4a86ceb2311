-- The first fault of two lists of faults, one after the other.
use Rattle.std.proofs.Common.{◌≡◌, ℕ, zero, suc, arith, ◌+◌, ◌<◌, ◌≤◌, List, [], ◌∷◌, ◌++◌, length}
use Rattle.std.proofs.Common.{drop, get_or, Result, Ok, Err, refl, ap, sym, ◌∙◌}
use Rattle.std.proofs.lemmas.Result.{err_from_is_err_and}
use Rattle.std.specs.Prelude.{IsErrAnd}
use Rattle.std.proofs.lemmas.List.{at_drop_more, drop_all}
use Rattle.std.specs.List.{flat_map}
use Rattle.plant_file.specs.declared.fault.PlantFault.{PlantFault}
use Rattle.plant_file.specs.Faults.{judged}
use Rattle.plant_file.specs.PlantText.{unless_faulty}

-- without a fault among the first, it is that of the others
pub judged_past : (a b : List PlantFault) → judged a ≡ Ok tt → judged (a ++ b) ≡ judged b
judged_past [] b none = refl
judged_past (fault ∷ faults) b none = cc

-- else it is that of the first
pub judged_at : (a b : List PlantFault) (fault : PlantFault) → judged a ≡ Err fault
    → judged (a ++ b) ≡ Err fault
judged_at [] b fault found = cc
judged_at (f ∷ faults) b fault found = found

-- without a fault, neither has one
pub judged_both : (a b : List PlantFault) → judged (a ++ b) ≡ Ok tt
    → (judged a ≡ Ok tt) × (judged b ≡ Ok tt)
judged_both [] b none = (refl, none)
judged_both (f ∷ faults) b none = absurd cc

-- without a fault, no element has one
pub judged_at_place : {A : Type 0} (faults : A → List PlantFault) (xs : List A) (i : ℕ) (d : A)
    → i < length xs → judged (flat_map faults xs) ≡ Ok tt → judged (faults (get_or xs i d)) ≡ Ok tt
judged_at_place faults [] i d within none = absurd (omega arith)
judged_at_place faults (x ∷ xs) zero d within none =
    (judged_both (faults x) (flat_map faults xs) none).0
judged_at_place faults (x ∷ xs) (suc i) d within none =
    judged_at_place faults xs i d (omega arith) (judged_both (faults x) (flat_map faults xs) none).1

-- what the exit of a `?` returns, where the call's faults come first
pub judged_failed : (r : Result (Unit {0}) PlantFault) (a b : List PlantFault) (fault : PlantFault)
    → IsErrAnd r (λ y. y ≡ fault) → judged a ≡ Err fault → r ≡ judged (a ++ b)
judged_failed r a b fault failed found =
    let out = err_from_is_err_and r failed in
    out.1 ∙ ap Err out.2 ∙ sym (judged_at a b fault found)

module _ {A : Type 0} (faults : A → List PlantFault) (xs : List A) (i : ℕ) (d : A)
    (within : i < length xs) where
  -- a step of a walk past elements without faults
  pub judged-more : judged (faults (get_or xs i d)) ≡ Ok tt
      → judged (flat_map faults (drop i xs)) ≡ judged (flat_map faults (drop (i + 1) xs))
  judged-more none =
      at_drop_more (λ rest. judged (flat_map faults rest)) xs i d within
      ∙ judged_past (faults (get_or xs i d)) (flat_map faults (drop (i + 1) xs)) none

  -- and its end at one with a fault
  pub judged-stop : (fault : PlantFault) → judged (faults (get_or xs i d)) ≡ Err fault
      → judged (flat_map faults (drop i xs)) ≡ Err fault
  judged-stop fault found =
      at_drop_more (λ rest. judged (flat_map faults rest)) xs i d within
      ∙ judged_at (faults (get_or xs i d)) (flat_map faults (drop (i + 1) xs)) fault found

  -- the answer at a fault of a walk past elements without faults
  pub walk_failed : (r : Result (Unit {0}) PlantFault) (fault : PlantFault)
      → IsErrAnd r (λ y. y ≡ fault) → judged (faults (get_or xs i d)) ≡ Err fault
      → judged (flat_map faults (drop i xs)) ≡ judged (flat_map faults xs)
      → r ≡ judged (flat_map faults xs)
  walk_failed r fault failed found so_far =
      let out = err_from_is_err_and r failed in
      out.1 ∙ ap Err out.2 ∙ sym (judged-stop fault found) ∙ so_far

  -- and past one more without
  pub walk_goes_on : judged (faults (get_or xs i d)) ≡ Ok tt
      → judged (flat_map faults (drop i xs)) ≡ judged (flat_map faults xs)
      → judged (flat_map faults (drop (i + 1) xs)) ≡ judged (flat_map faults xs)
  walk_goes_on none so_far = sym (judged-more none) ∙ so_far

-- the end of a walk without faults
pub walk_ended : {A : Type 0} (faults : A → List PlantFault) (xs : List A) (i : ℕ) → length xs ≤ i
    → judged (flat_map faults (drop i xs)) ≡ judged (flat_map faults xs)
    → Ok tt ≡ judged (flat_map faults xs)
walk_ended faults xs i over so_far =
    sym (ap (λ rest. judged (flat_map faults rest)) (drop_all i xs over)) ∙ so_far

-- where there is no fault, the document is as it should be
pub unless_faulty-judged : {A : Type 0} (a : List PlantFault) (x : A) → judged a ≡ Ok tt
    → unless_faulty a x ≡ Ok x
unless_faulty-judged [] x none = refl
unless_faulty-judged (fault ∷ faults) x none = absurd cc

pub unless_faulty-faulty : {A : Type 0} (a : List PlantFault) (x : A) (fault : PlantFault)
    → judged a ≡ Err fault → unless_faulty a x ≡ Err fault
unless_faulty-faulty [] x fault found = absurd cc
unless_faulty-faulty (f ∷ faults) x fault found = cc
