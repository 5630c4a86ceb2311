-- Numbers of choices, with the element of one list more.
use Rattle.std.proofs.Common.{◌≡◌, refl, ℕ, zero, suc, ◌*◌, ◌/◌, ◌%◌, ◌<◌, List, ◌∷◌, length}
use Rattle.std.proofs.Common.{get_or, arith}
use Rattle.std.proofs.Math.Nat.{div-lt_iff_lt-mul, mod-lt, mul-div_cancel_left}
use Rattle.std.proofs.lemmas.Option.{slice_get-get_or}
use Rattle.thrust_region.specs.Choices.{choice_of, choices_of}

factors : (a b k : ℕ) → k < a * b → (0 < a) × (0 < b)
factors zero b k below = absurd (omega arith)
factors (suc a) zero k below = absurd (omega arith)
factors (suc a) (suc b) k below = (omega arith, omega arith)

module _ {A : Type 0} (list : List A) (lists : List (List A)) (others rest count : ℕ)
    (is : others ≡ length list * choices_of lists) (count_is : count ≡ length list)
    (below : rest < others) where
  some : (0 < length list) × (0 < choices_of lists)
  some = factors (length list) (choices_of lists) rest (omega arith)

  pub count_some : 0 < count
  count_some = let s = some in omega arith

  -- the choices of the other lists
  pub quotient : others / count ≡ choices_of lists
  quotient = rw (is, count_is) (mul-div_cancel_left (choices_of lists) some.0)

  pub digit : rest / (others / count) < count
  digit = rw (quotient, count_is) ((div-lt_iff_lt-mul some.1).1 (rw (← is) below))

  pub remainder : rest % (others / count) < others / count
  remainder = rw quotient (mod-lt rest some.1)

  pub chosen : (d : A) → choice_of (list ∷ lists) rest
      ≡ get_or list (rest / (others / count)) d ∷ choice_of lists (rest % (others / count))
  chosen d =
      let there : rest / choices_of lists < length list =
      (div-lt_iff_lt-mul some.1).1 (rw (← is) below) in
      rw (quotient, slice_get-get_or list (rest / choices_of lists) d there) refl
