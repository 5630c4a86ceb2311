-- Tests of the places of a ring, one by one.
use Rattle.std.proofs.Common.{◌≡◌, ℕ, suc, ◌+◌, ◌-◌, ◌<◌, ◌≤◌, ◌==◌, List, ◌∷◌, Bool}
use Rattle.std.proofs.Common.{true, false, ◌&&◌, ◌||◌, pos}
use Rattle.std.proofs.Common.{refl, ap, ◌∙◌, arith}
use Rattle.std.specs.Prelude.{int_lt}
use Rattle.std.specs.List.{list_all, range_with_len}
use Rattle.plant_model.specs.declared.thrust.Point.{Point}
use Rattle.plant_model.specs.Rings.{point_at, side}

-- the point at a place is one of an edge's ends, or strictly to the left of the edge
abbrev pub is_in : List Point → ℕ → ℕ → ℕ → Bool
is_in ring edge after place =
    place == edge || place == after
    || int_lt (pos 0) (side (point_at ring edge) (point_at ring after) (point_at ring place))

range_more : (i n : ℕ) → i < n → range_with_len i (n - i) ≡ i ∷ range_with_len (i + 1) (n - (i + 1))
range_more i n within =
    let more : n - i ≡ suc (n - (i + 1)) = omega arith in
    ap (range_with_len i) more

module _ (f : ℕ → Bool) (n i : ℕ) where
  -- a place that passes
  pub all_more : i < n → f i ≡ true
      → list_all f (range_with_len i (n - i)) ≡ list_all f (range_with_len (i + 1) (n - (i + 1)))
  all_more within passes = ap (list_all f) (range_more i n within) ∙ rw passes refl

  -- one that doesn't
  pub all_stop : i < n → f i ≡ false → list_all f (range_with_len i (n - i)) ≡ false
  all_stop within fails = ap (list_all f) (range_more i n within) ∙ rw fails refl

  -- the end
  pub all_over : n ≤ i → list_all f (range_with_len i (n - i)) ≡ true
  all_over over =
      let none : n - i ≡ 0 = omega arith in
      ap (λ k. list_all f (range_with_len i k)) none

-- a test behind one that passed
pub and_true : {a b c : Bool} → a ≡ true → b ≡ c → (a && b) ≡ c
and_true passed is = rw passed is
