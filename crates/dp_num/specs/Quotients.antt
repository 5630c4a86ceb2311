-- What the whole-number calls mean: the floor of a quotient, and a number held between two others.
use Rattle.std.specs.Prelude.{ℤ, ◌*ℤ◌, ◌≤ℤ◌}
use Rattle.std.specs.Int.{int_div_euclid, int_min, int_max}

-- q is the greatest whole number that is at most a/b, for b of at least 1
pub record IsFloor (a b q : ℤ) : Type 0 where
  pub below : (q *ℤ b) ≤ℤ a
  pub greatest : (r : ℤ) → (r *ℤ b) ≤ℤ a → r ≤ℤ q

-- the number that is it
abbrev pub floor_quotient : ℤ → ℤ → ℤ
floor_quotient a b = int_div_euclid a b

-- the number from low to high that is nearest to the value
abbrev pub clamped : ℤ → ℤ → ℤ → ℤ
clamped value low high = int_max low (int_min value high)
