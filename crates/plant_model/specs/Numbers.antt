-- How far numbers are from 0.
use Rattle.std.specs.Prelude.{ℤ, ◌≤ℤ◌, neg_ℤ}

-- the number is at most so far from 0, either way
pub record IsWithin (most z : ℤ) : Type 0 where
  pub low : neg_ℤ most ≤ℤ z
  pub high : z ≤ℤ most
