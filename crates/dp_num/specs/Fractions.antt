-- Divisors of whole numbers, and fractions as the numbers that they stand for.
use Rattle.std.specs.Prelude.{◌≡◌, ℤ, pos, ◌*ℤ◌, ◌≤ℤ◌}
use Rattle.std.specs.declared.cmp.Ordering.{Ordering}
use Rattle.std.specs.Ordering.{int_cmp}

-- n is a whole multiple of d
abbrev pub Divides : ℤ → ℤ → Type 0
Divides d n = (k : ℤ) × (k *ℤ d ≡ n)

-- g is at least 1 and divides a and b, and whatever divides both divides g
pub record IsGreatestCommonDivisor (a b g : ℤ) : Type 0 where
  pub positive : pos 1 ≤ℤ g
  pub divides_first : Divides g a
  pub divides_second : Divides g b
  pub greatest : (d : ℤ) → Divides d a → Divides d b → Divides d g

-- top and bottom have no divisor in common but 1 and -1
abbrev pub IsInLowestTerms : ℤ → ℤ → Type 0
IsInLowestTerms top bottom = IsGreatestCommonDivisor top bottom (pos 1)

-- a/b and c/d are one number, for b and d of at least 1
abbrev pub SameQuotient : ℤ → ℤ → ℤ → ℤ → Type 0
SameQuotient a b c d = a *ℤ d ≡ c *ℤ b

-- how a/b and c/d are ordered, for b and d of at least 1
abbrev pub order_of_quotients : ℤ → ℤ → ℤ → ℤ → Ordering
order_of_quotients a b c d = int_cmp (a *ℤ d) (c *ℤ b)
