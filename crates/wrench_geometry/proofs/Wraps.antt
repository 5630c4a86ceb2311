-- Products as the code forms them, with the wraps of their types, are the plain ones.
use Rattle.std.proofs.Common.{◌≡◌, ℤ, ◌+ℤ◌, ◌-ℤ◌, ◌*ℤ◌, SFits, to_z, of_z, w64}
use Rattle.std.specs.Int.{w128}
use Rattle.int_ring.proofs.Machine.{fits, strip, machine}
use Rattle.plant_model.specs.Numbers.{IsWithin}
use Rattle.wrench_geometry.specs.declared.vector.TheConstants.{MOST_FACTOR, MOST_PLAIN}

abbrev pub short : ℤ → ℤ
short z = to_z w64 (of_z w64 z)

abbrev pub long : ℤ → ℤ
long z = to_z w128 (of_z w128 z)

-- p·q - r·s in 64 bits
abbrev pub crossed : ℤ → ℤ → ℤ → ℤ → ℤ
crossed p q r s = short (short (short p *ℤ short q) -ℤ short (short r *ℤ short s))

pub crossed_is : (p q r s : ℤ) → IsWithin MOST_FACTOR p → IsWithin MOST_FACTOR q →
    IsWithin MOST_FACTOR r → IsWithin MOST_FACTOR s → crossed p q r s ≡ p *ℤ q -ℤ r *ℤ s
crossed_is p q r s a b c d = strip (search machine depth 40) tt

-- a·p in 128 bits
abbrev pub part : ℤ → ℤ → ℤ
part a p = long (long (short a) *ℤ long (short p))

module _ (a b c p q r : ℤ) where
  -- the sum of three such products, where all left or all right factors are within bounds
  pub left_two : IsWithin MOST_PLAIN a → IsWithin MOST_PLAIN b → SFits w64 p → SFits w64 q →
      SFits w128 (part a p +ℤ part b q)
  left_two f g s t = fits (search machine depth 40) tt

  pub left_three : IsWithin MOST_PLAIN a → IsWithin MOST_PLAIN b → IsWithin MOST_PLAIN c →
      SFits w64 p → SFits w64 q → SFits w64 r → SFits w128 (long (part a p +ℤ part b q) +ℤ part c r)
  left_three f g h s t u = fits (search machine depth 40) tt

  pub left_is : IsWithin MOST_PLAIN a → IsWithin MOST_PLAIN b → IsWithin MOST_PLAIN c →
      SFits w64 p → SFits w64 q → SFits w64 r →
      long (long (part a p +ℤ part b q) +ℤ part c r) ≡ a *ℤ p +ℤ b *ℤ q +ℤ c *ℤ r
  left_is f g h s t u = strip (search machine depth 40) tt

  pub right_two : IsWithin MOST_PLAIN p → IsWithin MOST_PLAIN q → SFits w64 a → SFits w64 b →
      SFits w128 (part a p +ℤ part b q)
  right_two f g s t = fits (search machine depth 40) tt

  pub right_three : IsWithin MOST_PLAIN p → IsWithin MOST_PLAIN q → IsWithin MOST_PLAIN r →
      SFits w64 a → SFits w64 b → SFits w64 c → SFits w128 (long (part a p +ℤ part b q) +ℤ part c r)
  right_three f g h s t u = fits (search machine depth 40) tt

  pub right_is : IsWithin MOST_PLAIN p → IsWithin MOST_PLAIN q → IsWithin MOST_PLAIN r →
      SFits w64 a → SFits w64 b → SFits w64 c →
      long (long (part a p +ℤ part b q) +ℤ part c r) ≡ a *ℤ p +ℤ b *ℤ q +ℤ c *ℤ r
  right_is f g h s t u = strip (search machine depth 40) tt
