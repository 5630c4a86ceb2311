-- The sine of an angle is at most 1.
use Rattle.std.proofs.Common.{◌≡◌, ℕ, ◌+◌, ◌-◌, ◌*◌, ◌/◌, ◌≤◌, inl, inr, ap, arith}
use Rattle.std.proofs.lemmas.Bool.{cases_lt}
use Rattle.std.proofs.Math.Nat.{div-le_of_le-mul}
use Rattle.wind_axes.specs.declared.angle.TheConstants.{SINE_FACTOR, SINE_SQUARE}
use Rattle.plant_model.specs.declared.limits.TheConstants.{HALF_TURN, QUARTER_TURN}

-- of numbers with one sum, those that are equal have the greatest product
product_below : (a d : ℕ) → a + d ≡ QUARTER_TURN
    → a * (QUARTER_TURN + d) ≤ QUARTER_TURN * QUARTER_TURN
product_below a d sum = omega (arith, ap (λ x. x * d) sum)

half_turn_product : (a b : ℕ) → a + b ≡ HALF_TURN → a * b ≤ QUARTER_TURN * QUARTER_TURN
half_turn_product a b sum =
    elim (cases_lt a QUARTER_TURN) [
      | inl few ↦ (let d : b ≡ QUARTER_TURN + (QUARTER_TURN - a) = omega arith in
          omega (arith, ap (λ x. a * x) d, product_below a (QUARTER_TURN - a) (omega arith)))
      | inr many ↦ (let d : a ≡ QUARTER_TURN + (QUARTER_TURN - b) = omega arith in
          omega (arith, ap (λ x. b * x) d, product_below b (QUARTER_TURN - b) (omega arith)))
    ]

pub sine_at_most : (a b : ℕ) → a + b ≡ HALF_TURN
    → SINE_FACTOR * (a * b) / (SINE_SQUARE - a * b) ≤ SINE_FACTOR / 4
sine_at_most a b sum =
    div-le_of_le-mul (SINE_SQUARE - a * b) (omega (arith, half_turn_product a b sum))
