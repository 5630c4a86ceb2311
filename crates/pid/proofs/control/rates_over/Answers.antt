use Rattle.std.proofs.Common.{rules, ◌≡◌, ◌∙◌, ap, ℕ, ℤ, ◌-ℤ◌, to_z, of_z, FitsSigned, arith, w64}
use Rattle.std.proofs.lemmas.Int.{ints, to_z-of_z}
use mir.Syntax.{w128}
use Rattle.pid.specs.Control.{rate_of}
use Rattle.pid.specs.Fixes.{turned}
use Rattle.pid.proofs.control.rates_over.Goals as goal

-- a difference as the code forms it is the plain one
abbrev gap : ℤ → ℤ → ℤ
gap a b = to_z w128 (of_z w128 (to_z w128 (of_z w128 (to_z w64 (of_z w64 a)))
    -ℤ to_z w128 (of_z w128 (to_z w64 (of_z w64 b)))))

gap_is : (a b : ℤ) → FitsSigned w64 a → FitsSigned w64 b → gap a b ≡ a -ℤ b
gap_is a b a_fits b_fits = omega (arith, ints)

axis_rate : {result : ℤ} (a b : ℤ) (elapsed : ℕ) → result ≡ rate_of (gap a b) elapsed
    → FitsSigned w128 result → FitsSigned w64 a → FitsSigned w64 b
    → to_z w128 (of_z w128 result) ≡ rate_of (a -ℤ b) elapsed
axis_rate a b elapsed is fits a_fits b_fits =
    to_z-of_z w128 _ fits ∙ is ∙ ap (λ (z : ℤ). rate_of z elapsed) (gap_is a b a_fits b_fits)

yaw_rate : {result change : ℤ} (a b : ℤ) (elapsed : ℕ)
    → result ≡ rate_of (to_z w128 (of_z w128 change)) elapsed → change ≡ turned (gap a b)
    → FitsSigned w128 result → FitsSigned w128 change → FitsSigned w64 a → FitsSigned w64 b
    → to_z w128 (of_z w128 result) ≡ rate_of (turned (a -ℤ b)) elapsed
yaw_rate a b elapsed is change_is fits change_fits a_fits b_fits =
    to_z-of_z w128 _ fits ∙ is
    ∙ ap (λ (z : ℤ). rate_of z elapsed)
    (to_z-of_z w128 _ change_fits ∙ change_is ∙ ap (λ (z : ℤ). turned z) (gap_is a b a_fits b_fits))

pub returns-clause-value : goal.returns-clause-value
returns-clause-value c =
    let before = c.args.before in
    let errors = c.args.errors in
    let surge = axis_rate errors.surge before.surge c.args.elapsed c.rate.ensures.value
    (search rules) (search rules) (search rules) in
    let sway = axis_rate errors.sway before.sway c.args.elapsed c.rate-2.ensures.value
    (search rules) (search rules) (search rules) in
    let yaw = yaw_rate {change = c.turned-yaw.result} errors.yaw before.yaw c.args.elapsed
    c.rate-3.ensures.value c.turned-yaw.ensures.value (search rules) (search rules) (search rules)
    (search rules) in
    rw (surge, sway, yaw)
