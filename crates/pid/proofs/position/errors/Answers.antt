use Rattle.std.proofs.Common.{rules, ◌≡◌, ℤ, pos, ◌-ℤ◌, ◌∙◌, ap, ap₂, arith, to_z, of_z, FitsSigned}
use Rattle.std.proofs.Common.{w32, w64}
use Rattle.std.proofs.lemmas.Int.{ints, to_z-of_z}
use Rattle.wind_axes.specs.Wind.{ahead_of, starboard_of}
use Rattle.pid.specs.Fixes.{IsTurned, turned}
use mir.Syntax.{w128}
use Rattle.pid.proofs.position.errors.Goals as goal

-- the difference of two coordinates as the code forms it
abbrev gap : ℤ → ℤ → ℤ
gap a b = to_z w64 (of_z w64 (to_z w64 (of_z w64 (to_z w32 (of_z w32 a)))
    -ℤ to_z w64 (of_z w64 (to_z w32 (of_z w32 b)))))

gap_is : (a b : ℤ) → FitsSigned w32 a → FitsSigned w32 b → gap a b ≡ a -ℤ b
gap_is a b a_fits b_fits = omega (arith, ints)

pub returns-clause-errors : goal.returns-clause-errors
returns-clause-errors c =
    let set = c.args.set in
    let at = c.args.at in
    let north = gap_is set.x at.x (search rules) (search rules) in
    let east = gap_is set.y at.y (search rules) (search rules) in
    let surge : to_z w64 (of_z w64 c.rotate-surge.result.0) ≡ ahead_of (set.x -ℤ at.x)
    (set.y -ℤ at.y) at.heading =
    to_z-of_z w64 _ (search rules) ∙ c.rotate-surge.ensures.ahead
    ∙ ap₂ (λ (n : ℤ) (e : ℤ). ahead_of n e at.heading) north east in
    let sway : to_z w64 (of_z w64 c.rotate-surge.result.1) ≡ starboard_of (set.x -ℤ at.x)
    (set.y -ℤ at.y) at.heading =
    to_z-of_z w64 _ (search rules) ∙ c.rotate-surge.ensures.starboard
    ∙ ap₂ (λ (n : ℤ) (e : ℤ). starboard_of n e at.heading) north east in
    let turn : to_z w128 (of_z w128 (to_z w128 set.heading -ℤ to_z w128 at.heading)) ≡ pos
    set.heading -ℤ pos at.heading = omega (arith, ints) in
    let kept : to_z w64 (of_z w64 (to_z w128
    (of_z w128 c.turned-yaw.result))) ≡ c.turned-yaw.result =
    omega (arith, ints, c.turned-yaw.ensures.law.low, c.turned-yaw.ensures.law.high) in
    let yaw : to_z w64 (of_z w64 (to_z w128 (of_z w128 c.turned-yaw.result))) ≡ turned
    (pos set.heading -ℤ pos at.heading) =
    kept ∙ c.turned-yaw.ensures.value ∙ ap (λ (z : ℤ). turned z) turn in
    rw (surge, sway, yaw)

moved : {angle result : ℤ} (from to : ℤ) → angle ≡ from → to ≡ result → IsTurned angle result
    → IsTurned from to
moved from to same_angle same_result law = record {
  low = omega (arith, ints, law.low);
  high = omega (arith, ints, law.high);
  turns = (law.turns.0, omega (arith, ints, law.turns.1));
}

pub returns-clause-yaw : goal.returns-clause-yaw
returns-clause-yaw c =
    moved (pos c.args.set.heading -ℤ pos c.args.at.heading) _ (omega (arith, ints))
    (omega (arith, ints, c.turned-yaw.ensures.law.low, c.turned-yaw.ensures.law.high))
    c.turned-yaw.ensures.law
