use Rattle.std.proofs.Common.{◌≡◌, get_or, refl, sym, rules, to_z, of_z, w64, arith}
use Rattle.std.specs.Int.{w128}
use Rattle.std.proofs.lemmas.Int.{to_z-of_z}
use Rattle.plant_model.specs.declared.thrust.Thrust.{Thrust}
use Rattle.certificate.specs.Outcomes.{no_thrust}
use Rattle.feasibility.proofs.Divisors.{divisor_at_first, divisor_more, gcd_as}
use Rattle.feasibility.proofs.Divisors.{greatest_divisor}
use Rattle.feasibility.proofs.lowest.common_divisor.Goals as goal

pub loop-thrust-init : goal.loop-thrust-init
loop-thrust-init c = divisor_at_first _ c.args.thrusts.now (search (rules, c.requires))

pub loop-thrust-preserved : goal.loop-thrust-preserved
loop-thrust-preserved c =
    let thrusts = c.args.thrusts.now in
    let i = c.loop-thrust.thrust-index in
    let a : Thrust = get_or thrusts i no_thrust in
    let first = c.gcd_with.result in
    let second = c.gcd_with-common.result in
    let x_is : to_z w128 (of_z w128 a.x) ≡ a.x = to_z-of_z w128 _ (search rules) in
    let y_is : to_z w128 (of_z w128 a.y) ≡ a.y = to_z-of_z w128 _ (search rules) in
    let first_is : to_z w64 (of_z w64 first) ≡ first = to_z-of_z w64 _ (search rules) in
    let second_is : to_z w64 (of_z w64 second) ≡ second = to_z-of_z w64 _ (search rules) in
    divisor_more _ thrusts i (to_z w64 c.loop-thrust.common-bits) first (to_z w64 (of_z w64 second))
    a refl
    c.loop-thrust.invariant (gcd_as refl x_is refl c.gcd_with.ensures.greatest)
    (gcd_as first_is y_is (sym second_is) c.gcd_with-common.ensures.greatest)

pub returns : goal.returns
returns c =
    greatest_divisor c.args.q c.args.thrusts.now c.loop-thrust.thrust-index _
    (omega (arith, c.loop-thrust-test.false)) (search (rules, c.loop-thrust.invariant))
    (omega (arith, c.loop-thrust.auto.thrust-index-end))
