use Rattle.std.proofs.Common.{◌≡◌, ◌∙◌, SFits, ap₂, get_or, rules, to_z, of_z, w64}
use Rattle.std.specs.Int.{int_div_euclid, w128}
use Rattle.std.proofs.lemmas.Int.{to_z-of_z}
use Rattle.plant_model.specs.declared.thrust.Thrust.{Thrust}
use Rattle.certificate.specs.Outcomes.{no_thrust}
use Rattle.certificate.proofs.Beside.{same_thrust}
use Rattle.feasibility.specs.Lowest.{divided_by}
use Rattle.feasibility.proofs.Divisors.{map_more}
use Rattle.feasibility.proofs.lowest.divided.Goals as goal

pub loop-thrust-preserved : goal.loop-thrust-preserved
loop-thrust-preserved c =
    let thrusts = c.as_slice-thrust-items.result.now in
    let g = to_z w64 (of_z w64 c.args.common) in
    let a : Thrust = get_or thrusts c.loop-thrust.thrust-index no_thrust in
    let g_fits : SFits w128 g = search rules in
    let g_is : to_z w128 (of_z w128 g) ≡ g = to_z-of_z w128 g g_fits in
    let x_is : to_z w128 (of_z w128 a.x) ≡ a.x = to_z-of_z w128 _ (search rules) in
    let y_is : to_z w128 (of_z w128 a.y) ≡ a.y = to_z-of_z w128 _ (search rules) in
    let x : to_z w128 (of_z w128 c.div_euclid.result) ≡ int_div_euclid a.x g =
    to_z-of_z w128 _ (search rules) ∙ c.div_euclid.ensures ∙ ap₂ int_div_euclid x_is g_is in
    let y : to_z w128 (of_z w128 c.div_euclid-in-loop-thrust.result) ≡ int_div_euclid a.y g =
    to_z-of_z w128 _ (search rules) ∙ c.div_euclid-in-loop-thrust.ensures
    ∙ ap₂ int_div_euclid y_is g_is in
    map_more (divided_by g) thrusts c.loop-thrust.thrust-index _ _ no_thrust _
    c.loop-thrust-test.true c.loop-thrust.invariant c.push.ensures.items (same_thrust x y)
