use Rattle.std.proofs.Common.{◌≡◌, ◌∙◌, ℤ, List, ap, ap₂, subst, rules, map, to_z, of_z}
use Rattle.std.proofs.Common.{w64}
use Rattle.std.specs.Int.{int_div_euclid}
use Rattle.std.proofs.lemmas.Int.{to_z-of_z}
use Rattle.plant_model.specs.declared.thrust.Thrust.{Thrust}
use Rattle.feasibility.specs.Lowest.{IsGreatestDivisor, divided_by}
use Rattle.feasibility.proofs.Divisors.{reduced}
use Rattle.feasibility.proofs.lowest.lowest.Goals as goal

pub returns : goal.returns
returns c =
    let q = c.args.shared.now.q in
    let thrusts = c.args.shared.now.thrusts.list.items in
    let g = c.common_divisor-common.result in
    let q_is : to_z w64 (of_z w64 q) ≡ q = to_z-of_z w64 _ (search rules) in
    let g_is : to_z w64 (of_z w64 g) ≡ g = to_z-of_z w64 _ (search rules) in
    let r_is : to_z w64 (of_z w64 c.div_euclid.result) ≡ int_div_euclid q g =
    to_z-of_z w64 _ (search rules) ∙ c.div_euclid.ensures ∙ ap₂ int_div_euclid q_is g_is in
    let greatest : IsGreatestDivisor q thrusts g =
    subst (λ (l : List Thrust). IsGreatestDivisor q l g) c.as_slice.ensures.value
    (subst (λ (z : ℤ). IsGreatestDivisor z c.as_slice.result.now g) q_is
    c.common_divisor-common.ensures) in
    reduced q thrusts g _ _ greatest r_is
    (c.divided.ensures ∙ ap (λ (z : ℤ). map (divided_by z) thrusts) g_is)
