use Rattle.std.proofs.Common.{◌≡◌, ◌∙◌, ap₂, rules, to_z, of_z, w64}
use Rattle.std.specs.Int.{int_div_euclid}
use Rattle.std.proofs.lemmas.Int.{to_z-of_z}
use Rattle.feasibility.proofs.Divisors.{shortened}
use Rattle.feasibility.proofs.lowest.direction.Goals as goal

pub returns : goal.returns
returns c d is =
    let w = c.args.cut.now.w in
    let common = c.common_factor-common.result in
    let x : to_z w64 (of_z w64 w.x) ≡ w.x = to_z-of_z w64 _ (search rules) in
    let y : to_z w64 (of_z w64 w.y) ≡ w.y = to_z-of_z w64 _ (search rules) in
    let z : to_z w64 (of_z w64 w.z) ≡ w.z = to_z-of_z w64 _ (search rules) in
    let g : to_z w64 (of_z w64 common) ≡ common = to_z-of_z w64 _ (search rules) in
    let vx : to_z w64 (of_z w64 c.div_euclid.result) ≡ int_div_euclid w.x common =
    to_z-of_z w64 _ (search rules) ∙ c.div_euclid.ensures ∙ ap₂ int_div_euclid x g in
    let vy : to_z w64 (of_z w64 c.div_euclid-2.result) ≡ int_div_euclid w.y common =
    to_z-of_z w64 _ (search rules) ∙ c.div_euclid-2.ensures ∙ ap₂ int_div_euclid y g in
    let vz : to_z w64 (of_z w64 c.div_euclid-3.result) ≡ int_div_euclid w.z common =
    to_z-of_z w64 _ (search rules) ∙ c.div_euclid-3.ensures ∙ ap₂ int_div_euclid z g in
    shortened w _ common (c.common_factor-common.ensures.greatest d is) vx vy vz
