use Rattle.std.proofs.Common.{◌≡◌, ◌∙◌, ℤ, ◌*ℤ◌, ap, ap₂, rules, sym, to_z, of_z, w64}
use Rattle.std.specs.Int.{int_div_euclid}
use Rattle.std.proofs.lemmas.Int.{to_z-of_z}
use Rattle.wrench_geometry.proofs.Bounds.{same_vector}
use Rattle.exit_point.proofs.Divided.{exact, quotient_within}
use Rattle.exit_point.proofs.portal.shortest.Goals as goal

pub returns-clause-short : goal.returns-clause-short
returns-clause-short c =
    let common = c.common_divisor-common.result in
    let from_1 = c.common_divisor-common.ensures.from_1 in
    let divides = c.common_divisor-common.ensures.divides in
    let g : to_z w64 (of_z w64 common) ≡ common = to_z-of_z w64 _ (search rules) in
    let in_x : to_z w64 (of_z w64 c.args.w.x) ≡ c.args.w.x = to_z-of_z w64 _ (search rules) in
    let in_y : to_z w64 (of_z w64 c.args.w.y) ≡ c.args.w.y = to_z-of_z w64 _ (search rules) in
    let in_z : to_z w64 (of_z w64 c.args.w.z) ≡ c.args.w.z = to_z-of_z w64 _ (search rules) in
    let x : to_z w64 (of_z w64 c.div_euclid.result) ≡ int_div_euclid c.args.w.x common =
    to_z-of_z w64 _ (search rules) ∙ c.div_euclid.ensures ∙ ap₂ int_div_euclid in_x g in
    let y : to_z w64 (of_z w64 c.div_euclid-2.result) ≡ int_div_euclid c.args.w.y common =
    to_z-of_z w64 _ (search rules) ∙ c.div_euclid-2.ensures ∙ ap₂ int_div_euclid in_y g in
    let z : to_z w64 (of_z w64 c.div_euclid-3.result) ≡ int_div_euclid c.args.w.z common =
    to_z-of_z w64 _ (search rules) ∙ c.div_euclid-3.ensures ∙ ap₂ int_div_euclid in_z g in
    record {
      x = rw x (quotient_within _ c.args.w.x common divides.x from_1 c.requires.x);
      y = rw y (quotient_within _ c.args.w.y common divides.y from_1 c.requires.y);
      z = rw z (quotient_within _ c.args.w.z common divides.z from_1 c.requires.z);
    }

pub returns-clause-multiple : goal.returns-clause-multiple
returns-clause-multiple c =
    let common = c.common_divisor-common.result in
    let from_1 = c.common_divisor-common.ensures.from_1 in
    let divides = c.common_divisor-common.ensures.divides in
    let g : to_z w64 (of_z w64 common) ≡ common = to_z-of_z w64 _ (search rules) in
    let in_x : to_z w64 (of_z w64 c.args.w.x) ≡ c.args.w.x = to_z-of_z w64 _ (search rules) in
    let in_y : to_z w64 (of_z w64 c.args.w.y) ≡ c.args.w.y = to_z-of_z w64 _ (search rules) in
    let in_z : to_z w64 (of_z w64 c.args.w.z) ≡ c.args.w.z = to_z-of_z w64 _ (search rules) in
    let x : to_z w64 (of_z w64 c.div_euclid.result) ≡ int_div_euclid c.args.w.x common =
    to_z-of_z w64 _ (search rules) ∙ c.div_euclid.ensures ∙ ap₂ int_div_euclid in_x g in
    let y : to_z w64 (of_z w64 c.div_euclid-2.result) ≡ int_div_euclid c.args.w.y common =
    to_z-of_z w64 _ (search rules) ∙ c.div_euclid-2.ensures ∙ ap₂ int_div_euclid in_y g in
    let z : to_z w64 (of_z w64 c.div_euclid-3.result) ≡ int_div_euclid c.args.w.z common =
    to_z-of_z w64 _ (search rules) ∙ c.div_euclid-3.ensures ∙ ap₂ int_div_euclid in_z g in (
      common,
      from_1,
      same_vector
          (exact c.args.w.x common divides.x from_1 ∙ ap (λ (n : ℤ). common *ℤ n) (sym x))
          (exact c.args.w.y common divides.y from_1 ∙ ap (λ (n : ℤ). common *ℤ n) (sym y))
          (exact c.args.w.z common divides.z from_1 ∙ ap (λ (n : ℤ). common *ℤ n) (sym z)),
    )
