use Rattle.std.proofs.Common.{◌≡◌, ◌∙◌, ◌<◌, ℤ, pos, ◌*ℤ◌, length, get_or, ap, refl, sym, rules}
use Rattle.std.proofs.Common.{to_z, of_z, w64, arith}
use Rattle.std.proofs.lemmas.Int.{to_z-of_z}
use Rattle.std.proofs.lemmas.List.{get_or_default}
use Rattle.plant_model.specs.Rings.{origin}
use Rattle.plant_model.specs.declared.thrust.Point.{Point}
use Rattle.feasibility.specs.Means.{mean_beside}
use Rattle.feasibility.proofs.Taken.{few_parts, mean_at_first, mean_more, whole_mean}
use Rattle.feasibility.proofs.mean.mean.Goals as goal

pub sum-total-requires-clause-total : goal.sum-total-requires-clause-total
sum-total-requires-clause-total c =
    few_parts c.loop-i.i c.loop-i.total (omega (arith, c.requires.few, c.loop-i.auto.i-end))
    c.loop-i.invariant.within

pub loop-i-init : goal.loop-i-init
loop-i-init c =
    mean_at_first c.args.weights.now c.args.points.now _ c.args.fixed c.part-total.result
    c.part-total.ensures.x c.part-total.ensures.y c.part-total.ensures.within

pub loop-i-preserved : goal.loop-i-preserved
loop-i-preserved c =
    let weights = c.args.weights.now in
    let points = c.args.points.now in
    let i = c.loop-i.i in
    let w : ℤ = get_or weights i (pos 0) in
    let p : Point = get_or points i origin in
    let here : i < length points = c.loop-i-test.true in
    let there : i < length weights = omega (arith, c.requires.one_each) in
    let w_is : to_z w64 (of_z w64 w) ≡ w = to_z-of_z w64 _ (search rules) in
    mean_more weights points _ c.args.fixed i w p c.loop-i.total c.part.result c.sum-total.result
    there here refl
    (sym (get_or_default points i origin p here))
    (c.part.ensures.x ∙ ap (λ (z : ℤ). z *ℤ p.x) w_is)
    (c.part.ensures.y ∙ ap (λ (z : ℤ). z *ℤ p.y) w_is)
    c.part.ensures.within c.sum-total.ensures.x c.sum-total.ensures.y c.loop-i.invariant

pub returns : goal.returns
returns c =
    let t_is : to_z w64 (of_z w64 c.args.t) ≡ c.args.t = to_z-of_z w64 _ (search rules) in
    whole_mean c.args.weights.now c.args.points.now _ c.args.fixed c.loop-i.i c.loop-i.total
    (omega (arith, c.loop-i-test.false)) c.loop-i.invariant
    ∙ ap (λ (z : ℤ). mean_beside c.args.weights.now c.args.points.now z c.args.fixed) t_is
