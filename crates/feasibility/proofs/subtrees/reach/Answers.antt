use Rattle.std.proofs.Common.{◌≡◌, ◌∙◌, inr, ap, subst, sym, arith, get_or, map, rules, SFits}
use Rattle.std.proofs.Common.{to_z, of_z, w64}
use Rattle.std.specs.Int.{w128, int_max}
use Rattle.std.proofs.Math.ListN.{get_or-map}
use Rattle.std.proofs.lemmas.Int.{ints, to_z-of_z}
use Rattle.std.proofs.lemmas.List.{length-map}
use Rattle.plant_model.specs.Rings.{origin}
use Rattle.wrench_geometry.specs.Vectors.{dot_of}
use Rattle.wrench_geometry.specs.Wrenches.{IsImage, image_of}
use Rattle.wrench_geometry.specs.declared.vector.TheConstants.{MOST_PLAIN}
use Rattle.wrench_geometry.proofs.Bounds.{wider}
use Rattle.wrench_geometry.proofs.Supports.{max_is, next_greatest, product_within}
use Rattle.feasibility.proofs.subtrees.reach.Goals as goal

pub dot-requires : goal.dot-requires
dot-requires c =
    inr (wider MOST_PLAIN MOST_PLAIN (omega (arith, ints)) (omega (arith, ints))
    c.image.ensures.within)

pub loop-point-preserved : goal.loop-point-preserved
loop-point-preserved c =
    let i = c.loop-point.point-index in
    let w = c.args.w in
    let lever = c.args.lever in
    let points = c.args.points.now in
    let images = map (image_of lever) points in
    let none = image_of lever origin in
    let image : c.image.result ≡ get_or images i none =
    c.image.ensures.value ∙ sym (get_or-map (image_of lever) points i origin) in
    let fits_x : SFits w64 c.args.w.x = search rules in
    let fits_y : SFits w64 c.args.w.y = search rules in
    let fits_z : SFits w64 c.args.w.z = search rules in
    let product : to_z w128 (of_z w128 c.dot.result) ≡ dot_of w (get_or images i none) =
    to_z-of_z w128 _ (search rules) ∙ c.dot.ensures ∙ ap (dot_of w) image in
    let whole : to_z w128 (of_z w128 c.max-reach.result) ≡ c.max-reach.result =
    to_z-of_z w128 _ (search rules) in
    next_greatest w images i none _ _ (omega (arith, length-map points (image_of lever)))
    c.loop-point.invariant
    (product_within w _ fits_x fits_y fits_z (subst IsImage image c.image.ensures.within))
    (whole ∙ c.max-reach.ensures
    ∙ max_is (to_z w128 c.loop-point.reach-bits) (to_z w128 (of_z w128 c.dot.result))
    ∙ ap (int_max _) product)
