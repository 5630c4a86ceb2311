use Rattle.std.proofs.Common.{◌≡◌, ◌∙◌, ap, arith, get_or, rules, SFits, to_z, of_z, w64}
use Rattle.std.specs.Int.{w128, int_max}
use Rattle.std.proofs.lemmas.Int.{to_z-of_z}
use Rattle.std.proofs.lemmas.List.Elements.{All-get_or}
use Rattle.wrench_geometry.specs.Vectors.{dot_of, zero_vector}
use Rattle.wrench_geometry.specs.Wrenches.{IsImage}
use Rattle.wrench_geometry.proofs.Supports.{max_is, next_greatest, product_within}
use Rattle.wrench_geometry.proofs.reach.greatest.Goals as goal

pub loop-image-preserved : goal.loop-image-preserved
loop-image-preserved c =
    let i = c.loop-image.image-index in
    let w = c.args.w in
    let x : SFits w64 c.args.w.x = search rules in
    let y : SFits w64 c.args.w.y = search rules in
    let z : SFits w64 c.args.w.z = search rules in
    let image = All-get_or IsImage c.args.images.now i zero_vector (omega arith) c.requires in
    let product : to_z w128 (of_z w128 c.dot.result) ≡ dot_of w
    (get_or c.args.images.now i zero_vector) = to_z-of_z w128 _ (search rules)
    ∙ c.dot.ensures in
    let whole : to_z w128 (of_z w128 c.max-greatest.result) ≡ c.max-greatest.result =
    to_z-of_z w128 _ (search rules) in
    next_greatest w c.args.images.now i zero_vector _ _ (omega arith) c.loop-image.invariant
    (product_within w _ x y z image)
    (whole ∙ c.max-greatest.ensures
    ∙ max_is (to_z w128 c.loop-image.greatest-bits) (to_z w128 (of_z w128 c.dot.result))
    ∙ ap (int_max _) product)
