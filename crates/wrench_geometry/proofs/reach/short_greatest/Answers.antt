use Rattle.std.proofs.Common.{◌≡◌, ◌∙◌, ap, arith, get_or, rules, to_z, of_z, w64}
use Rattle.std.specs.Int.{int_max}
use Rattle.std.proofs.lemmas.Int.{to_z-of_z}
use Rattle.std.proofs.lemmas.List.Elements.{All-get_or}
use Rattle.wrench_geometry.specs.Vectors.{dot_of, zero_vector}
use Rattle.wrench_geometry.specs.Wrenches.{IsImage}
use Rattle.wrench_geometry.proofs.Supports.{max_is, next_short_greatest, short_product_within}
use Rattle.wrench_geometry.proofs.VertexSums.{image_is_sum}
use Rattle.wrench_geometry.proofs.reach.short_greatest.Goals as goal

pub product-requires-clause-point : goal.product-requires-clause-point
product-requires-clause-point c =
    image_is_sum
    (All-get_or IsImage c.args.images.now c.loop-image.image-index zero_vector (omega arith)
    c.requires.images)

pub loop-image-preserved : goal.loop-image-preserved
loop-image-preserved c =
    let i = c.loop-image.image-index in
    let w = c.args.w in
    let image = All-get_or IsImage c.args.images.now i zero_vector (omega arith)
    c.requires.images in
    let product : to_z w64 (of_z w64 c.product.result) ≡ dot_of w
    (get_or c.args.images.now i zero_vector) = to_z-of_z w64 _ (search rules)
    ∙ c.product.ensures in
    let whole : to_z w64 (of_z w64 c.max-farthest.result) ≡ c.max-farthest.result =
    to_z-of_z w64 _ (search rules) in
    next_short_greatest w c.args.images.now i zero_vector _ _ (omega arith) c.loop-image.invariant
    (short_product_within w _ c.requires.short image)
    (whole ∙ c.max-farthest.ensures
    ∙ max_is (to_z w64 c.loop-image.farthest-bits) (to_z w64 (of_z w64 c.product.result))
    ∙ ap (int_max _) product)
