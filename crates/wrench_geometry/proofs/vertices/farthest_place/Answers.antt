use Rattle.std.proofs.Common.{◌≡◌, ◌∙◌, arith, rules, to_z, of_z, w64}
use Rattle.std.proofs.lemmas.Int.{ints, to_z-of_z}
use Rattle.std.proofs.lemmas.List.Elements.{All-get_or}
use Rattle.wrench_geometry.specs.Vectors.{dot_of, zero_vector}
use Rattle.wrench_geometry.specs.Wrenches.{IsImage, image_at}
use Rattle.wrench_geometry.proofs.Supports.{next_place_taken, next_place_left}
use Rattle.wrench_geometry.proofs.VertexSums.{image_is_sum}
use Rattle.wrench_geometry.proofs.vertices.farthest_place.Goals as goal
use Rattle.wrench_geometry.proofs.vertices.farthest_place.Goals.{then-product-greatest}
use Rattle.wrench_geometry.proofs.vertices.farthest_place.Goals.{else-product-greatest}

pub product-product-requires-clause-point : goal.product-product-requires-clause-point
product-product-requires-clause-point c =
    image_is_sum
    (All-get_or IsImage c.args.images.now c.loop-i.i zero_vector (omega arith) c.requires.images)

pub loop-i-preserved : goal.loop-i-preserved
loop-i-preserved c =
    let w = c.args.w in
    let list = c.args.images.now in
    let i = c.loop-i.i in
    let is : to_z w64 (of_z w64 c.product-product.result) ≡ dot_of w (image_at list i) =
    to_z-of_z w64 _ (search rules) ∙ c.product-product.ensures in
    let g = to_z w64 c.loop-i.greatest-bits in
    let p = to_z w64 (of_z w64 c.product-product.result) in
    elim c.if-product-greatest.branch [
      | then-product-greatest b ↦ next_place_taken w list i c.loop-i.place g p
          (omega arith) is c.loop-i.invariant _ _ b.greatest-is b.place-is
          (let above = b.if-product-greatest.true in omega (arith, ints))
      | else-product-greatest b ↦ next_place_left w list i c.loop-i.place g p
          (omega arith) is c.loop-i.invariant _ _ b.greatest-is b.place-is
          (let above = b.if-product-greatest.false in omega (arith, ints))
    ]
