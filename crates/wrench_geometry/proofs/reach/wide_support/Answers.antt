use Rattle.std.proofs.Common.{◌≡◌, ◌∙◌, ap, arith, get_or}
use Rattle.std.proofs.lemmas.Int.{ints}
use Rattle.wrench_geometry.specs.Vectors.{greatest_of}
use Rattle.wrench_geometry.proofs.Supports.{next_support}
use Rattle.wrench_geometry.proofs.reach.wide_support.Goals as goal

pub loop-images-preserved : goal.loop-images-preserved
loop-images-preserved c =
    let w = c.args.w in
    let lists = c.lists-images-items.result.now in
    let i = c.loop-images.images-index in
    let d = c.images-item.result in
    let is : c.greatest-total.result ≡ greatest_of w (get_or lists i d) =
    c.greatest-total.ensures.value
    ∙ ap (greatest_of w) (c.as_slice.ensures.value ∙ c.images-item.is) in
    next_support w lists i d _ c.greatest-total.result _ (omega arith) c.loop-images.invariant is
    c.greatest-total.ensures.low c.greatest-total.ensures.high
    (omega (arith, ints, c.lists-images-items.ensures.fits))
