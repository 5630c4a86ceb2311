use Rattle.std.proofs.Common.{◌≡◌, ◌∙◌, ap, arith, get_or}
use Rattle.std.proofs.lemmas.Int.{ints}
use Rattle.wrench_geometry.specs.Vectors.{greatest_of}
use Rattle.wrench_geometry.proofs.Supports.{next_short_support}
use Rattle.wrench_geometry.proofs.reach.short_support.Goals as goal

pub loop-images-preserved : goal.loop-images-preserved
loop-images-preserved c =
    let w = c.args.w in
    let lists = c.lists-images-items.result.now in
    let i = c.loop-images.images-index in
    let d = c.images-item.result in
    let is : c.short_greatest-total.result ≡ greatest_of w (get_or lists i d) =
    c.short_greatest-total.ensures.value
    ∙ ap (greatest_of w) (c.as_slice.ensures.value ∙ c.images-item.is) in
    next_short_support w lists i d _ c.short_greatest-total.result _ (omega arith)
    c.loop-images.invariant is c.short_greatest-total.ensures.low
    c.short_greatest-total.ensures.high (omega (arith, ints, c.lists-images-items.ensures.fits))
