use Rattle.std.proofs.Common.{◌≡◌, ◌∙◌, arith, rules, get_or}
use Rattle.std.specs.Prelude.{take}
use Rattle.std.proofs.lemmas.List.{length-take}
use Rattle.wrench_geometry.proofs.VertexSums.{ArePlaces-length}
use Rattle.exit_point.proofs.Farthest.{next_origin, no_origin}
use Rattle.exit_point.proofs.orders.origin.Goals as goal

pub loop-images-init : goal.loop-images-init
loop-images-init c = no_origin _ _ c.new-places.ensures

pub push-requires : goal.push-requires
push-requires c =
    let i = c.loop-images.images-index in
    let lists = c.lists-images-items.result.now in
    let same = ArePlaces-length (take i lists) c.loop-images.places.items
    c.loop-images.invariant.places in
    (search rules, omega (arith, c.lists-images-items.ensures.fits, same, length-take i lists))

pub loop-images-preserved : goal.loop-images-preserved
loop-images-preserved c =
    let lists = c.lists-images-items.result.now in
    let i = c.loop-images.images-index in
    let d = c.images-item.result in
    let e : c.as_slice.result.now ≡ get_or lists i d = c.as_slice.ensures.value
    ∙ c.images-item.is in
    rw (c.push.ensures.items, e)
    (next_origin lists i d c.loop-images.places.items (omega arith) c.loop-images.invariant)
