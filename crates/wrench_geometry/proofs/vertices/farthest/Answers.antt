use Rattle.std.proofs.Common.{◌≡◌, ◌≤◌, ◌∙◌, List, ap, arith, rules, get_or, length}
use Rattle.std.specs.Prelude.{take}
use Rattle.std.proofs.lemmas.List.{length-take}
use Rattle.std.proofs.lemmas.List.Elements.{All-get_or}
use Rattle.wrench_geometry.specs.declared.vector.Vec3.{Vec3}
use Rattle.wrench_geometry.specs.Vectors.{dot_of, greatest_of, sum_of}
use Rattle.wrench_geometry.specs.Wrenches.{AreImages, image_at}
use Rattle.wrench_geometry.proofs.VertexSums.{ArePlaces-length, next_sum, plain_12, within_12}
use Rattle.wrench_geometry.proofs.vertices.farthest.Goals as goal

pub sum-point-requires-clause-a : goal.sum-point-requires-clause-a
sum-point-requires-clause-a c = plain_12 c.loop-images.images-index _
    (omega (arith, c.lists-images-items.ensures.fits)) c.loop-images.invariant.within

pub push-requires : goal.push-requires
push-requires c =
    let i = c.loop-images.images-index in
    let lists = c.lists-images-items.result.now in
    let same = ArePlaces-length (take i lists) c.loop-images.places.items
    c.loop-images.invariant.places in
    (search rules, omega (arith, c.lists-images-items.ensures.fits, same, length-take i lists))

pub loop-images-preserved : goal.loop-images-preserved
loop-images-preserved c =
    let w = c.args.w in
    let lists = c.lists-images-items.result.now in
    let i = c.loop-images.images-index in
    let point = c.loop-images.point in
    let place = c.farthest_place-place.result in
    let d = c.images-item.result in
    let e : c.as_slice-list.result.now ≡ get_or lists i d = c.as_slice-list.ensures.value
    ∙ c.images-item.is in
    let more : c.sum-point.result ≡ sum_of point (image_at (get_or lists i d) place) =
    c.sum-point.ensures
    ∙ ap (sum_of point) (c.image_at.ensures ∙ ap (λ (l : List Vec3). image_at l place) e) in
    let within : place ≤ length (get_or lists i d) =
    rw (← e) c.farthest_place-place.ensures.place in
    let greatest : dot_of w (image_at (get_or lists i d) place) ≡ greatest_of w (get_or lists i d) =
    rw (← e) c.farthest_place-place.ensures.greatest in
    let images : AreImages (get_or lists i d) = All-get_or AreImages lists i d
    (omega arith) c.lists-images-items.ensures.images in
    rw (c.push.ensures.items, more)
    (next_sum w lists i d c.loop-images.places.items point place
    (omega arith) images c.loop-images.invariant within greatest)

pub returns-clause-within : goal.returns-clause-within
returns-clause-within c = within_12 c.loop-images.images-index _
    (omega (arith, c.lists-images-items.ensures.fits)) c.loop-images.invariant.within
