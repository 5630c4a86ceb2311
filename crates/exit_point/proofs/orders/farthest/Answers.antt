use Rattle.std.proofs.Common.{◌≡◌, ◌≤◌, ◌∙◌, List, ap, arith, rules, get_or, length}
use Rattle.std.specs.Prelude.{take}
use Rattle.std.proofs.lemmas.List.{length-take, take_all}
use Rattle.std.proofs.lemmas.List.Elements.{All-get_or}
use Rattle.wrench_geometry.specs.declared.vector.Vec3.{Vec3}
use Rattle.wrench_geometry.specs.Vectors.{sum_of}
use Rattle.wrench_geometry.specs.Wrenches.{AreImages, image_at}
use Rattle.wrench_geometry.proofs.Bounds.{same_vector}
use Rattle.wrench_geometry.proofs.VertexSums.{ArePlaces-length, plain_12, within_12}
use Rattle.exit_point.specs.Orders.{IsFarthest}
use Rattle.exit_point.proofs.Farthest.{next_farthest_sum, no_farthest}
use Rattle.exit_point.proofs.orders.farthest.Goals as goal

pub sum-point-requires-clause-a : goal.sum-point-requires-clause-a
sum-point-requires-clause-a c = plain_12 c.loop-images.images-index _
    (omega (arith, c.lists-images-items.ensures.fits)) c.loop-images.invariant.sum.within

pub push-requires : goal.push-requires
push-requires c =
    let i = c.loop-images.images-index in
    let lists = c.lists-images-items.result.now in
    let same = ArePlaces-length (take i lists) c.loop-images.places.items
    c.loop-images.invariant.sum.places in
    (search rules, omega (arith, c.lists-images-items.ensures.fits, same, length-take i lists))

pub loop-images-preserved : goal.loop-images-preserved
loop-images-preserved c =
    let lists = c.lists-images-items.result.now in
    let i = c.loop-images.images-index in
    let point = c.loop-images.point in
    let place = c.farthest_place-place.result in
    let d = c.images-item.result in
    let e : c.as_slice-list.result.now ≡ get_or lists i d = c.as_slice-list.ensures.value
    ∙ c.images-item.is in
    let more : c.sum-point.result ≡ sum_of point (image_at (get_or lists i d) place) =
    c.sum-point.ensures
    ∙ ap (sum_of point) (c.image_at.ensures ∙ ap (λ (l : List Vec3). image_at l place) e) in
    let within : place ≤ length (get_or lists i d) =
    rw (← e) c.farthest_place-place.ensures.place in
    let farthest : IsFarthest c.args.order (get_or lists i d)
    (image_at (get_or lists i d) place) = rw (← e) c.farthest_place-place.ensures.farthest in
    let images : AreImages (get_or lists i d) = All-get_or AreImages lists i d
    (omega arith) c.lists-images-items.ensures.images in
    rw (c.push.ensures.items, more)
    (next_farthest_sum c.args.order lists i d c.loop-images.places.items point place
    (omega arith) images c.loop-images.invariant within farthest)

pub loop-images-init : goal.loop-images-init
loop-images-init c =
    let point = c.default-point.ensures in
    no_farthest c.args.order _ _ _ c.new-places.ensures (same_vector point.0 point.1.0 point.1.1)

pub returns-clause-corner : goal.returns-clause-corner
returns-clause-corner c =
    let so = c.loop-images.invariant.sum in
    let all : take c.loop-images.images-index c.lists-images-items.result.now ≡ c.args.sums.now =
    take_all c.loop-images.images-index c.lists-images-items.result.now c.loop-images-test.false
    ∙ c.lists-images-items.ensures.value in
    record {
      chosen = record { places = rw (← all) so.places; point = rw (← all) so.sum };
      within = within_12 c.loop-images.images-index _
          (omega (arith, c.lists-images-items.ensures.fits)) so.within;
    }
