use Rattle.std.proofs.Common.{◌≡◌, ◌∙◌, ◌<◌, ℤ, List, length, map, get_or, ap, ap₂, sym}
use Rattle.std.proofs.Common.{rules, to_z, of_z, w64, arith}
use Rattle.std.proofs.lemmas.Int.{to_z-of_z}
use Rattle.std.proofs.lemmas.List.{get_or-map, get_or_default, length-map}
use Rattle.arrayvec.specs.ArrayVec.{ArrayVec}
use Rattle.plant_model.specs.Rings.{origin}
use Rattle.plant_model.specs.declared.thrust.Piece.{Piece}
use Rattle.plant_model.specs.declared.thrust.Point.{Point}
use Rattle.thrust_region.specs.Pieces.{points_of}
use Rattle.feasibility.specs.Means.{mean_beside}
use Rattle.feasibility.proofs.Taken.{all_means, length-room, means_at_first, means_more, room_at}
use Rattle.feasibility.proofs.mean.means.Goals as goal
use Rattle.feasibility.proofs.mean.means.Goals.{After-as_slice}

pub bounds-deref-i : goal.bounds-deref-i
bounds-deref-i c =
    let items = c.args.chosen.now.pieces.items in
    omega (
      arith,
      ap length c.deref.ensures.0,
      length-room c.args.exit.now.weights.items (map points_of items) c.requires.rows,
      length-map items points_of,
      ap length c.as_slice-piece-items.ensures.value,
      c.loop-i-test.true,
    )

-- the piece at the place, and its weights
piece_is : (c : After-as_slice) →
    get_or (map points_of c.args.chosen.now.pieces.items) c.loop-i.i c.as_slice.result.now ≡
    c.as_slice.result.now
piece_is c =
    let items = c.args.chosen.now.pieces.items in
    let same = c.as_slice-piece-items.ensures.value in
    let there : c.loop-i.i < length items = omega (arith, ap length same, c.loop-i-test.true) in
    get_or-map points_of items c.loop-i.i c.piece-item.result c.as_slice.result.now there
    ∙ ap points_of (sym (c.piece-item.is
    ∙ ap (λ (l : List Piece). get_or l c.loop-i.i c.piece-item.result) same))
    ∙ sym c.as_slice.ensures.value

row_is : (c : After-as_slice) →
    get_or c.args.exit.now.weights.items c.loop-i.i c.index-deref-i.result ≡ c.index-deref-i.result
row_is c = sym (c.index-deref-i.is
    ∙ ap (λ (l : List (ArrayVec ℤ)). get_or l c.loop-i.i c.index-deref-i.result) c.deref.ensures.0)

pub mean-requires-clause-one_each : goal.mean-requires-clause-one_each
mean-requires-clause-one_each c =
    let items = c.args.chosen.now.pieces.items in
    let at = goal.at.mean-requires-clause-one_each c in
    let there : c.loop-i.i < length (map points_of items) =
    omega (
      arith,
      length-map items points_of,
      ap length c.as_slice-piece-items.ensures.value,
      c.loop-i-test.true,
    ) in
    let room = room_at c.args.exit.now.weights.items (map points_of items) c.loop-i.i
    c.index-deref-i.result c.as_slice.result.now c.requires.rows there in
    omega (
      arith,
      room,
      ap length (piece_is at.After-as_slice),
      ap
          (λ (r : ArrayVec ℤ). length r.items) (row_is at.After-as_slice),
      ap length
          c.as_slice-weights.ensures.value,
    )

pub push-requires : goal.push-requires
push-requires c = (
  search rules,
  omega (
    arith,
    c.loop-i.invariant.counted,
    c.loop-i-test.true,
    c.as_slice-piece-items.ensures.fits,
  ),
)

pub loop-i-init : goal.loop-i-init
loop-i-init c =
    rw c.default-thrusts.ensures
    (means_at_first c.args.exit.now.weights.items (map points_of c.args.chosen.now.pieces.items)
    c.args.exit.now.t c.args.fixed.now)

pub loop-i-preserved : goal.loop-i-preserved
loop-i-preserved c =
    let items = c.args.chosen.now.pieces.items in
    let rows = c.args.exit.now.weights.items in
    let pieces = map points_of items in
    let fixed = c.args.fixed.now in
    let i = c.loop-i.i in
    let at = goal.at.loop-i-preserved c in
    let f : Point = get_or fixed i origin in
    let there : i < length pieces =
    omega (
      arith,
      length-map items points_of,
      ap length c.as_slice-piece-items.ensures.value,
      c.loop-i-test.true,
    ) in
    let in_rows : i < length rows = omega (arith, length-room rows pieces c.requires.rows) in
    let in_fixed : i < length fixed = omega
    (arith, c.requires.fixed_each, length-map items points_of) in
    let t_is : to_z w64 (of_z w64 c.args.exit.now.t) ≡ c.args.exit.now.t = to_z-of_z w64 _
    (search rules) in
    means_more rows pieces c.args.exit.now.t fixed i c.index-deref-i.result c.as_slice.result.now f
    c.mean.result
    c.loop-i.thrusts.list.items c.push.new.self.items in_rows there in_fixed
    (row_is at.After-as_slice) (piece_is at.After-as_slice)
    (sym (get_or_default fixed i origin f in_fixed))
    (c.mean.ensures ∙ ap₂ (λ (l : List ℤ) (z : ℤ). mean_beside l c.as_slice.result.now z f)
    c.as_slice-weights.ensures.value t_is)
    c.push.ensures.items c.loop-i.invariant

pub returns : goal.returns
returns c =
    let items = c.args.chosen.now.pieces.items in
    all_means c.args.exit.now.weights.items (map points_of items) c.args.exit.now.t c.args.fixed.now
    c.loop-i.i c.loop-i.thrusts.list.items
    (omega (
      arith,
      length-map items points_of,
      ap length c.as_slice-piece-items.ensures.value,
      c.loop-i-test.false,
    )) c.loop-i.invariant
