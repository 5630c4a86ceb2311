use Rattle.std.proofs.Common.{◌≡◌, ◌∙◌, ℕ, ℤ, pos, ◌+ℤ◌, ◌-ℤ◌, ◌+◌, ◌*◌, ◌^◌, ◌/◌, ◌<◌, ◌≤◌, ◌≤ℤ◌, List, [], ap}
use Rattle.std.proofs.Common.{SFits, sym, subst, arith, drop, get_or, length, map, rules, to_z, of_z}
use Rattle.std.specs.Int.{w128}
use Rattle.std.proofs.Math.ListN.{get_or-map}
use Rattle.std.proofs.lemmas.Int.{ints, to_z-of_z}
use Rattle.std.proofs.lemmas.List.{get_or_default, length-map}
use Rattle.int_ring.proofs.Laws.{linear}
use Rattle.plant_model.specs.Rings.{origin}
use Rattle.plant_model.specs.declared.parts.Thruster.{Thruster}
use Rattle.plant_model.specs.declared.thrust.Pieces.{Pieces}
use Rattle.thrust_region.specs.Pieces.{all_points}
use Rattle.thrust_region.proofs.Lists.{left_from}
use Rattle.wrench_geometry.specs.Chosen.{levers_of}
use Rattle.feasibility.specs.Spreads.{reach_of, spread_of}
use Rattle.feasibility.proofs.Spreads.{IsBlock, block_falls_short, block_next, last_begins}
use Rattle.feasibility.proofs.Spreads.{next_reach, next_some, spread_left, taken_is, whole_block}
use Rattle.feasibility.proofs.subtrees.cut_off_from.Goals as goal
use Rattle.feasibility.proofs.subtrees.cut_off_from.Goals.{After-len}

none_more : (z : ℤ) → z ≡ pos 0 +ℤ z
none_more z = omega (arith, linear)

pub loop-place-init : goal.loop-place-init
loop-place-init c =
    let w = c.args.w in
    let levers = levers_of c.args.plant.now in
    let lists = map all_points c.args.regions.now.list.items in
    let whole : to_z w128 (of_z w128 c.spread-reach.result) ≡ c.spread-reach.result =
    to_z-of_z w128 _ (search rules) in (
      0,
      pos 0,
      subst (λ (n : ℕ). IsBlock w levers lists c.args.k 0 0 n c.args.k (pos 0))
          (sym c.choices-size.ensures.product)
          (whole_block w levers lists c.args.k c.requires.there),
      whole ∙ c.spread-reach.ensures.value ∙ none_more _,
      omega (arith, ints, whole, c.spread-reach.ensures.low),
      omega (arith, ints, whole, c.spread-reach.ensures.high),
    )

pub returns-then-reach-along-clause-short : goal.returns-then-reach-along-clause-short
returns-then-reach-along-clause-short c m below =
    let inv = c.loop-place.invariant in
    block_falls_short c.args.w (levers_of c.args.plant.now)
    (map all_points c.args.regions.now.list.items) c.args.k c.loop-place.place inv.0
    c.loop-place.size c.loop-place.rest inv.1 (to_z w128 c.loop-place.reach-bits) c.args.along
    c.if-rest-eq0.true inv.3 (omega (arith, ints, c.if-reach-along.true)) inv.2 m below

-- there is a thruster at the place, with its lever and its pieces
here : (c : After-len) → c.loop-place.place
    < length (map all_points c.args.regions.now.list.items)
here c = omega (
  arith,
  length-map c.args.regions.now.list.items all_points,
  c.len-place-end.ensures.value,
  c.loop-place-test.true,
)

there : (c : After-len) → c.loop-place.place < length (levers_of c.args.plant.now)
there c = omega (
  arith,
  length-map c.args.regions.now.list.items all_points,
  length-map c.args.plant.now.thrusters.items (λ (x : Thruster). x.lever),
  here c,
  c.requires.region_each,
)

counted : (c : After-len) → c.len.result
    ≡ length (get_or (map all_points c.args.regions.now.list.items) c.loop-place.place [])
counted c =
    let place = c.loop-place.place in
    let regions = c.args.regions.now.list.items in
    let lists = map all_points regions in
    let r = c.index-deref-place.result in
    c.len.ensures.count ∙ ap length (ap all_points (c.index-deref-place.is
    ∙ ap (λ (l : List Pieces). get_or l place r) c.deref.ensures.0)
    ∙ sym (get_or-map all_points regions place r)
    ∙ get_or_default lists place (all_points r) [] (here c))

some : (c : After-len) → 0 < c.loop-place.size / c.len.result
some c =
    let inv = c.loop-place.invariant in
    let place = c.loop-place.place in
    let lists = map all_points c.args.regions.now.list.items in
    next_some c.args.w (levers_of c.args.plant.now) lists c.args.k place inv.0 c.loop-place.size
    c.loop-place.rest c.len.result inv.1 (get_or lists place []) (left_from lists place [] (here c))
    (counted c) inv.2

pub nonzero_div-piece : goal.nonzero_div-piece
nonzero_div-piece c = some (goal.at.nonzero_div-piece c).After-len

pub nonzero_rem-rest : goal.nonzero_rem-rest
nonzero_rem-rest c = some (goal.at.nonzero_rem-rest c).After-len

pub overflow_add-reach : goal.overflow_add-reach
overflow_add-reach c =
    let inv = c.loop-place.invariant in
    let i = c.loop-place.place in
    let f = c.farthest_reach-reach.result in
    let r = c.reach_of_piece-reach.result in
    let is_f : to_z w128 (of_z w128 f) ≡ f = to_z-of_z w128 _ (search rules) in
    let is_r : to_z w128 (of_z w128 r) ≡ r = to_z-of_z w128 _ (search rules) in
    let few : i ≤ 12 = omega (arith, c.len-place-end.ensures.fits, c.loop-place-test.true) in
    let taken = taken_is i (to_z w128 c.loop-place.reach-bits) f r _ _ is_f is_r few
    c.farthest_reach-reach.ensures.low c.farthest_reach-reach.ensures.high
    c.reach_of_piece-reach.ensures.low c.reach_of_piece-reach.ensures.high inv.4 inv.5 in
    subst (SFits w128) (sym taken.0) taken.1

pub loop-place-preserved : goal.loop-place-preserved
loop-place-preserved c =
    let at = (goal.at.loop-place-preserved c).After-len in
    let inv = c.loop-place.invariant in
    let i = c.loop-place.place in
    let w = c.args.w in
    let levers = levers_of c.args.plant.now in
    let lists = map all_points c.args.regions.now.list.items in
    let lever = get_or levers i origin in
    let region = get_or lists i [] in
    let size = c.loop-place.size / c.len.result in
    let piece = c.loop-place.rest / size in
    let reach = to_z w128 c.loop-place.reach-bits in
    let f = c.farthest_reach-reach.result in
    let r = c.reach_of_piece-reach.result in
    let block = block_next w levers lists c.args.k i inv.0 c.loop-place.size c.loop-place.rest
    c.len.result inv.1 lever region (left_from levers i origin (there at))
    (left_from lists i [] (here at)) (counted at) inv.2 in
    let is_f : to_z w128 (of_z w128 f) ≡ f = to_z-of_z w128 _ (search rules) in
    let is_r : to_z w128 (of_z w128 r) ≡ r = to_z-of_z w128 _ (search rules) in
    let few : i ≤ 12 = omega (arith, c.len-place-end.ensures.fits, c.loop-place-test.true) in
    let taken = taken_is i reach f r _ _ is_f is_r few c.farthest_reach-reach.ensures.low
    c.farthest_reach-reach.ensures.high c.reach_of_piece-reach.ensures.low
    c.reach_of_piece-reach.ensures.high inv.4 inv.5 in
    let more : to_z w128 (of_z w128 (to_z w128 (of_z w128 (reach -ℤ to_z w128 (of_z w128 f)))
    +ℤ to_z w128 (of_z w128 r))) ≡ reach -ℤ f +ℤ r =
    ap (λ z. to_z w128 (of_z w128 z)) taken.0 ∙ to_z-of_z w128 (reach -ℤ f +ℤ r) taken.1 in
    let next = next_reach i inv.1 f (reach_of w lever (get_or region piece []))
    (spread_of w (drop (i + 1) levers) (drop (i + 1) lists) []) reach _
    (inv.3 ∙ ap (λ z. inv.1 +ℤ z) (spread_left w levers lists i (there at) (here at)
    ∙ ap (λ z. z +ℤ spread_of w (drop (i + 1) levers) (drop (i + 1) lists) [])
    (sym c.farthest_reach-reach.ensures.value)))
    (more ∙ ap (λ z. reach -ℤ f +ℤ z) c.reach_of_piece-reach.ensures.value)
    c.farthest_reach-reach.ensures.low c.farthest_reach-reach.ensures.high
    (subst (λ z. pos 0 ≤ℤ z) c.reach_of_piece-reach.ensures.value c.reach_of_piece-reach.ensures.low)
    (subst (λ z. z ≤ℤ pos (2 ^ 87)) c.reach_of_piece-reach.ensures.value
    c.reach_of_piece-reach.ensures.high) inv.4 inv.5 in (
      inv.0 + piece * size,
      inv.1 +ℤ reach_of w lever (get_or region piece []),
      block,
      next.0,
      next.1,
      next.2,
    )

pub returns-then-reach-along-2-clause-short : goal.returns-then-reach-along-2-clause-short
returns-then-reach-along-2-clause-short c m below =
    let inv = c.loop-place.invariant in
    let lists = map all_points c.args.regions.now.list.items in
    let past : length lists ≤ c.loop-place.place =
    omega (
      arith,
      length-map c.args.regions.now.list.items all_points,
      c.len-place-end.ensures.value,
      c.loop-place-test.false,
    ) in
    let begins = last_begins c.args.w (levers_of c.args.plant.now) lists c.args.k c.loop-place.place
    inv.0 c.loop-place.size c.loop-place.rest inv.1 past inv.2 in
    block_falls_short c.args.w (levers_of c.args.plant.now) lists c.args.k c.loop-place.place inv.0
    c.loop-place.size c.loop-place.rest inv.1 (to_z w128 c.loop-place.reach-bits) c.args.along
    begins inv.3 (omega (arith, ints, c.if-reach-along-2.true)) inv.2 m below
