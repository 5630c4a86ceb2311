use Rattle.std.proofs.Common.{◌≡◌, ◌∙◌, ap, sym, arith, drop, length, map, rules, subst, ◌+◌, ◌<◌, ◌≤◌, ◌+ℤ◌, to_z, of_z}
use Rattle.std.specs.Int.{w128}
use Rattle.std.proofs.lemmas.Int.{to_z-of_z}
use Rattle.std.proofs.lemmas.List.{length-map}
use Rattle.plant_model.specs.declared.parts.Thruster.{Thruster}
use Rattle.thrust_region.specs.Pieces.{all_points}
use Rattle.wrench_geometry.specs.Chosen.{levers_of}
use Rattle.feasibility.specs.Spreads.{IsSpread, spread_of}
use Rattle.feasibility.proofs.Spreads.{is_spread, next_total, part_left, total_when_taken}
use Rattle.feasibility.proofs.subtrees.spread.Goals as goal
use Rattle.feasibility.proofs.subtrees.spread.Goals.{After-loop-place}

-- past the last thruster the sum is whole
whole_total : (c : After-loop-place) → to_z w128 c.loop-place.total-bits
    ≡ spread_of c.args.w (levers_of c.args.plant.now) (map all_points c.args.regions.now.list.items)
    c.args.fixed.now
whole_total c =
    let i = c.loop-place.place in
    let lists = map all_points c.args.regions.now.list.items in
    let past : length lists ≤ i =
    omega (
      arith,
      length-map c.args.regions.now.list.items all_points,
      c.len-place-end.ensures.value,
      c.loop-place-test.false,
    ) in
    total_when_taken (to_z w128 c.loop-place.total-bits) c.args.w (levers_of c.args.plant.now) lists
    c.args.fixed.now i past c.loop-place.invariant.0

pub loop-place-preserved : goal.loop-place-preserved
loop-place-preserved c =
    let i = c.loop-place.place in
    let w = c.args.w in
    let thrusters = c.args.plant.now.thrusters.items in
    let regions = c.args.regions.now.list.items in
    let levers = levers_of c.args.plant.now in
    let lists = map all_points regions in
    let here : i < length lists =
    omega (arith, length-map regions all_points, c.len-place-end.ensures.value, c.loop-place-test.true)
    in
    let there : i < length levers =
    omega (
      arith,
      length-map regions all_points,
      length-map thrusters (λ (x : Thruster). x.lever),
      c.requires.region_each,
    ) in
    let is : to_z w128 (of_z w128 c.reach_at-total.result) ≡ c.reach_at-total.result =
    to_z-of_z w128 _ (search rules) in
    let whole : to_z w128 (of_z w128 (to_z w128 c.loop-place.total-bits
    +ℤ to_z w128 (of_z w128 c.reach_at-total.result))) ≡ to_z w128 c.loop-place.total-bits
    +ℤ to_z w128 (of_z w128 c.reach_at-total.result) = to_z-of_z w128 _ (search rules) in
    next_total i (to_z w128 c.loop-place.total-bits) c.reach_at-total.result _
    (spread_of w (drop i levers) (drop i lists) (drop i c.args.fixed.now))
    (spread_of w (drop (i + 1) levers) (drop (i + 1) lists) (drop (i + 1) c.args.fixed.now)) _
    (whole ∙ ap (λ z. to_z w128 c.loop-place.total-bits +ℤ z) is)
    (part_left w levers lists c.args.fixed.now i c.reach_at-total.result there here
    c.reach_at-total.ensures.fixed c.reach_at-total.ensures.free)
    c.loop-place.invariant c.reach_at-total.ensures.low c.reach_at-total.ensures.high

pub returns-clause-greatest : goal.returns-clause-greatest
returns-clause-greatest c =
    let plant = c.args.plant.now in
    let regions = c.args.regions.now in
    let lists = map all_points regions.list.items in
    let levers = levers_of plant in
    let fixed = c.args.fixed.now in
    let same : length levers ≡ length lists =
    length-map plant.thrusters.items (λ (x : Thruster). x.lever) ∙ sym c.requires.region_each
    ∙ sym (length-map regions.list.items all_points) in
    subst (IsSpread c.args.w levers lists fixed) (sym (whole_total c))
    (is_spread c.args.w levers lists fixed same regions.some c.requires.numbers)

pub returns-clause-value : goal.returns-clause-value
returns-clause-value c = whole_total c
