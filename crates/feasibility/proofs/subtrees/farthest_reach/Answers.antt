use Rattle.std.proofs.Common.{◌≡◌, ◌∙◌, [], ap, sym, arith, get_or, length, map, rules, List, ◌<◌}
use Rattle.std.proofs.Common.{to_z, of_z}
use Rattle.std.specs.Int.{w128, int_max}
use Rattle.std.proofs.Math.ListN.{get_or-map}
use Rattle.std.proofs.lemmas.Int.{to_z-of_z}
use Rattle.std.proofs.lemmas.List.{get_or_default, length-map}
use Rattle.plant_model.specs.Rings.{origin}
use Rattle.plant_model.specs.declared.thrust.Pieces.{Pieces}
use Rattle.thrust_region.specs.Pieces.{all_points}
use Rattle.wrench_geometry.specs.Chosen.{levers_of}
use Rattle.wrench_geometry.proofs.Supports.{max_is}
use Rattle.feasibility.specs.Spreads.{reach_of}
use Rattle.feasibility.proofs.Spreads.{next_farthest}
use Rattle.feasibility.proofs.subtrees.farthest_reach.Goals as goal

pub loop-piece-preserved : goal.loop-piece-preserved
loop-piece-preserved c =
    let place = c.args.place in
    let i = c.loop-piece.piece in
    let w = c.args.w in
    let r = c.index-deref-place.result in
    let regions = c.args.regions.now.list.items in
    let lists = map all_points regions in
    let lever = get_or (levers_of c.args.plant.now) place origin in
    let here : place < length lists =
    omega (arith, length-map regions all_points, c.requires.place, c.requires.region_each) in
    let region : all_points r ≡ get_or lists place [] =
    ap all_points (c.index-deref-place.is
    ∙ ap (λ (l : List Pieces). get_or l place r) c.deref.ensures.0)
    ∙ sym (get_or-map all_points regions place r)
    ∙ get_or_default lists place (all_points r) [] here in
    let numbers = map (reach_of w lever) (get_or lists place []) in
    let below : i < length numbers =
    omega (
      arith,
      length-map (get_or lists place []) (reach_of w lever),
      ap length region,
      c.len-piece-end.ensures.count,
      c.loop-piece-test.true,
    ) in
    let is : to_z w128 (of_z w128 c.reach_of_piece.result) ≡ c.reach_of_piece.result =
    to_z-of_z w128 _ (search rules) in
    let whole : to_z w128 (of_z w128 c.max-farthest.result) ≡ c.max-farthest.result =
    to_z-of_z w128 _ (search rules) in
    next_farthest numbers i (reach_of w lever []) _ c.reach_of_piece.result _ below
    c.loop-piece.invariant
    (c.reach_of_piece.ensures.value
    ∙ sym (get_or-map (reach_of w lever) (get_or lists place []) i []))
    c.reach_of_piece.ensures.low c.reach_of_piece.ensures.high
    (whole ∙ c.max-farthest.ensures
    ∙ max_is (to_z w128 c.loop-piece.farthest-bits) (to_z w128 (of_z w128 c.reach_of_piece.result))
    ∙ ap (int_max _) is)
