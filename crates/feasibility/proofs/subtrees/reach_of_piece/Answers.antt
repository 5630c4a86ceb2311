use Rattle.std.proofs.Common.{◌≡◌, ◌∙◌, [], ap, subst, sym, arith, get_or, length, map, rules, List}
use Rattle.std.proofs.Common.{to_z, of_z, ◌<◌}
use Rattle.std.specs.Int.{w128}
use Rattle.std.specs.List.{list_all}
use Rattle.std.proofs.Math.ListN.{get_or-map}
use Rattle.std.proofs.lemmas.Int.{to_z-of_z}
use Rattle.std.proofs.lemmas.List.{get_or_default, length-map}
use Rattle.plant_model.specs.Rings.{origin}
use Rattle.plant_model.specs.declared.limits.TheConstants.{FARTHEST_LEVER}
use Rattle.plant_model.specs.declared.parts.Thruster.{Thruster}
use Rattle.plant_model.specs.declared.plant.Parts.{Parts}
use Rattle.plant_model.specs.declared.thrust.Pieces.{Pieces}
use Rattle.plant_model.specs.declared.thrust.Point.{Point}
use Rattle.thrust_region.specs.Pieces.{all_points, is_thrust}
use Rattle.wrench_geometry.specs.Chosen.{levers_of}
use Rattle.wrench_geometry.specs.Wrenches.{IsPointWithin}
use Rattle.wrench_geometry.proofs.Limits.{lever_within, points_within}
use Rattle.feasibility.specs.Spreads.{reach_of}
use Rattle.feasibility.proofs.subtrees.reach_of_piece.Goals as goal

pub reach-requires-clause-lever : goal.reach-requires-clause-lever
reach-requires-clause-lever c =
    let plant = c.args.plant.now in
    let t = c.index-deref-place.result in
    let items : c.deref.result.now ≡ plant.thrusters.items =
    c.deref.ensures.0 ∙ ap (λ (p : Parts). p.thrusters.items) c.parts.ensures.parts in
    subst (λ (l : List Thruster). IsPointWithin FARTHEST_LEVER (get_or l c.args.place t).lever)
    (sym items) (lever_within plant c.parts.ensures.fit c.args.place t c.requires.place)

pub reach-requires-clause-points : goal.reach-requires-clause-points
reach-requires-clause-points c =
    points_within c.as_slice.result.now
    (ap (list_all is_thrust) c.as_slice.ensures.value ∙ c.piece-piece.ensures.within)

pub returns-clause-value : goal.returns-clause-value
returns-clause-value c =
    let plant = c.args.plant.now in
    let place = c.args.place in
    let w = c.args.w in
    let t = c.index-deref-place.result in
    let r = c.index-deref-place-2.result in
    let thrusters = plant.thrusters.items in
    let regions = c.args.regions.now.list.items in
    let levers = levers_of plant in
    let lists = map all_points regions in
    let items : c.deref.result.now ≡ thrusters =
    c.deref.ensures.0 ∙ ap (λ (p : Parts). p.thrusters.items) c.parts.ensures.parts in
    let there : place < length levers =
    omega (arith, length-map thrusters (λ (x : Thruster). x.lever), c.requires.place) in
    let here : place < length lists =
    omega (arith, length-map regions all_points, c.requires.place, c.requires.region_each) in
    let lever : (get_or c.deref.result.now place t).lever ≡ get_or levers place origin =
    ap (λ (l : List Thruster). (get_or l place t).lever) items
    ∙ sym (get_or-map (λ (x : Thruster). x.lever) thrusters place t)
    ∙ get_or_default levers place t.lever origin there in
    let region : all_points r ≡ get_or lists place [] =
    ap all_points (c.index-deref-place-2.is
    ∙ ap (λ (l : List Pieces). get_or l place r) c.deref-2.ensures.0)
    ∙ sym (get_or-map all_points regions place r)
    ∙ get_or_default lists place (all_points r) [] here in
    let points : c.as_slice.result.now ≡ get_or (get_or lists place []) c.args.piece [] =
    c.as_slice.ensures.value ∙ c.piece-piece.ensures.points
    ∙ ap (λ (l : List (List Point)). get_or l c.args.piece []) region in
    let whole : to_z w128 (of_z w128 c.reach.result) ≡ c.reach.result =
    to_z-of_z w128 _ (search rules) in
    whole ∙ c.reach.ensures.value
    ∙ ap (λ (l : Point). reach_of w l c.as_slice.result.now) lever
    ∙ ap (reach_of w (get_or levers place origin)) points
