use Rattle.std.proofs.Common.{◌≡◌, ◌∙◌, ap, subst, sym, true, ◌<◌, List, length, map, get_or, arith}
use Rattle.std.proofs.Math.ListN.{get_or-map}
use Rattle.std.proofs.lemmas.List.{length-map}
use Rattle.std.specs.List.{list_all}
use Rattle.plant_model.specs.declared.limits.TheConstants.{FARTHEST_LEVER}
use Rattle.plant_model.specs.declared.parts.Thruster.{Thruster}
use Rattle.plant_model.specs.declared.plant.Parts.{Parts}
use Rattle.plant_model.specs.declared.thrust.Piece.{Piece}
use Rattle.thrust_region.proofs.Lists.{all_at}
use Rattle.thrust_region.specs.Pieces.{is_thrust, points_of}
use Rattle.wrench_geometry.specs.Wrenches.{IsPointWithin}
use Rattle.wrench_geometry.proofs.Limits.{lever_within, points_within}
use Rattle.wrench_geometry.proofs.chosen.sums_of.Goals as goal

pub at-images-requires-clause-lever : goal.at-images-requires-clause-lever
at-images-requires-clause-lever c =
    let plant = c.args.plant.now in
    let t = c.index-thrusters-i.result in
    let items : c.as_slice-thrusters.result.now ≡ plant.thrusters.items =
    c.as_slice-thrusters.ensures.value
    ∙ ap (λ (p : Parts). p.thrusters.items) c.parts.ensures.parts in
    let is : t ≡ get_or plant.thrusters.items c.loop-i.i t = c.index-thrusters-i.is
    ∙ ap (λ (l : List Thruster). get_or l c.loop-i.i t) items in
    let there : c.loop-i.i < length plant.thrusters.items = omega (arith, ap length items) in
    subst (λ (t : Thruster). IsPointWithin FARTHEST_LEVER t.lever) (sym is)
    (lever_within plant c.parts.ensures.fit c.loop-i.i t there)

pub at-images-requires-clause-points : goal.at-images-requires-clause-points
at-images-requires-clause-points c =
    let chosen = c.args.chosen.now in
    let p = c.index-pieces-i.result in
    let i = c.loop-i.i in
    let items : c.as_slice-thrusters.result.now ≡ c.args.plant.now.thrusters.items =
    c.as_slice-thrusters.ensures.value
    ∙ ap (λ (p : Parts). p.thrusters.items) c.parts.ensures.parts in
    let there : i < length (map points_of chosen.pieces.items) =
    omega (arith, length-map chosen.pieces.items points_of, ap length items, c.requires) in
    let points : c.as_slice.result.now ≡ get_or (map points_of chosen.pieces.items) i
    (points_of p) = c.as_slice.ensures.value
    ∙ ap (λ (l : List Piece). points_of (get_or l i p)) c.as_slice-pieces.ensures.value
    ∙ sym (get_or-map points_of chosen.pieces.items i p) in
    let test : list_all is_thrust c.as_slice.result.now ≡ true = ap (list_all is_thrust) points
    ∙ all_at (list_all is_thrust) (map points_of chosen.pieces.items) i
    (points_of p) there chosen.within in
    points_within c.as_slice.result.now test
