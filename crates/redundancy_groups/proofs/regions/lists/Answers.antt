use Rattle.std.proofs.Common.{◌≡◌, ◌∙◌, ◌≤◌, List, length, get_or, ap, sym, subst, true, false}
use Rattle.std.proofs.Common.{map, arith}
use Rattle.std.specs.List.{enumerate_from, list_all}
use Rattle.plant_model.specs.declared.limits.TheConstants.{MOST_SECTIONS}
use Rattle.plant_model.specs.declared.parts.Thruster.{Thruster}
use Rattle.plant_model.specs.declared.plant.Parts.{Parts}
use Rattle.plant_model.specs.declared.status.Standing.{Standing}
use Rattle.plant_model.specs.Plants.{is_thruster}
use Rattle.bus_topology.specs.Islands.{IsLive}
use Rattle.thrust_region.specs.Pieces.{all_points, are_thrusts}
use Rattle.thrust_region.proofs.Lists.{all_at, all_more, map_more}
use Rattle.redundancy_groups.specs.Surviving.{pieces_at}
use Rattle.redundancy_groups.proofs.Fed.{fed}
use Rattle.redundancy_groups.proofs.Numbered.{made_more, made_when_taken}
use Rattle.redundancy_groups.proofs.Plants.{thrusters_fit}
use Rattle.redundancy_groups.proofs.regions.lists.Goals as goal

pub pieces_at-requires-clause-thruster : goal.pieces_at-requires-clause-thruster
pieces_at-requires-clause-thruster c =
    let p = c.args.plant.now in
    let t = c.thruster-item.result in
    let same : c.as_slice-thruster-items.result.now ≡ p.thrusters.items =
    c.as_slice-thruster-items.ensures.value
    ∙ ap (λ (q : Parts). q.thrusters.items) c.parts.ensures.parts in
    let is : t ≡ get_or p.thrusters.items c.loop-place.place t = c.thruster-item.is
    ∙ ap (λ (l : List Thruster). get_or l c.loop-place.place t) same in
    ap is_thruster is
    ∙ all_at is_thruster p.thrusters.items c.loop-place.place t (omega (arith, ap length same))
    (thrusters_fit p c.parts.ensures.fit)

pub pieces_at-requires-clause-fed : goal.pieces_at-requires-clause-fed
pieces_at-requires-clause-fed c =
    let p = c.args.plant.now in
    let t = c.thruster-item.result in
    let i = c.loop-place.place in
    let same : c.as_slice-thruster-items.result.now ≡ p.thrusters.items =
    c.as_slice-thruster-items.ensures.value
    ∙ ap (λ (q : Parts). q.thrusters.items) c.parts.ensures.parts in
    let is : t ≡ get_or p.thrusters.items i t = c.thruster-item.is
    ∙ ap (λ (l : List Thruster). get_or l i t) same in
    let few : length p.sections.items ≤ MOST_SECTIONS = c.few_sections.ensures in
    subst (λ (s : Standing). get_or s.selected i false ≡ true → IsLive p s t.section)
    (sym c.requires)
    (fed p c.args.status.now c.args.loss few i t
    (omega (arith, c.as_slice-thruster-items.ensures.fits)) (omega (arith, ap length same)) is)

pub loop-place-preserved : goal.loop-place-preserved
loop-place-preserved c =
    let p = c.args.plant.now in
    let t = c.thruster-item.result in
    let i = c.loop-place.place in
    let same : c.as_slice-thruster-items.result.now ≡ p.thrusters.items =
    c.as_slice-thruster-items.ensures.value
    ∙ ap (λ (q : Parts). q.thrusters.items) c.parts.ensures.parts in
    let is : t ≡ get_or p.thrusters.items i t = c.thruster-item.is
    ∙ ap (λ (l : List Thruster). get_or l i t) same in
    let more =
    map_more all_points c.push.new.self.items c.loop-place.lists.items c.pieces_at.result
    c.push.ensures.items in
    record {
      counted = omega (arith, c.push.ensures.len, c.loop-place.invariant.counted);
      made = made_more (pieces_at p c.args.standing.now c.args.status.now.barred) p.thrusters.items
          i (map all_points c.loop-place.lists.items) (map all_points c.push.new.self.items) t
          (all_points c.pieces_at.result)
          (omega (arith, ap length same)) is c.pieces_at.ensures.value more
          c.loop-place.invariant.made;
      within = ap (list_all are_thrusts) more
          ∙ all_more are_thrusts (map all_points c.loop-place.lists.items)
          (all_points c.pieces_at.result) c.loop-place.invariant.within c.pieces_at.ensures.within;
    }

pub returns-clause-value : goal.returns-clause-value
returns-clause-value c =
    let p = c.args.plant.now in
    let same : c.as_slice-thruster-items.result.now ≡ p.thrusters.items =
    c.as_slice-thruster-items.ensures.value
    ∙ ap (λ (q : Parts). q.thrusters.items) c.parts.ensures.parts in
    made_when_taken (pieces_at p c.args.standing.now c.args.status.now.barred) p.thrusters.items
    c.loop-place.place (map all_points c.loop-place.lists.items)
    (omega (arith, ap length same)) c.loop-place.invariant.made
    ∙ ap (λ (s : Standing). map (pieces_at p s c.args.status.now.barred)
    (enumerate_from 0 p.thrusters.items)) c.requires
