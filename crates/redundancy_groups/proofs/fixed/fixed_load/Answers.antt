use Rattle.std.proofs.Common.{◌≡◌, ◌∙◌, ◌+◌, ◌<◌, ap, ap₂, subst, sym, List, length, map, get_or}
use Rattle.std.proofs.Common.{arith}
use Rattle.std.proofs.Math.ListN.{get_or-map}
use Rattle.std.proofs.lemmas.List.{get_or_default, length-map}
use Rattle.int_ring.proofs.Laws.{linear}
use Rattle.plant_model.specs.declared.limits.TheConstants.{FARTHEST_LEVER}
use Rattle.plant_model.specs.declared.parts.Thruster.{Thruster}
use Rattle.plant_model.specs.declared.plant.Parts.{Parts}
use Rattle.plant_model.specs.declared.thrust.Point.{Point}
use Rattle.plant_model.specs.Rings.{origin}
use Rattle.wrench_geometry.specs.Wrenches.{IsPointWithin}
use Rattle.wrench_geometry.proofs.Limits.{lever_within}
use Rattle.redundancy_groups.specs.Loads.{load_of}
use Rattle.redundancy_groups.specs.declared.fixed.TheConstants.{MOST_FIXED_LOAD, MOST_TOTAL}
use Rattle.redundancy_groups.proofs.Loads.{IsLoadSoFar, load_more, load_when_taken}
use Rattle.redundancy_groups.proofs.Loads.{load_within_wider}
use Rattle.redundancy_groups.proofs.fixed.fixed_load.Goals as goal

pub load_at-requires : goal.load_at-requires
load_at-requires c =
    let plant = c.args.plant.now in
    let t = c.index-thrusters-place.result in
    let i = c.loop-place.place in
    let items : c.as_slice-thrusters.result.now ≡ plant.thrusters.items =
    c.as_slice-thrusters.ensures.value
    ∙ ap (λ (p : Parts). p.thrusters.items) c.parts.ensures.parts in
    let is : t ≡ get_or plant.thrusters.items i t = c.index-thrusters-place.is
    ∙ ap (λ (l : List Thruster). get_or l i t) items in
    let there : i < length plant.thrusters.items = omega (arith, ap length items) in
    subst (λ (t : Thruster). IsPointWithin FARTHEST_LEVER t.lever) (sym is)
    (lever_within plant c.parts.ensures.fit i t there)

pub sum-total-requires-clause-a : goal.sum-total-requires-clause-a
sum-total-requires-clause-a c =
    load_within_wider _ MOST_TOTAL c.loop-place.total
    (omega (arith, linear, c.as_slice-thrusters.ensures.fits)) c.loop-place.invariant.within

pub loop-place-preserved : goal.loop-place-preserved
loop-place-preserved c =
    let thrusters = c.as_slice-thrusters.result.now in
    let fixed = c.as_slice-fixed.result.now in
    let i = c.loop-place.place in
    let t = c.index-thrusters-place.result in
    let thrust : Point = get_or fixed i origin in
    let levers = map (λ (x : Thruster). x.lever) thrusters in
    let items : thrusters ≡ c.args.plant.now.thrusters.items = c.as_slice-thrusters.ensures.value
    ∙ ap (λ (p : Parts). p.thrusters.items) c.parts.ensures.parts in
    let there : i < length levers =
    omega (arith, length-map thrusters (λ (x : Thruster). x.lever)) in
    let here : i < length fixed =
    omega (
      arith,
      c.requires.fixed,
      ap length items,
      ap length c.as_slice-fixed.ensures.value,
    ) in
    let is_lever : t.lever ≡ get_or levers i t.lever =
    ap (λ (x : Thruster). x.lever) c.index-thrusters-place.is
    ∙ sym (get_or-map (λ (x : Thruster). x.lever) thrusters i t) in
    let is_thrust : thrust ≡ get_or fixed i thrust = get_or_default fixed i origin thrust here in
    subst (IsLoadSoFar levers fixed (i + 1)) (sym c.sum-total.ensures)
    (load_more levers fixed i c.loop-place.total c.load_at.result t.lever thrust there here is_lever
    is_thrust c.load_at.ensures.value c.load_at.ensures.within c.loop-place.invariant)

pub returns-clause-value : goal.returns-clause-value
returns-clause-value c =
    let thrusters = c.as_slice-thrusters.result.now in
    let items : thrusters ≡ c.args.plant.now.thrusters.items = c.as_slice-thrusters.ensures.value
    ∙ ap (λ (p : Parts). p.thrusters.items) c.parts.ensures.parts in
    load_when_taken (map (λ (x : Thruster). x.lever) thrusters) c.as_slice-fixed.result.now
    c.loop-place.place c.loop-place.total
    (omega (arith, length-map thrusters (λ (x : Thruster). x.lever))) c.loop-place.invariant
    ∙ ap₂ load_of (ap (λ (l : List Thruster). map (λ (x : Thruster). x.lever) l) items)
    c.as_slice-fixed.ensures.value

pub returns-clause-within : goal.returns-clause-within
returns-clause-within c =
    load_within_wider _ MOST_FIXED_LOAD c.loop-place.total
    (omega (arith, linear, c.as_slice-thrusters.ensures.fits)) c.loop-place.invariant.within
