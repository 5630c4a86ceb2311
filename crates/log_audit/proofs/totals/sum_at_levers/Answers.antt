use Rattle.std.proofs.Common.{◌≡◌, ◌∙◌, ◌<◌, ap, subst, sym, List, length, map, get_or, arith}
use Rattle.std.proofs.Math.ListN.{get_or-map}
use Rattle.std.proofs.lemmas.List.{get_or_default, length-map}
use Rattle.plant_model.specs.declared.limits.TheConstants.{FARTHEST_LEVER}
use Rattle.plant_model.specs.declared.parts.Thruster.{Thruster}
use Rattle.plant_model.specs.declared.plant.Parts.{Parts}
use Rattle.plant_model.specs.declared.thrust.Thrust.{Thrust}
use Rattle.wrench_geometry.specs.Wrenches.{IsPointWithin}
use Rattle.wrench_geometry.proofs.Limits.{lever_within}
use Rattle.certificate.specs.Outcomes.{no_thrust, total_of}
use Rattle.certificate.specs.Sides.{place_of}
use Rattle.certificate.proofs.Together.{total_more, twelve_within, whole_total}
use Rattle.log_audit.proofs.Sums.{as_total}
use Rattle.log_audit.proofs.totals.sum_at_levers.Goals as goal

pub share_of-requires-clause-lever : goal.share_of-requires-clause-lever
share_of-requires-clause-lever c =
    let plant = c.args.plant.now in
    let t = c.index-thrusters-i.result in
    let i = c.loop-i.i in
    let items : c.as_slice-thrusters.result.now ≡ plant.thrusters.items =
    c.as_slice-thrusters.ensures.value
    ∙ ap (λ (p : Parts). p.thrusters.items) c.parts.ensures.parts in
    let is : t ≡ get_or plant.thrusters.items i t =
    c.index-thrusters-i.is ∙ ap (λ (l : List Thruster). get_or l i t) items in
    let there : i < length plant.thrusters.items = omega (arith, ap length items) in
    subst (λ (t : Thruster). IsPointWithin FARTHEST_LEVER t.lever) (sym is)
    (lever_within plant c.parts.ensures.fit i t there)

pub share_of-requires-clause-taken : goal.share_of-requires-clause-taken
share_of-requires-clause-taken c =
    let items : c.as_slice-thrusters.result.now ≡ c.args.plant.now.thrusters.items =
    c.as_slice-thrusters.ensures.value
    ∙ ap (λ (p : Parts). p.thrusters.items) c.parts.ensures.parts in
    c.requires.taken c.loop-i.i no_thrust (omega (arith, c.requires.one_each, ap length items))

pub sum-total-requires-clause-total : goal.sum-total-requires-clause-total
sum-total-requires-clause-total c =
    twelve_within c.loop-i.i (as_total c.loop-i.total) (omega (arith, c.as_slice-thrusters.ensures.fits))
    c.loop-i.invariant.within

pub loop-i-preserved : goal.loop-i-preserved
loop-i-preserved c =
    let thrusters = c.as_slice-thrusters.result.now in
    let thrusts = c.args.thrusts.now in
    let i = c.loop-i.i in
    let t = c.index-thrusters-i.result in
    let thrust : Thrust = get_or thrusts i no_thrust in
    let levers = map (λ (x : Thruster). x.lever) thrusters in
    let items : thrusters ≡ c.args.plant.now.thrusters.items =
    c.as_slice-thrusters.ensures.value
    ∙ ap (λ (p : Parts). p.thrusters.items) c.parts.ensures.parts in
    let there : i < length levers =
    omega (arith, length-map thrusters (λ (x : Thruster). x.lever)) in
    let here : i < length thrusts = omega (arith, c.requires.one_each, ap length items) in
    let is_lever : get_or levers i t.lever ≡ t.lever =
    get_or-map (λ (x : Thruster). x.lever) thrusters i t
    ∙ sym (ap (λ (x : Thruster). x.lever) c.index-thrusters-i.is) in
    let is_thrust : get_or thrusts i thrust ≡ thrust =
    sym (get_or_default thrusts i no_thrust thrust here) in
    total_more levers thrusts i t.lever thrust (as_total c.loop-i.total) (as_total c.share_of.result)
    (as_total c.sum-total.result)
    there here is_lever is_thrust c.share_of.ensures.value c.share_of.ensures.within
    c.sum-total.ensures c.loop-i.invariant

pub returns-clause-value : goal.returns-clause-value
returns-clause-value c =
    let thrusters = c.as_slice-thrusters.result.now in
    let items : thrusters ≡ c.args.plant.now.thrusters.items =
    c.as_slice-thrusters.ensures.value
    ∙ ap (λ (p : Parts). p.thrusters.items) c.parts.ensures.parts in
    whole_total (map (λ (x : Thruster). x.lever) thrusters) c.args.thrusts.now c.loop-i.i
    (as_total c.loop-i.total) (omega (arith, length-map thrusters (λ (x : Thruster). x.lever)))
    c.loop-i.invariant
    ∙ ap (λ (l : List Thruster). total_of (map (λ (x : Thruster). x.lever) l)
    (map place_of c.args.thrusts.now)) items

pub returns-clause-within : goal.returns-clause-within
returns-clause-within c =
    twelve_within c.loop-i.i (as_total c.loop-i.total) (omega (arith, c.as_slice-thrusters.ensures.fits))
    c.loop-i.invariant.within
