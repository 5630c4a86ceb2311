use Rattle.std.proofs.Common.{◌≡◌, ◌∙◌, ◌<◌, List, length, get_or, ap, arith}
use Rattle.plant_model.specs.declared.parts.Thruster.{Thruster}
use Rattle.redundancy_groups.specs.Surviving.{fixed_at}
use Rattle.redundancy_groups.proofs.Numbered.{made_more, made_when_taken}
use Rattle.redundancy_groups.proofs.regions.fixed_thrusts.Goals as goal

pub loop-place-preserved : goal.loop-place-preserved
loop-place-preserved c =
    let thrusters = c.args.parts.now.thrusters.items in
    let same : c.as_slice-thruster-items.result.now ≡ thrusters =
    c.as_slice-thruster-items.ensures.value in
    let i = c.loop-place.place in
    let t = c.thruster-item.result in
    let there : i < length thrusters = omega (arith, ap length same) in
    made_more (fixed_at c.args.parts.now c.args.status.now c.args.loss) thrusters i
    c.loop-place.fixed.items c.push.new.self.items t c.fixed_at.result there
    (c.thruster-item.is ∙ ap (λ (l : List Thruster). get_or l i t) same) c.fixed_at.ensures
    c.push.ensures.items c.loop-place.invariant

pub returns : goal.returns
returns c =
    let thrusters = c.args.parts.now.thrusters.items in
    made_when_taken (fixed_at c.args.parts.now c.args.status.now c.args.loss) thrusters
    c.loop-place.place c.loop-place.fixed.items
    (omega (arith, ap length c.as_slice-thruster-items.ensures.value)) c.loop-place.invariant
