-- One margin more, and all of them.
use Rattle.std.proofs.Common.{◌≡◌, arith, length, subst, sym}
use Rattle.plant_model.specs.declared.status.Loss.TheVariants.{Group, Intact}
use Rattle.capability_report.proofs.Limits.{MarginsBelow, margin-at, no-margins, one-margin-more}
use Rattle.capability_report.proofs.margins.margins_of.Goals as goal

pub loop-group-init : goal.loop-group-init
loop-group-init c =
    subst (MarginsBelow c.args.plant.now c.args.demand 0) (sym c.new-groups.ensures)
    (no-margins c.args.plant.now c.args.demand)

pub loop-group-preserved : goal.loop-group-preserved
loop-group-preserved c =
    let plant = c.args.plant.now in
    let margin = c.reserve in
    let opening = c.opening in
    one-margin-more plant c.args.demand c.loop-group.group c.loop-group.groups.items
    c.push.new.self.items (record { margin = margin.result }) c.push.ensures.items
    (margin-at plant opening.result.now c.args.demand (Group c.loop-group.group) margin.result
    opening.ensures margin.ensures) c.loop-group.invariant

pub returns : goal.returns
returns c =
    let below = c.loop-group.invariant in
    let same : length c.groups.result.now.items ≡ length c.args.plant.now.groups.items = cc in
    record {
      intact = margin-at c.args.plant.now c.opening-2.result.now c.args.demand Intact c.reserve-2.result
          c.opening-2.ensures c.reserve-2.ensures;
      one_each = omega (arith, below.count_is, same);
      each = below.each;
    }
