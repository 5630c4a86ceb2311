use Rattle.std.proofs.Common.{List, ap, ◌∙◌}
use Rattle.plant_model.specs.declared.controller.WindRow.{WindRow}
use Rattle.wind_axes.specs.Wind.{wind_load}
use Rattle.capability.specs.Paths.{less}
use Rattle.capability.proofs.Paths.{one_demand_more}
use Rattle.capability.proofs.speeds.path.Goals as goal

pub loop-speed-preserved : goal.loop-speed-preserved
loop-speed-preserved c =
    let speed = c.loop-speed.speed in
    let angle = c.args.angle in
    let base = c.args.base in
    one_demand_more c.args.plant.now base angle speed c.loop-speed.path.items c.push.new.self.items
    c.in-Some.demand c.push.ensures.items
    (c.in-Some.ensures.some.0
    ∙ ap (less base) (c.wind_force.ensures
    ∙ ap (λ (table : List WindRow). wind_load table speed angle) c.wind.ensures))
    c.in-Some.ensures.some.1 c.loop-speed.invariant
