-- A position that isn't late is answered by a command.
use Rattle.std.proofs.Common.{sym, ◌∙◌}
use Rattle.plant_core.proofs.Commands.{reply-commanded}
use Rattle.plant_core.proofs.sensing.position.Goals as goal

pub returns-clause-reply : goal.returns-clause-reply
returns-clause-reply g c =
    reply-commanded c.args.plant.now c.args.state.now c.args.moment c.args.at c.sensed-next.result
    (record {
      number = c.latest.inside.number;
      status = c.latest.inside.status;
      demand = c.latest.inside.demand;
    }) c.allocate.result (sym c.late.ensures ∙ c.in_default.is)
    c.sensed-next.ensures.state (c.latest.view_is ∙ c.latest_for-latest.ensures) c.allocate.ensures
