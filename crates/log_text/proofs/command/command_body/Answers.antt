-- The parts of the body, which are short.
use Rattle.std.proofs.Common.{string_bytes}
use Rattle.log_text.proofs.CommandBodies.{command_body-parts, is_body-command}
use Rattle.log_text.proofs.command.command_body.Goals as goal

pub returns-clause-value : goal.returns-clause-value
returns-clause-value c =
    command_body-parts c.args.moment c.args.version c.args.demand.now c.args.part.now
    (string_bytes c.in_ok-text.text) (string_bytes c.push_demand.new.text)
    (string_bytes c.push_part.new.text) c.in_ok-text.ensures c.in_ok-push_demand.ensures
    c.in_ok-push_part.ensures.value

pub returns-clause-body : goal.returns-clause-body
returns-clause-body c =
    rw (returns-clause-value c)
    (is_body-command c.args.moment c.args.version c.args.demand.now c.args.part.now
    c.ranges.moment.fits c.ranges.version.fits c.demand_is_short.ensures
    c.push_part.ensures.short)
