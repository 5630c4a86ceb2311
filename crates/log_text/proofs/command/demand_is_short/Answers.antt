-- The components are short, whatever they are.
use Rattle.std.proofs.Common.{rules}
use Rattle.log_text.proofs.CommandBodies.{part-wrench}
use Rattle.log_text.proofs.command.demand_is_short.Goals as goal

pub returns : goal.returns
returns c = part-wrench c.args.demand.now (search rules) (search rules) (search rules)
