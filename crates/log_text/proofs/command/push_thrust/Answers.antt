-- Both components are short, whatever they are.
use Rattle.std.proofs.Common.{rules}
use Rattle.log_text.proofs.CommandBodies.{part-thrust}
use Rattle.log_text.proofs.command.push_thrust.Goals as goal

pub returns-clause-short : goal.returns-clause-short
returns-clause-short c = part-thrust c.args.thrust.now (search rules) (search rules)
