-- Both numbers are short, whatever they are.
use Rattle.std.proofs.Common.{rules}
use Rattle.log_text.proofs.CommandBodies.{part-fraction}
use Rattle.log_text.proofs.command.push_part.Goals as goal

pub returns-clause-short : goal.returns-clause-short
returns-clause-short c = part-fraction c.args.part.now (search rules) (search rules)
