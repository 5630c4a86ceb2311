-- One summary of all histories of two streams.
use Rattle.drill_summary.proofs.Summed.{one-summary}
use Rattle.drill_summary.proofs.law.summaries_are_one.Goals as goal

pub returns : goal.returns
returns c = one-summary
