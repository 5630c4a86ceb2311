-- What the last command so far asks.
use Rattle.std.specs.Prelude.{◌≡◌, take}
use Rattle.drill_summary.specs.Summaries.{last_demand}
use Rattle.drill_summary.proofs.count.last_demand.Given as goal

abbrev pub invariant-loop-entry : goal.invariant-loop-entry
invariant-loop-entry l = l.last ≡ last_demand (take l.entry-index l.history)
