-- The margins of the groups so far.
use Rattle.capability_report.proofs.Limits.{MarginsBelow}
use Rattle.capability_report.proofs.margins.margins_of.Given as goal

abbrev pub invariant-loop-group : goal.invariant-loop-group
invariant-loop-group l = MarginsBelow l.plant l.demand l.group l.groups.items
