use Rattle.dp_sessions.proofs.Losses.{VerdictsBelow}
use Rattle.dp_sessions.proofs.findings.losses_of.Given as goal

abbrev pub invariant-loop-number : goal.invariant-loop-number
invariant-loop-number l = VerdictsBelow l.plant l.demand l.number l.outcomes.items
