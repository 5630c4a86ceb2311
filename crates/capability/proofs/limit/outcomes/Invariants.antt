use Rattle.certificate.specs.Losses.{question_after}
use Rattle.capability.specs.Limits.{IsAnswer}
use Rattle.capability.proofs.Limits.{AreBelow}
use Rattle.capability.proofs.limit.outcomes.Given as goal

abbrev pub invariant-loop-group : goal.invariant-loop-group
invariant-loop-group l =
    AreBelow (λ loss. IsAnswer (question_after l.plant l.status loss l.demand)) l.group
    l.outcomes.items
