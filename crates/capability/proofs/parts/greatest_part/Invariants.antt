use Rattle.certificate.specs.Outcomes.{question_of}
use Rattle.capability.specs.Reserves.{IsGreatestBelow}
use Rattle.capability.proofs.parts.greatest_part.Given as goal

abbrev pub invariant-loop-k : goal.invariant-loop-k
invariant-loop-k l = IsGreatestBelow (question_of l.plant l.regions l.demand) l.k l.greatest
