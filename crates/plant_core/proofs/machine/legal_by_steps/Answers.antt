-- Histories by their last entries.
use Rattle.plant_core.proofs.Histories.{legal-front, legal-last, legal-push, stand_after-push}
use Rattle.plant_core.proofs.machine.legal_by_steps.Goals as goal

pub returns-clause-steps : goal.returns-clause-steps
returns-clause-steps c = λ plant limit history entry. (
  (λ legal. (
    legal-front plant limit history entry legal,
    legal-last plant limit history entry legal,
  )),
  (λ parts. legal-push plant limit history entry parts.0 parts.1),
)

pub returns-clause-stands : goal.returns-clause-stands
returns-clause-stands c = stand_after-push
