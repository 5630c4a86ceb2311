use Rattle.certificate.proofs.Shown.{holds_shows, lost_shows}
use Rattle.certificate.proofs.law.outcomes_tell.Goals as goal

pub returns-clause-holds : goal.returns-clause-holds
returns-clause-holds c = holds_shows

pub returns-clause-lost : goal.returns-clause-lost
returns-clause-lost c = lost_shows
