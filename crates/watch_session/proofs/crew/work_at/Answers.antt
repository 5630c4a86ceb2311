-- A worker's entries are published verdicts.
use Rattle.watch_session.proofs.Publishing.{publishes-works}
use Rattle.watch_session.proofs.crew.work_at.Goals as goal

pub returns : goal.returns
returns g c = publishes-works _ _ _ c.work-whether_it_stopped.ensures.works
