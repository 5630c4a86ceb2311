-- The root can finish once both streams were taken.
use Rattle.watch_session.proofs.Finishing.{can-watched}
use Rattle.watch_session.proofs.session.watch_over.Goals as goal

pub returns-clause-ready : goal.returns-clause-ready
returns-clause-ready g c = can-watched c.args.workers c.watch_with.result _ _ _ c.watch_with.new.root
    c.watch_with.ensures.watched
