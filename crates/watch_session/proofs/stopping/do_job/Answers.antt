-- A verdict is a published one, or there was no memory for it.
use Rattle.watch_session.proofs.Publishing.{publishes-answer}
use Rattle.watch_session.proofs.stopping.do_job.Goals as goal

pub returns-then-group-len-clause-published : goal.returns-then-group-len-clause-published
returns-then-group-len-clause-published g c =
    publishes-answer _ _ _ _ _ c.publish_verdict-published.ensures.verdict
    c.publish_verdict-published.ensures.kept
