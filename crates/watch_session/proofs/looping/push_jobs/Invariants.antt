-- The pass stays one of the queue.
use Rattle.std.proofs.Common.{◌≡◌}
use Rattle.watch_session.proofs.looping.push_jobs.Given as goal

abbrev pub invariant-loop-group : goal.invariant-loop-group
invariant-loop-group g l = l.own.queue ≡ l.shared.jobs.now
