use Rattle.std.proofs.Common.{◌≡◌}
use Rattle.worker_tests.proofs.jobs.empty.Given as goal

abbrev pub invariant-loop-group : goal.invariant-loop-group
invariant-loop-group g l = l.pass.queue ≡ l.jobs
