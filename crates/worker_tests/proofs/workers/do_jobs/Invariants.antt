use Rattle.std.proofs.Common.{◌≡◌}
use Rattle.worker_tests.proofs.workers.do_jobs.Given as goal

abbrev pub invariant-loop-job : goal.invariant-loop-job
invariant-loop-job g l = l.own.queue ≡ l.jobs
