-- No job was taken yet.
use Rattle.std.proofs.Common.{◌≡◌}
use Rattle.analysis_workers.proofs.working.next_job.Given as goal

abbrev pub invariant-loop : goal.invariant-loop
invariant-loop g l = l.own ≡ l.fn.own
