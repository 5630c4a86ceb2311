-- The jobs that were taken so far are done.
use Rattle.std.proofs.Common.{◌≡◌}
use Rattle.plant_book.specs.Books.{IsOf}
use Rattle.analysis_workers.specs.Works.{IsDisplayOf, worker}
use Rattle.analysis_workers.proofs.Worked.{WorkedSoFar}
use Rattle.analysis_workers.proofs.working.work.Given as goal

abbrev pub invariant-loop : goal.invariant-loop
invariant-loop g l = record {
  so_far : WorkedSoFar (worker l.fn.pass l.fn.own l.fn.eyes) (worker l.pass l.own l.eyes);
  pass : IsOf l.book l.pass;
  own : l.own.queue ≡ l.jobs;
  eyes : IsDisplayOf l.book.base l.eyes;
}
