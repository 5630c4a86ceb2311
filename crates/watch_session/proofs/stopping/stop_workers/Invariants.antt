-- The session's passes stay those of the book and of the queue, and what it publishes are verdicts.
use Rattle.std.proofs.Common.{◌≡◌}
use Rattle.plant_book.specs.Books.{IsOf}
use Rattle.watch_session.specs.Crews.{Publishes}
use Rattle.watch_session.proofs.stopping.stop_workers.Given as goal

abbrev pub invariant-loop : goal.invariant-loop
invariant-loop g l = record {
  of : IsOf l.shared.book.now l.root;
  own : l.own.queue ≡ l.shared.jobs.now;
  published : Publishes l.fn.root l.root;
}
