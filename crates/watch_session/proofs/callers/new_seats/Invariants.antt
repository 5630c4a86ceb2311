-- As many seats as rounds, of passes with the root's numbers.
use Rattle.std.proofs.Common.{◌≡◌, ◌≤◌, length, vec_capacity}
use Rattle.plant_book.specs.Books.{IsOf}
use Rattle.watch_session.specs.Crews.{AreNewFrom, AreSeatsOf, with_seats}
use Rattle.watch_session.proofs.callers.new_seats.Given as goal

abbrev pub invariant-loop-worker : goal.invariant-loop-worker
invariant-loop-worker g l = record {
  of : IsOf l.shared.book.now l.root;
  own : l.own.queue ≡ l.shared.jobs.now;
  root : l.root ≡ with_seats l.fn.root l._worker;
  seats : AreSeatsOf l.shared.book.now l.shared.jobs.now l.seats.items;
  new : AreNewFrom l.fn.root.shown.next l.seats.items;
  count : length l.seats.items ≡ l._worker;
  capacity : l.workers ≤ vec_capacity l.seats;
}
