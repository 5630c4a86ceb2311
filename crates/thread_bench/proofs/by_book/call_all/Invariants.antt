use Rattle.plant_book.specs.Books.{IsOf}
use Rattle.thread_bench.proofs.by_book.call_all.Given as goal

abbrev pub invariant-loop : goal.invariant-loop
invariant-loop g l = IsOf l.book l.pass
