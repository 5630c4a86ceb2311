use Rattle.plant_book.specs.Books.{IsOf}
use Rattle.book_tests.proofs.two_threads.acknowledge_all.Given as goal

abbrev pub invariant-loop-number : goal.invariant-loop-number
invariant-loop-number g l = IsOf l.book l.pass
