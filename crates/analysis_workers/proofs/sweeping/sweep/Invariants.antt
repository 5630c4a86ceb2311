-- The cells of the groups so far are current.
use Rattle.plant_book.specs.Books.{IsOf}
use Rattle.analysis_workers.proofs.Swept.{SweptBelow}
use Rattle.analysis_workers.proofs.sweeping.sweep.Given as goal

abbrev pub invariant-loop-group : goal.invariant-loop-group
invariant-loop-group g l = record {
  swept : SweptBelow l.fn.root l.root l.group;
  of : IsOf l.book l.root;
}
