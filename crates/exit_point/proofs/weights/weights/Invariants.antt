use Rattle.exit_point.proofs.ListRows.{RowsSoFar}
use Rattle.exit_point.proofs.weights.weights.Given as goal

abbrev pub invariant-loop-i : goal.invariant-loop-i
invariant-loop-i l = RowsSoFar l.shares l.sums l.i l.rows.items l.first.places.items
    l.second.places.items l.third.places.items
