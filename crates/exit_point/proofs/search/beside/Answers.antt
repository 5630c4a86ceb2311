use Rattle.exit_point.proofs.Spans.{short_of_opposite}
use Rattle.exit_point.proofs.search.beside.Goals as goal

pub farthest-corner-requires-2 : goal.farthest-corner-requires-2
farthest-corner-requires-2 c = rw c.opposite-behind.ensures
    (short_of_opposite c.across-ahead.result c.across-ahead.ensures)

pub product-requires-2-clause-short : goal.product-requires-2-clause-short
product-requires-2-clause-short c = rw c.opposite-behind.ensures
    (short_of_opposite c.across-ahead.result c.across-ahead.ensures)
