use Rattle.separation.proofs.DirectionLists.{axes_pushed, axes_span}
use Rattle.separation.proofs.directions.Directions.axes.Goals as goal

pub returns-clause-span : goal.returns-clause-span
returns-clause-span c = axes_span _
    (axes_pushed c.new.ensures c.push.ensures c.push-2.ensures c.push-3.ensures)
