use Rattle.exit_point.proofs.Farthest.{OriginSoFar}
use Rattle.exit_point.proofs.orders.origin.Given as goal

abbrev pub invariant-loop-images : goal.invariant-loop-images
invariant-loop-images l = OriginSoFar l.images-items l.images-index l.places.items
