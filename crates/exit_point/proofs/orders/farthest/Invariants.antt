use Rattle.exit_point.proofs.Farthest.{FarthestSoFar}
use Rattle.exit_point.proofs.orders.farthest.Given as goal

abbrev pub invariant-loop-images : goal.invariant-loop-images
invariant-loop-images l = FarthestSoFar l.order l.images-items l.images-index l.places.items l.point
