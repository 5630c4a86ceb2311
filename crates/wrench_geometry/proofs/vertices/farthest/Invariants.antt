use Rattle.wrench_geometry.proofs.VertexSums.{SumSoFar}
use Rattle.wrench_geometry.proofs.vertices.farthest.Given as goal

abbrev pub invariant-loop-images : goal.invariant-loop-images
invariant-loop-images l = SumSoFar l.w l.images-items l.images-index l.places.items l.point
