use Rattle.std.proofs.Common.{arith}
use Rattle.std.proofs.lemmas.Int.{ints}
use Rattle.wrench_geometry.proofs.Bounds.{same_vector}
use Rattle.wrench_geometry.proofs.vector.opposite.Goals as goal

pub returns : goal.returns
returns c = same_vector (omega (arith, ints)) (omega (arith, ints)) (omega (arith, ints))
