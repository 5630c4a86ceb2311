use Rattle.int_ring.proofs.Machine.{strip, machine}
use Rattle.wrench_geometry.proofs.Bounds.{same_vector}
use Rattle.wrench_geometry.proofs.vector.difference.Goals as goal

pub returns : goal.returns
returns c = same_vector (strip (search machine depth 40) tt) (strip (search machine depth 40) tt)
    (strip (search machine depth 40) tt)
