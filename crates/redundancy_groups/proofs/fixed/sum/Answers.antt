use Rattle.int_ring.proofs.Machine.{strip, machine}
use Rattle.redundancy_groups.proofs.Loads.{same_load}
use Rattle.redundancy_groups.proofs.fixed.sum.Goals as goal

pub returns : goal.returns
returns c = same_load (strip (search machine depth 40) tt) (strip (search machine depth 40) tt)
    (strip (search machine depth 40) tt)
