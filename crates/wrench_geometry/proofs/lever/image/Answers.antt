use Rattle.int_ring.proofs.Machine.{fits, strip, machine}
use Rattle.wrench_geometry.proofs.Bounds.{same_vector, within}
use Rattle.wrench_geometry.proofs.lever.image.Goals as goal

pub overflow_sub-result : goal.overflow_sub-result
overflow_sub-result c = fits (search machine depth 40) tt

pub returns-clause-value : goal.returns-clause-value
returns-clause-value c = same_vector (strip (search machine depth 40) tt)
    (strip (search machine depth 40) tt) (strip (search machine depth 40) tt)

pub returns-clause-within : goal.returns-clause-within
returns-clause-within c =
    record {
      x = within (search machine depth 40) tt;
      y = within (search machine depth 40) tt;
      z =
          within (search machine depth 40) tt;
    }
