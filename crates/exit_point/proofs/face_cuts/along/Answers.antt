use Rattle.int_ring.proofs.Machine.{fits, strip, machine}
use Rattle.exit_point.proofs.face_cuts.along.Goals as goal

pub overflow_mul-result : goal.overflow_mul-result
overflow_mul-result c = fits (search machine depth 40) tt

pub overflow_mul-result-2 : goal.overflow_mul-result-2
overflow_mul-result-2 c = fits (search machine depth 40) tt

pub overflow_add-result : goal.overflow_add-result
overflow_add-result c = fits (search machine depth 40) tt

pub overflow_mul-result-3 : goal.overflow_mul-result-3
overflow_mul-result-3 c = fits (search machine depth 40) tt

pub overflow_add-result-2 : goal.overflow_add-result-2
overflow_add-result-2 c = fits (search machine depth 40) tt

pub returns : goal.returns
returns c = strip (search machine depth 40) tt
