use Rattle.int_ring.proofs.Machine.{fits, strip, machine}
use Rattle.exit_point.proofs.face_cuts.part_past.Goals as goal

pub overflow_sub-result : goal.overflow_sub-result
overflow_sub-result c = fits (search machine depth 40 fits 5000) tt

pub returns : goal.returns
returns c = strip (search machine depth 40 fits 5000) tt
