use Rattle.int_ring.proofs.Machine.{fits, machine}
use Rattle.wrench_geometry.proofs.Bounds.{same_vector}
use Rattle.wrench_geometry.proofs.Wraps.{crossed_is}
use Rattle.wrench_geometry.proofs.vector.cross.Goals as goal

pub overflow_mul-result : goal.overflow_mul-result
overflow_mul-result c = fits (search machine depth 40) tt

pub overflow_mul-result-2 : goal.overflow_mul-result-2
overflow_mul-result-2 c = fits (search machine depth 40) tt

pub overflow_sub-result : goal.overflow_sub-result
overflow_sub-result c = fits (search machine depth 40) tt

pub overflow_mul-result-3 : goal.overflow_mul-result-3
overflow_mul-result-3 c = fits (search machine depth 40) tt

pub overflow_mul-result-4 : goal.overflow_mul-result-4
overflow_mul-result-4 c = fits (search machine depth 40) tt

pub overflow_sub-result-2 : goal.overflow_sub-result-2
overflow_sub-result-2 c = fits (search machine depth 40) tt

pub overflow_mul-result-5 : goal.overflow_mul-result-5
overflow_mul-result-5 c = fits (search machine depth 40) tt

pub overflow_mul-result-6 : goal.overflow_mul-result-6
overflow_mul-result-6 c = fits (search machine depth 40) tt

pub overflow_sub-result-3 : goal.overflow_sub-result-3
overflow_sub-result-3 c = fits (search machine depth 40) tt

pub returns : goal.returns
returns c =
    let a = c.requires.a in
    let b = c.requires.b in
    same_vector (crossed_is _ _ _ _ a.y b.z a.z b.y) (crossed_is _ _ _ _ a.z b.x a.x b.z)
    (crossed_is _ _ _ _ a.x b.y a.y b.x)
