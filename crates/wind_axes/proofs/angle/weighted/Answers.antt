use Rattle.int_ring.proofs.Machine.{fits, strip, machine}
use Rattle.wind_axes.proofs.angle.weighted.Goals as goal

pub overflow_add-sum : goal.overflow_add-sum
overflow_add-sum c = fits (search machine depth 40 fits 5000) tt

pub overflow_cast-result : goal.overflow_cast-result
overflow_cast-result c = fits (search machine depth 40 fits 5000) tt

pub returns : goal.returns
returns c = strip (search machine depth 40 fits 5000) tt
