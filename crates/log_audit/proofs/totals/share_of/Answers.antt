use Rattle.int_ring.proofs.Machine.{Strips, fits, strip, machine}
use Rattle.wrench_geometry.proofs.Bounds.{bounded, same_vector, within}
use Rattle.log_audit.proofs.totals.share_of.Goals as goal

pub overflow_sub-result : goal.overflow_sub-result
overflow_sub-result c =
    let x : Strips c.args.thrust.x = bounded c.requires.taken.x in
    let y : Strips c.args.thrust.y = bounded c.requires.taken.y in
    fits (search machine depth 40 fits 5000) tt

pub returns-clause-value : goal.returns-clause-value
returns-clause-value c =
    let x : Strips c.args.thrust.x = bounded c.requires.taken.x in
    let y : Strips c.args.thrust.y = bounded c.requires.taken.y in
    same_vector (strip (search machine depth 40 fits 5000) tt)
    (strip (search machine depth 40 fits 5000) tt) (strip (search machine depth 40 fits 5000) tt)

pub returns-clause-within : goal.returns-clause-within
returns-clause-within c =
    let x : Strips c.args.thrust.x = bounded c.requires.taken.x in
    let y : Strips c.args.thrust.y = bounded c.requires.taken.y in
    record {
      x = within (search machine depth 40 fits 5000) tt;
      y = within (search machine depth 40 fits 5000) tt;
      z = within (search machine depth 40 fits 5000) tt;
    }
