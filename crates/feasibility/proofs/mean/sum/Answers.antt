use Rattle.int_ring.proofs.Machine.{Strips, machine, strip}
use Rattle.wrench_geometry.proofs.Bounds.{bounded}
use Rattle.feasibility.proofs.mean.sum.Goals as goal

pub returns-clause-x : goal.returns-clause-x
returns-clause-x c =
    let t : Strips c.args.total.x = bounded c.requires.total.x in
    let p : Strips c.args.part.x = bounded c.requires.part.x in
    strip (search machine depth 40 fits 5000) tt

pub returns-clause-y : goal.returns-clause-y
returns-clause-y c =
    let t : Strips c.args.total.y = bounded c.requires.total.y in
    let p : Strips c.args.part.y = bounded c.requires.part.y in
    strip (search machine depth 40 fits 5000) tt
