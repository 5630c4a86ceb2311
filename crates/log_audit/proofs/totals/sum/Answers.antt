use Rattle.int_ring.proofs.Machine.{Strips, strip, machine}
use Rattle.wrench_geometry.proofs.Bounds.{bounded, same_vector}
use Rattle.log_audit.proofs.totals.sum.Goals as goal

pub returns : goal.returns
returns c =
    let tx : Strips c.args.total.x = bounded c.requires.total.x in
    let ty : Strips c.args.total.y = bounded c.requires.total.y in
    let tz : Strips c.args.total.z = bounded c.requires.total.z in
    let sx : Strips c.args.share.x = bounded c.requires.share.x in
    let sy : Strips c.args.share.y = bounded c.requires.share.y in
    let sz : Strips c.args.share.z = bounded c.requires.share.z in
    same_vector (strip (search machine depth 40) tt) (strip (search machine depth 40) tt)
    (strip (search machine depth 40) tt)
