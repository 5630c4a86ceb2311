use Rattle.std.proofs.Common.{SFits, w32, rules}
use Rattle.int_ring.proofs.Machine.{Strips, fits, strip, machine}
use Rattle.certificate.proofs.Reach.{bounded}
use Rattle.certificate.proofs.hull.along.Goals as goal

pub overflow_mul-result : goal.overflow_mul-result
overflow_mul-result c =
    let px : SFits w32 c.args.point.x = search rules in
    let x : Strips c.args.thrust.x = bounded c.requires.x in
    fits (search machine depth 40 fits 5000) tt

pub overflow_mul-result-2 : goal.overflow_mul-result-2
overflow_mul-result-2 c =
    let py : SFits w32 c.args.point.y = search rules in
    let y : Strips c.args.thrust.y = bounded c.requires.y in
    fits (search machine depth 40 fits 5000) tt

pub overflow_add-result : goal.overflow_add-result
overflow_add-result c =
    let px : SFits w32 c.args.point.x = search rules in
    let py : SFits w32 c.args.point.y = search rules in
    let x : Strips c.args.thrust.x = bounded c.requires.x in
    let y : Strips c.args.thrust.y = bounded c.requires.y in
    fits (search machine depth 40 fits 5000) tt

pub returns : goal.returns
returns c =
    let px : SFits w32 c.args.point.x = search rules in
    let py : SFits w32 c.args.point.y = search rules in
    let x : Strips c.args.thrust.x = bounded c.requires.x in
    let y : Strips c.args.thrust.y = bounded c.requires.y in
    strip (search machine depth 40 fits 5000) tt
