use Rattle.std.proofs.Common.{SFits, w32, w64, rules}
use Rattle.int_ring.proofs.Machine.{Strips, fits, strip, machine}
use Rattle.certificate.proofs.Reach.{bounded}
use Rattle.certificate.proofs.holds.rest_of.Goals as goal

pub overflow_sub-result : goal.overflow_sub-result
overflow_sub-result c =
    let q : SFits w64 c.args.q = search rules in
    let f : SFits w32 c.args.fixed.x = search rules in
    let x : Strips c.args.thrust.x = bounded c.requires.x in
    fits (search machine depth 40 fits 5000) tt

pub overflow_sub-result-2 : goal.overflow_sub-result-2
overflow_sub-result-2 c =
    let q : SFits w64 c.args.q = search rules in
    let f : SFits w32 c.args.fixed.y = search rules in
    let y : Strips c.args.thrust.y = bounded c.requires.y in
    fits (search machine depth 40 fits 5000) tt

pub returns-clause-x : goal.returns-clause-x
returns-clause-x c =
    let q : SFits w64 c.args.q = search rules in
    let f : SFits w32 c.args.fixed.x = search rules in
    let x : Strips c.args.thrust.x = bounded c.requires.x in
    strip (search machine depth 40 fits 5000) tt

pub returns-clause-y : goal.returns-clause-y
returns-clause-y c =
    let q : SFits w64 c.args.q = search rules in
    let f : SFits w32 c.args.fixed.y = search rules in
    let y : Strips c.args.thrust.y = bounded c.requires.y in
    strip (search machine depth 40 fits 5000) tt
