use Rattle.std.proofs.Common.{SFits, w32, rules}
use Rattle.int_ring.proofs.Machine.{fits, strip, machine}
use Rattle.wrench_geometry.proofs.fans.side.Goals as goal

pub overflow_mul-result : goal.overflow_mul-result
overflow_mul-result c =
    let ax : SFits w32 c.args.a.x = search rules in
    let ay : SFits w32 c.args.a.y = search rules in
    let bx : SFits w32 c.args.b.x = search rules in
    let py : SFits w32 c.args.point.y = search rules in
    fits (search machine depth 60 fits 20000) tt

pub overflow_mul-result-2 : goal.overflow_mul-result-2
overflow_mul-result-2 c =
    let ax : SFits w32 c.args.a.x = search rules in
    let ay : SFits w32 c.args.a.y = search rules in
    let by_ : SFits w32 c.args.b.y = search rules in
    let px : SFits w32 c.args.point.x = search rules in
    fits (search machine depth 60 fits 20000) tt

pub overflow_sub-result-5 : goal.overflow_sub-result-5
overflow_sub-result-5 c =
    let ax : SFits w32 c.args.a.x = search rules in
    let ay : SFits w32 c.args.a.y = search rules in
    let bx : SFits w32 c.args.b.x = search rules in
    let by_ : SFits w32 c.args.b.y = search rules in
    let px : SFits w32 c.args.point.x = search rules in
    let py : SFits w32 c.args.point.y = search rules in
    fits (search machine depth 60 fits 20000) tt

pub returns : goal.returns
returns c =
    let ax : SFits w32 c.args.a.x = search rules in
    let ay : SFits w32 c.args.a.y = search rules in
    let bx : SFits w32 c.args.b.x = search rules in
    let by_ : SFits w32 c.args.b.y = search rules in
    let px : SFits w32 c.args.point.x = search rules in
    let py : SFits w32 c.args.point.y = search rules in
    strip (search machine depth 60 fits 20000) tt
