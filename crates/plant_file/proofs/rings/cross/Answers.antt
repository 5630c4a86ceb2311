-- Products of coordinates of 32 bits fit.
use Rattle.std.proofs.Common.{SFits, w32, rules}
use Rattle.int_ring.proofs.Machine.{fits, strip, machine}
use Rattle.plant_file.proofs.rings.cross.Goals as goal

pub overflow_sub-result : goal.overflow_sub-result
overflow_sub-result c =
    let ax : SFits w32 c.args.a.x = search rules in
    let ay : SFits w32 c.args.a.y = search rules in
    let bx : SFits w32 c.args.b.x = search rules in
    let by_ : SFits w32 c.args.b.y = search rules in
    fits (search machine depth 40) tt

pub returns : goal.returns
returns c =
    let ax : SFits w32 c.args.a.x = search rules in
    let ay : SFits w32 c.args.a.y = search rules in
    let bx : SFits w32 c.args.b.x = search rules in
    let by_ : SFits w32 c.args.b.y = search rules in
    strip (search machine depth 40) tt
