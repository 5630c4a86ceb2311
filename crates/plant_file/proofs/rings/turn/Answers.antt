-- Products of numbers of 64 bits fit twice as many.
use Rattle.std.proofs.Common.{SFits, w64, rules}
use Rattle.int_ring.proofs.Machine.{fits, strip, machine}
use Rattle.plant_file.proofs.rings.turn.Goals as goal

pub overflow_sub-result : goal.overflow_sub-result
overflow_sub-result c =
    let ax : SFits w64 c.args.ax = search rules in
    let ay : SFits w64 c.args.ay = search rules in
    let bx : SFits w64 c.args.bx = search rules in
    let by_ : SFits w64 c.args.by = search rules in
    fits (search machine depth 40) tt

pub returns : goal.returns
returns c =
    let ax : SFits w64 c.args.ax = search rules in
    let ay : SFits w64 c.args.ay = search rules in
    let bx : SFits w64 c.args.bx = search rules in
    let by_ : SFits w64 c.args.by = search rules in
    strip (search machine depth 40) tt
