use Rattle.std.proofs.Common.{SFits, w32, w64, rules}
use Rattle.int_ring.proofs.Machine.{machine, strip}
use Rattle.wrench_geometry.proofs.Bounds.{within}
use Rattle.feasibility.proofs.mean.part.Goals as goal

pub returns-clause-x : goal.returns-clause-x
returns-clause-x c =
    let w : SFits w64 c.args.weight = search rules in
    let p : SFits w32 c.args.point.x = search rules in
    strip (search machine depth 40 fits 5000) tt

pub returns-clause-y : goal.returns-clause-y
returns-clause-y c =
    let w : SFits w64 c.args.weight = search rules in
    let p : SFits w32 c.args.point.y = search rules in
    strip (search machine depth 40 fits 5000) tt

pub returns-clause-within : goal.returns-clause-within
returns-clause-within c =
    let w : SFits w64 c.args.weight = search rules in
    let p : SFits w32 c.args.point.x = search rules in
    let r : SFits w32 c.args.point.y = search rules in
    record {
      x = within (search machine depth 40 fits 5000) tt;
      y = within (search machine depth 40 fits 5000) tt;
    }
