use Rattle.std.proofs.Common.{SFits, w32, rules}
use Rattle.int_ring.proofs.Machine.{fits, strip, machine}
use Rattle.wrench_geometry.proofs.Bounds.{within}
use Rattle.redundancy_groups.proofs.Loads.{same_load}
use Rattle.redundancy_groups.proofs.fixed.load_at.Goals as goal

pub overflow_sub-result : goal.overflow_sub-result
overflow_sub-result c =
    let x : SFits w32 c.args.thrust.x = search rules in
    let y : SFits w32 c.args.thrust.y = search rules in
    fits (search machine depth 40 fits 5000) tt

pub returns-clause-value : goal.returns-clause-value
returns-clause-value c =
    let x : SFits w32 c.args.thrust.x = search rules in
    let y : SFits w32 c.args.thrust.y = search rules in
    same_load (strip (search machine depth 40 fits 5000) tt)
    (strip (search machine depth 40 fits 5000) tt) (strip (search machine depth 40 fits 5000) tt)

pub returns-clause-within : goal.returns-clause-within
returns-clause-within c =
    let x : SFits w32 c.args.thrust.x = search rules in
    let y : SFits w32 c.args.thrust.y = search rules in
    record {
      x = within (search machine depth 40 fits 5000) tt;
      y = within (search machine depth 40 fits 5000) tt;
      n = within (search machine depth 40 fits 5000) tt;
    }
