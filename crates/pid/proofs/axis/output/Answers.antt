use Rattle.std.proofs.Common.{rules, Fits, w32, pos, ◌^◌}
use Rattle.int_ring.proofs.Machine.{fits, strip, machine}
use Rattle.pid.proofs.Sizes.{within}
use Rattle.pid.proofs.axis.output.Goals as goal

pub overflow_mul-gains-2 : goal.overflow_mul-gains-2
overflow_mul-gains-2 c =
    let ki : Fits w32 c.args.gains.ki = search rules in
    fits (search machine depth 40 fits 5000) tt

pub overflow_add-result : goal.overflow_add-result
overflow_add-result c =
    let kp : Fits w32 c.args.gains.kp = search rules in
    let ki : Fits w32 c.args.gains.ki = search rules in
    fits (search machine depth 40 fits 5000) tt

pub overflow_mul-gains-3 : goal.overflow_mul-gains-3
overflow_mul-gains-3 c =
    let kd : Fits w32 c.args.gains.kd = search rules in
    fits (search machine depth 40 fits 5000) tt

pub overflow_add-result-2 : goal.overflow_add-result-2
overflow_add-result-2 c =
    let kp : Fits w32 c.args.gains.kp = search rules in
    let ki : Fits w32 c.args.gains.ki = search rules in
    let kd : Fits w32 c.args.gains.kd = search rules in
    fits (search machine depth 40 fits 5000) tt

pub returns-clause-value : goal.returns-clause-value
returns-clause-value c =
    let kp : Fits w32 c.args.gains.kp = search rules in
    let ki : Fits w32 c.args.gains.ki = search rules in
    let kd : Fits w32 c.args.gains.kd = search rules in
    strip (search machine depth 40 fits 5000) tt

pub returns-clause-within : goal.returns-clause-within
returns-clause-within c =
    let kp : Fits w32 c.args.gains.kp = search rules in
    let ki : Fits w32 c.args.gains.ki = search rules in
    let kd : Fits w32 c.args.gains.kd = search rules in
    within (pos (2 ^ 120)) (search machine depth 40 fits 5000) tt
