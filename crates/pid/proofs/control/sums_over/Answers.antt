use Rattle.std.proofs.Common.{rules, ◌≡◌, ◌∙◌, ap, sym, ℕ, ℤ, List, get_or, to_z, of_z, FitsSigned}
use Rattle.std.proofs.Common.{w64}
use Rattle.std.proofs.lemmas.Int.{to_z-of_z}
use Rattle.std.proofs.lemmas.Option.{unwrap_or-slice_get}
use mir.Syntax.{w128}
use Rattle.plant_model.specs.declared.controller.Gains.{Gains}
use Rattle.pid.specs.Control.{gains_at, sum_after}
use Rattle.pid.proofs.control.sums_over.Goals as goal

-- what the call of `sum_after` gives is the clause's sum of that axis
axis_sum : {result : ℤ} (gains : List Gains) (axis : ℕ) (sum error : ℤ) (elapsed : ℕ)
    → result ≡ sum_after (get_or gains axis (record { kp = 0; ki = 0; kd = 0; limit = 0 }))
    (to_z w128 (of_z w128 sum)) (to_z w64 (of_z w64 error)) elapsed → FitsSigned w128 result
    → FitsSigned w128 sum → FitsSigned w64 error
    → to_z w128 (of_z w128 result) ≡ sum_after (gains_at gains axis) sum error elapsed
axis_sum gains axis sum error elapsed is fits sum_fits error_fits =
    let none : Gains = record { kp = 0; ki = 0; kd = 0; limit = 0 } in
    to_z-of_z w128 _ fits ∙ is
    ∙ ap (λ (z : ℤ). sum_after (get_or gains axis none) z (to_z w64 (of_z w64 error)) elapsed)
    (to_z-of_z w128 sum sum_fits)
    ∙ ap (λ (z : ℤ). sum_after (get_or gains axis none) sum z elapsed)
    (to_z-of_z w64 error error_fits)
    ∙ ap (λ (g : Gains). sum_after g sum error elapsed) (sym (unwrap_or-slice_get gains axis none))

pub returns-clause-value : goal.returns-clause-value
returns-clause-value c =
    let sums = c.args.sums in
    let errors = c.args.errors in
    let surge = axis_sum c.args.gains 0 sums.surge errors.surge c.args.elapsed
    c.sum_after.ensures.value (search rules) (search rules) (search rules) in
    let sway = axis_sum c.args.gains 1 sums.sway errors.sway c.args.elapsed
    c.sum_after-2.ensures.value (search rules) (search rules) (search rules) in
    let yaw = axis_sum c.args.gains 2 sums.yaw errors.yaw c.args.elapsed c.sum_after-3.ensures.value
    (search rules) (search rules) (search rules) in
    rw (surge, sway, yaw)
