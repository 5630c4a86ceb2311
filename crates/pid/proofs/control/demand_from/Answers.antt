use Rattle.std.proofs.Common.{rules, ◌≡◌, ◌∙◌, ap, sym, ℕ, ℤ, List, get_or, to_z, of_z, FitsSigned}
use Rattle.std.proofs.Common.{w32, w64}
use Rattle.std.proofs.lemmas.Int.{to_z-of_z}
use Rattle.std.proofs.lemmas.Option.{unwrap_or-slice_get}
use mir.Syntax.{w128}
use Rattle.plant_model.specs.declared.controller.Gains.{Gains}
use Rattle.plant_model.specs.declared.limits.TheConstants.{MOST_FORCE, MOST_MOMENT}
use Rattle.pid.specs.Control.{gains_at, output_of, asked_of}
use Rattle.pid.proofs.control.demand_from.Goals as goal

-- what the call of `output` gives is the clause's output of that axis
axis_output : {result : ℤ} (gains : List Gains) (axis : ℕ) (error sum rate : ℤ)
    → result ≡ output_of (get_or gains axis (record { kp = 0; ki = 0; kd = 0; limit = 0 }))
    (to_z w64 (of_z w64 error)) (to_z w128 (of_z w128 sum)) (to_z w128 (of_z w128 rate))
    → FitsSigned w128 result → FitsSigned w64 error → FitsSigned w128 sum → FitsSigned w128 rate
    → to_z w128 (of_z w128 result) ≡ output_of (gains_at gains axis) error sum rate
axis_output gains axis error sum rate is fits error_fits sum_fits rate_fits =
    let none : Gains = record { kp = 0; ki = 0; kd = 0; limit = 0 } in
    to_z-of_z w128 _ fits ∙ is
    ∙ ap (λ (z : ℤ). output_of (get_or gains axis none) z (to_z w128 (of_z w128 sum))
    (to_z w128 (of_z w128 rate))) (to_z-of_z w64 error error_fits)
    ∙ ap (λ (z : ℤ). output_of (get_or gains axis none) error z (to_z w128 (of_z w128 rate)))
    (to_z-of_z w128 sum sum_fits)
    ∙ ap (λ (z : ℤ). output_of (get_or gains axis none) error sum z) (to_z-of_z w128 rate rate_fits)
    ∙ ap (λ (g : Gains). output_of g error sum rate) (sym (unwrap_or-slice_get gains axis none))

-- and what the call of `asked` gives is the clause's component of that axis
axis_asked : {result : ℤ} (output' output wind most : ℤ)
    → result ≡ asked_of output' (to_z w64 (of_z w64 wind)) most → output' ≡ output
    → FitsSigned w32 result → FitsSigned w64 wind
    → to_z w32 (of_z w32 result) ≡ asked_of output wind most
axis_asked output' output wind most is output_is fits wind_fits =
    to_z-of_z w32 _ fits ∙ is
    ∙ ap (λ (z : ℤ). asked_of z (to_z w64 (of_z w64 wind)) most) output_is
    ∙ ap (λ (z : ℤ). asked_of output z most) (to_z-of_z w64 wind wind_fits)

pub returns : goal.returns
returns c =
    let gains = c.args.gains in
    let errors = c.args.errors in
    let sums = c.args.sums in
    let rates = c.args.rates in
    let surge = axis_output gains 0 errors.surge sums.surge rates.surge c.output.ensures.value
    (search rules) (search rules) (search rules) (search rules) in
    let sway = axis_output gains 1 errors.sway sums.sway rates.sway c.output-2.ensures.value
    (search rules) (search rules) (search rules) (search rules) in
    let yaw = axis_output gains 2 errors.yaw sums.yaw rates.yaw c.output-3.ensures.value
    (search rules) (search rules) (search rules) (search rules) in
    let x = axis_asked _ _ c.args.wind.x MOST_FORCE c.asked.ensures surge (search rules)
    (search rules) in
    let y = axis_asked _ _ c.args.wind.y MOST_FORCE c.asked-2.ensures sway (search rules)
    (search rules) in
    let n = axis_asked _ _ c.args.wind.n MOST_MOMENT c.asked-3.ensures yaw (search rules)
    (search rules) in
    rw (x, y, n)
