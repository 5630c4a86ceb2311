-- The controller as a fold over the fixes since it was last reset. The first axis is surge, then
-- sway and yaw.
use Rattle.std.specs.Prelude.{◌≡◌, ℕ, ◌-◌, ◌<◌, ℤ, pos, ◌+ℤ◌, ◌-ℤ◌, ◌*ℤ◌, neg_ℤ, List, fold, Option}
use Rattle.std.specs.Prelude.{None, Some, IfSome, unwrap_or, slice_get}
use Rattle.std.specs.Option.{option_map_or}
use Rattle.plant_model.specs.Numbers.{IsWithin}
use Rattle.dp_num.specs.Quotients.{floor_quotient, clamped}
use Rattle.plant_model.specs.declared.controller.Gains.{Gains}
use Rattle.plant_model.specs.declared.limits.TheConstants.{MOST_FORCE, MOST_MOMENT}
use Rattle.plant_model.specs.declared.wrench.Load.{Load}
use Rattle.plant_model.specs.declared.wrench.Wrench.{Wrench}
use Rattle.pid.specs.declared.position.FixErrors.{FixErrors}
use Rattle.pid.specs.declared.axis.PerAxis.{PerAxis}
use Rattle.pid.specs.declared.axis.Sample.{Sample}
use Rattle.pid.specs.Fixes.{turned}

-- what the fold keeps: the sum of each axis' errors and the previous fix. The gains stay
pub record ControlState : Type 0 where
  pub gains : List Gains
  pub sums : PerAxis
  pub previous : Option Sample

-- the gains of the axis of this number
abbrev pub gains_at : List Gains → ℕ → Gains
gains_at gains axis =
    unwrap_or (slice_get gains axis) (record { kp = 0; ki = 0; kd = 0; limit = 0 })

abbrev pub zeros : PerAxis
zeros = record { surge = pos 0; sway = pos 0; yaw = pos 0 }

-- nothing is summed yet, and there is no previous fix
abbrev pub fresh : List Gains → ControlState
fresh gains = record { gains = gains; sums = zeros; previous = None }

-- the moment is after the previous fix's, where there is one
abbrev pub IsNext : ControlState → ℕ → Type 0
IsNext state moment = IfSome state.previous (λ previous. previous.moment < moment)

-- an axis' sum, so many milliseconds on: it grows by their product with the error, up to its limit
-- either way
abbrev pub sum_after : Gains → ℤ → ℤ → ℕ → ℤ
sum_after gains sum error elapsed =
    clamped (sum +ℤ error *ℤ pos elapsed) (neg_ℤ (pos gains.limit)) (pos gains.limit)

-- how much an error changes in a second that changed so much in so many milliseconds
abbrev pub rate_of : ℤ → ℕ → ℤ
rate_of change elapsed = floor_quotient (change *ℤ pos 1000) (pos elapsed)

-- an axis' output: its error, its sum and its rate, each by its gain
abbrev pub output_of : Gains → ℤ → ℤ → ℤ → ℤ
output_of gains error sum rate =
    floor_quotient (pos gains.kp *ℤ error) (pos 1000)
    +ℤ floor_quotient (pos gains.ki *ℤ sum) (pos 1000000)
    +ℤ floor_quotient (pos gains.kd *ℤ rate) (pos 1000)

-- what is asked of the thrusters along an axis, of which the wind gives a part
abbrev pub asked_of : ℤ → ℤ → ℤ → ℤ
asked_of output wind most = clamped (output -ℤ wind) (neg_ℤ most) most

-- each number is at most so far from 0, either way
pub record AreWithin (most : ℤ) (numbers : PerAxis) : Type 0 where
  pub surge : IsWithin most numbers.surge
  pub sway : IsWithin most numbers.sway
  pub yaw : IsWithin most numbers.yaw

-- the sums, so many milliseconds on
abbrev pub sums_over : List Gains → PerAxis → FixErrors → ℕ → PerAxis
sums_over gains sums errors elapsed = record {
  surge = sum_after (gains_at gains 0) sums.surge errors.surge elapsed;
  sway = sum_after (gains_at gains 1) sums.sway errors.sway elapsed;
  yaw = sum_after (gains_at gains 2) sums.yaw errors.yaw elapsed;
}

-- the rates from the errors before to those so many milliseconds on, in yaw by the shorter way
-- round
abbrev pub rates_over : FixErrors → FixErrors → ℕ → PerAxis
rates_over before errors elapsed = record {
  surge = rate_of (errors.surge -ℤ before.surge) elapsed;
  sway = rate_of (errors.sway -ℤ before.sway) elapsed;
  yaw = rate_of (turned (errors.yaw -ℤ before.yaw)) elapsed;
}

-- the sums at a fix, which stay where there is no previous one
abbrev pub sums_at : ControlState → ℕ → FixErrors → PerAxis
sums_at state moment errors =
    option_map_or (λ previous. sums_over state.gains state.sums errors (moment - previous.moment))
    state.previous state.sums

-- the rates at a fix, which are 0 where there is no previous one
abbrev pub rates_at : ControlState → ℕ → FixErrors → PerAxis
rates_at state moment errors =
    option_map_or (λ previous. rates_over previous.errors errors (moment - previous.moment))
    state.previous zeros

-- the state after a fix
abbrev pub after_fix : ControlState → ℕ → FixErrors → ControlState
after_fix state moment errors = record {
  gains = state.gains;
  sums = sums_at state moment errors;
  previous = Some (record { moment = moment; errors = errors });
}

-- the state after these fixes since the last reset
abbrev pub after_fixes : List Gains → List Sample → ControlState
after_fixes gains fixes =
    fold (λ state fix. after_fix state fix.moment fix.errors) (fresh gains) fixes

-- the state is the one after these fixes, at its own gains
abbrev pub IsAfter : ControlState → List Sample → Type 0
IsAfter state fixes = state ≡ after_fixes state.gains fixes

-- the demand of these errors, sums and rates
abbrev pub demand_from : List Gains → FixErrors → PerAxis → PerAxis → Load → Wrench
demand_from gains errors sums rates wind = record {
  x = asked_of (output_of (gains_at gains 0) errors.surge sums.surge rates.surge) wind.x MOST_FORCE;
  y = asked_of (output_of (gains_at gains 1) errors.sway sums.sway rates.sway) wind.y MOST_FORCE;
  n = asked_of (output_of (gains_at gains 2) errors.yaw sums.yaw rates.yaw) wind.n MOST_MOMENT;
}

-- the demand at a fix, which the sums at this fix have a part in
abbrev pub demand_of : ControlState → ℕ → FixErrors → Load → Wrench
demand_of state moment errors wind =
    demand_from state.gains errors (sums_at state moment errors) (rates_at state moment errors) wind
