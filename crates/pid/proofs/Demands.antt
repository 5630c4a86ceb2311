-- What the controller asks is within a demand's limits.
use Rattle.std.proofs.Common.{ℕ, ℤ, pos, neg_ℤ, ◌-ℤ◌, ◌≤ℤ◌, List, arith}
use Rattle.std.proofs.lemmas.Int.{int_max_is, int_min_is, ints}
use Rattle.std.specs.Int.{int_min}
use Rattle.dp_num.specs.Quotients.{clamped}
use Rattle.plant_model.specs.Numbers.{IsWithin}
use Rattle.plant_model.specs.Versions.{IsDemand}
use Rattle.plant_model.specs.declared.limits.TheConstants.{MOST_FORCE, MOST_MOMENT}
use Rattle.plant_model.specs.declared.wrench.Load.{Load}
use Rattle.plant_model.specs.declared.controller.Gains.{Gains}
use Rattle.pid.specs.Control.{ControlState, demand_from, demand_of, gains_at, output_of, rates_at}
use Rattle.pid.specs.Control.{sums_at}
use Rattle.pid.specs.declared.axis.PerAxis.{PerAxis}
use Rattle.pid.specs.declared.position.FixErrors.{FixErrors}

clamped-within : (most z : ℤ) → pos 0 ≤ℤ most → IsWithin most (clamped z (neg_ℤ most) most)
clamped-within most z from_0 =
    let lower = int_min_is z most in
    let upper = int_max_is (neg_ℤ most) (int_min z most) in
    record { low = omega (arith, ints); high = omega (arith, ints) }

pub is_demand-demand_from : (gains : List Gains) (errors : FixErrors) (sums rates : PerAxis)
    (wind : Load) → IsDemand (demand_from gains errors sums rates wind)
is_demand-demand_from gains errors sums rates wind = record {
  x = clamped-within MOST_FORCE
      (output_of (gains_at gains 0) errors.surge sums.surge rates.surge -ℤ wind.x)
      (omega (arith, ints));
  y = clamped-within MOST_FORCE
      (output_of (gains_at gains 1) errors.sway sums.sway rates.sway -ℤ wind.y)
      (omega (arith, ints));
  n = clamped-within MOST_MOMENT
      (output_of (gains_at gains 2) errors.yaw sums.yaw rates.yaw -ℤ wind.n)
      (omega (arith, ints));
}

pub is_demand-demand_of : (control : ControlState) (moment : ℕ) (errors : FixErrors) (wind : Load)
    → IsDemand (demand_of control moment errors wind)
is_demand-demand_of control moment errors wind =
    is_demand-demand_from control.gains errors (sums_at control moment errors)
    (rates_at control moment errors) wind
