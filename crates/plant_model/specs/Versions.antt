-- Versions of a plant's status and demand.
use Rattle.std.specs.Prelude.{ℕ, ℤ, ◌-ℤ◌, nat_abs, List, slice_index, nat_lt, Bool, ◌||◌}
use Rattle.plant_model.specs.Numbers.{IsWithin}
use Rattle.plant_model.specs.declared.limits.TheConstants.{MOST_FORCE, MOST_MOMENT}
use Rattle.plant_model.specs.declared.status.Status.{Status}
use Rattle.plant_model.specs.declared.wrench.Wrench.{Wrench}

-- a status with its number and with what is asked of the thrusters in it
pub record Version : Type 0 where
  pub number : ℕ
  pub status : Status
  pub demand : Wrench

-- the wrench is within the demand's limits
pub record IsDemand (w : Wrench) : Type 0 where
  pub x : IsWithin MOST_FORCE w.x
  pub y : IsWithin MOST_FORCE w.y
  pub n : IsWithin MOST_MOMENT w.n

-- two numbers differ by more than the axis' band
abbrev pub differ_by_more : ℤ → ℤ → ℕ → Bool
differ_by_more a b band = nat_lt band (nat_abs (a -ℤ b))

-- some component of the two differs by more than its band
abbrev pub are_separate : Wrench → Wrench → List ℕ → Bool
are_separate a b band =
    differ_by_more a.x b.x (slice_index band 0)
    || differ_by_more a.y b.y (slice_index band 1)
    || differ_by_more a.n b.n (slice_index band 2)
