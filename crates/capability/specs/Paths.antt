-- What is asked of the thrusters as the wind grows.
use Rattle.std.specs.Prelude.{◌≡◌, ℕ, ◌<◌, ◌≤◌, pos, ◌-ℤ◌, List, length, slice_index_or}
use Rattle.plant_model.specs.Versions.{IsDemand}
use Rattle.plant_model.specs.declared.plant.Parts.{Parts}
use Rattle.plant_model.specs.declared.wrench.Load.{Load}
use Rattle.plant_model.specs.declared.wrench.Wrench.{Wrench}
use Rattle.wind_axes.specs.Wind.{wind_load}
use Rattle.certificate.specs.Outcomes.{IsFeasible, Question}
use Rattle.capability.specs.declared.speeds.TheConstants.{SPEEDS}

-- the base less a load
abbrev pub less : Wrench → Load → Wrench
less base load = record { x = base.x -ℤ load.x; y = base.y -ℤ load.y; n = base.n -ℤ load.n }

-- what is asked of the thrusters at a wind speed: the base less what the wind does
abbrev pub demand_at : Parts → Wrench → ℕ → ℕ → Wrench
demand_at plant base angle speed = less base (wind_load plant.wind speed angle)

abbrev pub nothing : Wrench
nothing = record { x = pos 0; y = pos 0; n = pos 0 }

-- the demand at a place of the path
abbrev pub along : List Wrench → ℕ → Wrench
along path speed = slice_index_or path speed nothing

-- The demands at the whole speeds from 0 on, up to the greatest speed, or to the one before the
-- first at which the demand is outside its limits.
pub record IsPath (plant : Parts) (base : Wrench) (angle : ℕ) (path : List Wrench) : Type 0 where
  pub few : length path ≤ SPEEDS
  pub each : (speed : ℕ) → speed < length path → along path speed ≡ demand_at plant base angle speed
  pub within : (speed : ℕ) → speed < length path → IsDemand (along path speed)
  pub ends : length path < SPEEDS → ¬ IsDemand (demand_at plant base angle (length path))

-- what is asked is met at each speed below this one of the path, and isn't at it, unless it is the
-- path's end
pub record IsMetUpTo (ask : Wrench → Question) (path : List Wrench) (end : ℕ) : Type 0 where
  pub to : end ≤ length path
  pub before : (speed : ℕ) → speed < end → IsFeasible (ask (along path speed))
  pub ends : end < length path → ¬ IsFeasible (ask (along path end))
