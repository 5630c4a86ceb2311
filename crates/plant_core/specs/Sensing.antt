-- Positions and winds, and the demand at a position.
use Rattle.std.specs.Prelude.{◌≡◌, ℕ, ◌+◌, nat_le, Option, Some, None, if◌then◌else◌}
use Rattle.pid.specs.Control.{ControlState, after_fix, demand_of}
use Rattle.pid.specs.Fixes.{errors_of}
use Rattle.pid.specs.declared.position.Fix.{Fix}
use Rattle.plant_model.specs.Versions.{Version, are_separate}
use Rattle.plant_model.specs.declared.plant.Parts.{Parts}
use Rattle.plant_model.specs.declared.wrench.Wrench.{Wrench}
use Rattle.plant_model.specs.declared.status.Loss.TheVariants.{Intact}
use Rattle.certificate.specs.Losses.{question_after}
use Rattle.wind_axes.specs.Wind.{wind_load}
use Rattle.thrust_allocation.specs.Allocations.{IsRight}
use Rattle.thrust_allocation.specs.declared.allocation.Allocation.{Allocation}
use Rattle.plant_core.specs.declared.call.Reply.{Reply}
use Rattle.plant_core.specs.declared.call.Reply.TheVariants.{Commanded, Late, Taken}
use Rattle.plant_core.specs.declared.state.State.{State}

-- the last moment, where this moment isn't after it
abbrev pub late : Option ℕ → ℕ → Option ℕ
late None moment = None
late (Some last) moment = if nat_le moment last then Some last else None

-- too late, or else this reply
abbrev pub unless_late : Option ℕ → Reply → Reply
unless_late (Some last) reply = Late last
unless_late None reply = reply

-- the state stays where it is too late, and else becomes this one
abbrev pub state_unless_late : Option ℕ → State → State → State
state_unless_late (Some last) stays state = stays
state_unless_late None stays state = state

-- ---- winds

abbrev pub wind_reply : State → ℕ → Reply
wind_reply state moment = unless_late (late state.last_wind moment) Taken

-- the load of the wind stands from now on
abbrev pub after_wind : Parts → State → ℕ → ℕ → ℕ → State
after_wind plant state moment speed angle =
    state_unless_late (late state.last_wind moment) state
    (record state { last_wind = Some moment; wind = wind_load plant.wind speed angle })

-- ---- positions

-- what is asked of the thrusters at a position: what the operators ask in manual mode, and else the
-- controller's demand
abbrev pub demand_at : State → ℕ → Fix → Wrench
demand_at state moment at =
    if state.is_manual then state.manual
    else demand_of state.controller moment (errors_of state.set_point at) state.wind

-- the controller after a position, at which it makes no step in manual mode
abbrev pub controller_at : State → ℕ → Fix → ControlState
controller_at state moment at =
    if state.is_manual then state.controller
    else after_fix state.controller moment (errors_of state.set_point at)

-- the state with the demand at a position
abbrev pub sensed : State → ℕ → Fix → State
sensed state moment at = record state {
  demand = demand_at state moment at;
  controller = controller_at state moment at;
  last_position = Some moment;
}

-- the latest version where the state's demand is asked: a new one, with the next number and the
-- status as it is, where some component differs by more than the plant's band
abbrev pub latest_for : Parts → State → Version
latest_for plant state =
    if are_separate state.demand state.latest.demand plant.band
    then record state.latest { number = state.latest.number + 1; demand = state.demand }
    else state.latest

-- the command names the version that is then the latest and the demand, and gives the greatest part
-- of the demand that the thrusters can give as the plant stands
pub record IsCommand (plant : Parts) (state : State) (number : ℕ) (asked : Wrench)
    (given : Allocation) : Type 0 where
  pub version : number ≡ (latest_for plant state).number
  pub demand : asked ≡ state.demand
  pub allocation : IsRight (question_after plant state.latest.status Intact state.demand) given

abbrev pub IsCommanded : Parts → State → Reply → Type 0
IsCommanded plant state (Commanded version demand allocation) =
    IsCommand plant state version demand allocation
IsCommanded plant state _ = ⊥

-- too late, or else a command in this state
abbrev pub IsCommandedUnlessLate : Option ℕ → Parts → State → Reply → Type 0
IsCommandedUnlessLate (Some last) plant state reply = reply ≡ Late last
IsCommandedUnlessLate None plant state reply = IsCommanded plant state reply

-- what a position may be answered
abbrev pub IsPositionReply : Parts → State → ℕ → Fix → Reply → Type 0
IsPositionReply plant state moment at reply =
    IsCommandedUnlessLate (late state.last_position moment) plant (sensed state moment at) reply

abbrev pub with_version_for : Parts → State → State
with_version_for plant state = record state { latest = latest_for plant state }

abbrev pub after_position : Parts → State → ℕ → Fix → State
after_position plant state moment at =
    state_unless_late (late state.last_position moment) state
    (with_version_for plant (sensed state moment at))
