-- The two parts of the machine's state that two streams make: what comes of the sensors, and how the
-- plant is switched.
use Rattle.std.specs.Prelude.{ℕ, List, Bool, Option}
use Rattle.std.specs.List.{fold}
use Rattle.pid.specs.Control.{ControlState}
use Rattle.pid.specs.declared.position.Fix.{Fix}
use Rattle.plant_model.specs.declared.plant.Parts.{Parts}
use Rattle.plant_model.specs.declared.status.Status.{Status}
use Rattle.plant_model.specs.declared.wrench.Load.{Load}
use Rattle.plant_model.specs.declared.wrench.Wrench.{Wrench}
use Rattle.plant_core.specs.Machine.{after_call, opening}
use Rattle.plant_core.specs.Orders.{no_demand}
use Rattle.plant_core.specs.declared.call.Call.{Call}
use Rattle.plant_core.specs.declared.call.Reply.TheVariants as replies
use Rattle.plant_core.specs.declared.state.State.{State}

-- ---- sensors

-- the sensors' part: what is asked of the thrusters, and what the next position and wind are judged by
pub record Sensed : Type 0 where
  pub demand : Wrench
  pub is_manual : Bool
  pub manual : Wrench
  pub set_point : Fix
  pub controller : ControlState
  pub last_position : Option ℕ
  pub last_wind : Option ℕ
  pub wind : Load

abbrev pub sensed_of : State → Sensed
sensed_of state = record {
  demand = state.demand;
  is_manual = state.is_manual;
  manual = state.manual;
  set_point = state.set_point;
  controller = state.controller;
  last_position = state.last_position;
  last_wind = state.last_wind;
  wind = state.wind;
}

-- the plant at its opening, but for this part
abbrev pub with_sensed : Parts → Sensed → State
with_sensed plant part = record (opening plant) {
  demand = part.demand;
  is_manual = part.is_manual;
  manual = part.manual;
  set_point = part.set_point;
  controller = part.controller;
  last_position = part.last_position;
  last_wind = part.last_wind;
  wind = part.wind;
}

-- what a call makes of the part where there is nothing else; that doesn't depend on the reply
abbrev pub after_sensors : Parts → Sensed → Call → Sensed
after_sensors plant part call =
    sensed_of (after_call plant (with_sensed plant part) call replies.Noted)

-- what these calls make of it from the opening on
abbrev pub sensed_by : Parts → List Call → Sensed
sensed_by plant calls = fold (after_sensors plant) (sensed_of (opening plant)) calls

-- ---- switches

abbrev pub status_of : State → Status
status_of state = state.latest.status

-- the plant at its opening, but for how it is switched
abbrev pub with_status : Parts → Status → State
with_status plant status = record (opening plant) {
  latest = record { number = 0; status = status; demand = no_demand };
}

-- how the plant is switched after a call where there is nothing else
abbrev pub after_switches : Parts → Status → Call → Status
after_switches plant status call =
    status_of (after_call plant (with_status plant status) call replies.Noted)

-- how it is switched after these calls from the opening on
abbrev pub switched_by : Parts → List Call → Status
switched_by plant calls = fold (after_switches plant) plant.opening calls
