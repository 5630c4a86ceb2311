-- Laws of all histories of two streams.
use Rattle.std.specs.Prelude.{◌≡◌, ℕ, ◌≤◌, List, map, All}
use Rattle.plant_model.specs.Demo.{demo_parts}
use Rattle.plant_model.specs.declared.plant.Parts.{Parts}
use Rattle.plant_core.specs.Machine.{IsLegal, state_after}
use Rattle.plant_core.specs.declared.call.Call.{Call}
use Rattle.plant_core.specs.declared.call.Call.TheVariants as calls
use Rattle.plant_core.specs.declared.call.Entry.{Entry}
use Rattle.drill_streams.specs.Streams.{drill_operators, drill_sensors}
use Rattle.drill_streams.specs.declared.streams.TheConstants.{MOST_DRILL_STEPS}
use Rattle.drill_summary.specs.Projections.{sensed_by, sensed_of, status_of, switched_by}
use Rattle.drill_summary.specs.Streams.{IsOfOperators, IsOfSensors, IsOfStreams}
use Rattle.drill_summary.specs.Summaries.{summary_of}

-- two streams of which the operators' leaves it to the sensors' what is asked of the thrusters
pub record AreApart (sensors operators : List Call) : Type 0 where
  pub control : All IsOfSensors sensors
  pub orders : All IsOfOperators operators

-- the sensors' part of the state is what their calls alone make of it, however the entries of others
-- stand among theirs
abbrev pub SensorsAreApart : Type 0
SensorsAreApart = (plant : Parts) (sensors operators : List Call) (history : List Entry)
    → AreApart sensors operators → IsOfStreams sensors operators history
    → sensed_of (state_after plant history) ≡ sensed_by plant sensors

-- and how the plant is switched is what the operators' calls alone make of it
abbrev pub SwitchesAreApart : Type 0
SwitchesAreApart = (plant : Parts) (sensors operators : List Call) (history : List Entry)
    → AreApart sensors operators → IsOfStreams sensors operators history
    → status_of (state_after plant history) ≡ switched_by plant operators

-- the history is legal, and has what the two streams ask
pub record Stands (plant : Parts) (limit : ℕ) (sensors operators : List Call)
    (history : List Entry) : Type 0 where
  pub legal : IsLegal plant limit history
  pub asked : IsOfStreams sensors operators history

-- all legal histories of the two streams come to the same
abbrev pub SummariesAreOne : Type 0
SummariesAreOne = (plant : Parts) (limit : ℕ) (sensors operators : List Call)
    (history other : List Entry) → AreApart sensors operators
    → Stands plant limit sensors operators history → Stands plant limit sensors operators other
    → summary_of plant history ≡ summary_of plant other

-- ---- drills

-- the history is legal for the demo plant, and has what the streams of the drill ask
abbrev pub IsDrill : ℕ → ℕ → ℕ → List Entry → Type 0
IsDrill limit seed size history = Stands demo_parts limit
    (map calls.Telegram (drill_sensors seed size))
    (map calls.Telegram (drill_operators seed size)) history

-- all histories of a drill come to the same
abbrev pub DrillsAreOne : Type 0
DrillsAreOne = (limit seed size : ℕ) (history other : List Entry) → size ≤ MOST_DRILL_STEPS
    → IsDrill limit seed size history → IsDrill limit seed size other
    → summary_of demo_parts history ≡ summary_of demo_parts other
