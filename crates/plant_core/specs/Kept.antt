-- What a machine keeps true of its state, its alarms and its history.
use Rattle.std.specs.Prelude.{◌≡◌, ℕ, ◌+◌, ◌*◌, ◌≤◌, List, [], ◌∷◌, length}
use Rattle.std.specs.Prelude.{if◌then◌else◌, Option, Some, None}
use Rattle.alarm_log.specs.Alarms.{AlarmBook}
use Rattle.pid.specs.Fixes.{IsInRange}
use Rattle.pid.specs.declared.axis.Sample.{Sample}
use Rattle.plant_model.specs.Versions.{IsDemand}
use Rattle.plant_model.specs.declared.limits.TheConstants.{MOST_ENTRIES, MOST_GROUPS}
use Rattle.plant_model.specs.declared.plant.Parts.{Parts}
use Rattle.plant_core.specs.Board.{is_about}
use Rattle.plant_core.specs.Machine.{IsLegal, stand_after}
use Rattle.plant_core.specs.declared.call.Entry.{Entry}
use Rattle.plant_core.specs.declared.state.State.{State}
use Rattle.plant_core.specs.declared.state.Verdict.{Verdict}

-- the controller's previous fix, where there is one, isn't after the last position
abbrev pub IsReached : Option Sample → Option ℕ → Type 0
IsReached None last = Unit {0}
IsReached (Some fix) None = ⊥
IsReached (Some fix) (Some last) = fix.moment ≤ last

-- a state that may take a position: what it asks is within a demand's limits, and its set point
-- within those of a fix
pub record IsReady (state : State) : Type 0 where
  pub demand : IsDemand state.demand
  pub manual : IsDemand state.manual
  pub set_point : IsInRange state.set_point
  pub reached : IsReached state.controller.previous state.last_position
  pub latest : IsDemand state.latest.demand

-- of how many groups the verdict that was last shown is about the version
abbrev pub count_about : ℕ → List (Option Verdict) → ℕ
count_about version [] = 0
count_about version (verdict ∷ verdicts) =
    (if is_about version verdict then 1 else 0) + count_about version verdicts

-- alarms are raised by verdicts, at most one of each group and version, and by commands
abbrev pub most_raised : State → ℕ
most_raised state = state.events + state.latest.number * MOST_GROUPS
    + count_about state.latest.number state.shown

pub record IsKept (plant : Parts) (limit : ℕ) (state : State) (alarms : AlarmBook)
    (history : List Entry) : Type 0 where
  pub legal : IsLegal plant limit history
  pub reached : record { state = state; alarms = alarms } ≡ stand_after plant history
  pub ready : IsReady state
  -- each version was made by an event, and events are at most as many as the limit
  pub numbered : state.latest.number ≤ state.events
  pub counted : state.events ≤ limit
  pub limited : limit ≤ MOST_ENTRIES
  -- there is a place for each group's verdict
  pub few_groups : length plant.groups.items ≤ MOST_GROUPS
  pub groups : length state.shown ≡ MOST_GROUPS
  pub raised : alarms.raised ≤ most_raised state
