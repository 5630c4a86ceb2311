-- No telegram counts by itself, ends a session or shows a verdict: a call is counted once, whatever
-- it asks.
use Rattle.std.proofs.Common.{◌≡◌, ℕ, Bool, true, false, cond, Option, None, Some, refl}
use Rattle.plant_model.specs.declared.plant.Parts.{Parts}
use Rattle.telegram.specs.declared.telegram.Telegram.{Telegram}
use Rattle.telegram.specs.declared.telegram.Telegram.TheVariants.{Position, Wind, Setpoint}
use Rattle.telegram.specs.declared.telegram.Telegram.TheVariants.{Thruster}
use Rattle.telegram.specs.declared.telegram.Telegram.TheVariants.{Generator, Tie, Mode, Manual}
use Rattle.telegram.specs.declared.telegram.Telegram.TheVariants.{Ack, Board, Bar}
use Rattle.plant_core.specs.Machine.{after_telegram}
use Rattle.plant_core.specs.Sensing.{late, state_unless_late}
use Rattle.plant_core.specs.Switching.{after_switching, bar_switching, generator_switching, is_same}
use Rattle.plant_core.specs.Switching.{thruster_switching, tie_switching}
use Rattle.plant_core.specs.declared.state.State.{State}
use Rattle.plant_core.specs.declared.switch.Switching.{Switching}
use Rattle.plant_core.specs.declared.switch.Switching.TheVariants.{Unknown, NoPiece, Same, To}

-- as many telegrams and notes are counted, a session is as open, and the same verdicts are shown
pub record Keeps (before after : State) : Type 0 where
  pub events : after.events ≡ before.events
  pub is_closed : after.is_closed ≡ before.is_closed
  pub shown : after.shown ≡ before.shown

keeps-one_of : (b : Bool) (state first second : State) → Keeps state first → Keeps state second
    → Keeps state (cond b first second)
keeps-one_of true state first second one two = one
keeps-one_of false state first second one two = two

keeps-unless_late : (last : Option ℕ) (state after : State) → Keeps state after
    → Keeps state (state_unless_late last state after)
keeps-unless_late (Some moment) state after keeps = record { events = refl; is_closed = refl; shown = refl }
keeps-unless_late None state after keeps = keeps

keeps-switching : (state : State) (switching : Switching)
    → Keeps state (after_switching state switching)
keeps-switching state Unknown = record { events = refl; is_closed = refl; shown = refl }
keeps-switching state NoPiece = record { events = refl; is_closed = refl; shown = refl }
keeps-switching state Same = record { events = refl; is_closed = refl; shown = refl }
keeps-switching state (To status) = record { events = refl; is_closed = refl; shown = refl }

pub keeps-telegram : (plant : Parts) (state : State) (t : Telegram)
    → Keeps state (after_telegram plant state t)
keeps-telegram plant state (Position moment x y heading) =
    keeps-unless_late (late state.last_position moment) state _
    (record { events = refl; is_closed = refl; shown = refl })
keeps-telegram plant state (Wind moment speed angle) =
    keeps-unless_late (late state.last_wind moment) state _
    (record { events = refl; is_closed = refl; shown = refl })
keeps-telegram plant state (Setpoint x y heading) =
    keeps-one_of state.is_manual state state _
    (record { events = refl; is_closed = refl; shown = refl }) (record { events = refl; is_closed = refl; shown = refl })
keeps-telegram plant state (Thruster name selected) =
    keeps-switching state (thruster_switching plant state.latest.status name selected)
keeps-telegram plant state (Generator name running) =
    keeps-switching state (generator_switching plant state.latest.status name running)
keeps-telegram plant state (Tie name closed) =
    keeps-switching state (tie_switching plant state.latest.status name closed)
keeps-telegram plant state (Mode is_manual) =
    keeps-one_of (is_same state.is_manual is_manual) state state _
    (record { events = refl; is_closed = refl; shown = refl }) (record { events = refl; is_closed = refl; shown = refl })
keeps-telegram plant state (Manual demand) =
    keeps-one_of state.is_manual state (record state { manual = demand }) state
    (record { events = refl; is_closed = refl; shown = refl }) (record { events = refl; is_closed = refl; shown = refl })
keeps-telegram plant state (Ack number) = record { events = refl; is_closed = refl; shown = refl }
keeps-telegram plant state Board = record { events = refl; is_closed = refl; shown = refl }
keeps-telegram plant state (Bar name piece barred) =
    keeps-switching state (bar_switching plant state.latest.status name piece barred)
