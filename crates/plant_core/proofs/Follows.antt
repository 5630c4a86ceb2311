-- What stays true of the state over a telegram.
use Rattle.std.proofs.Common.{◌≡◌, ℕ, ◌+◌, ◌≤◌, nat_le, ℤ, Bool, true, false, cond, Option, None}
use Rattle.std.proofs.Common.{Some, arith, subst, sym}
use Rattle.std.proofs.Math.Path.{refl}
use Rattle.std.proofs.lemmas.Bool.{leb-false}
use Rattle.std.proofs.lemmas.Option.{none-some}
use Rattle.std.proofs.lemmas.Int.{ints}
use Rattle.pid.proofs.Demands.{is_demand-demand_of}
use Rattle.pid.specs.Control.{ControlState, after_fix, demand_of, fresh}
use Rattle.pid.specs.Fixes.{IsInRange, errors_of}
use Rattle.pid.specs.declared.axis.Sample.{Sample}
use Rattle.pid.specs.declared.position.Fix.{Fix}
use Rattle.plant_model.specs.Versions.{IsDemand, Version, are_separate}
use Rattle.plant_model.specs.declared.plant.Parts.{Parts}
use Rattle.plant_model.specs.declared.wrench.Wrench.{Wrench}
use Rattle.telegram.specs.Telegrams.{IsFix, IsTelegram}
use Rattle.telegram.specs.declared.telegram.Telegram.{Telegram}
use Rattle.telegram.specs.declared.telegram.Telegram.TheVariants.{Position, Wind, Setpoint}
use Rattle.telegram.specs.declared.telegram.Telegram.TheVariants.{Thruster}
use Rattle.telegram.specs.declared.telegram.Telegram.TheVariants.{Generator, Tie, Mode, Manual}
use Rattle.telegram.specs.declared.telegram.Telegram.TheVariants.{Ack, Board, Bar}
use Rattle.wind_axes.specs.Wind.{wind_load}
use Rattle.plant_core.specs.Kept.{IsReached, IsReady}
use Rattle.plant_core.specs.Machine.{after_telegram}
use Rattle.plant_core.specs.Orders.{no_demand}
use Rattle.plant_core.specs.Sensing.{after_position, after_wind, late, sensed, state_unless_late}
use Rattle.plant_core.specs.Sensing.{with_version_for}
use Rattle.plant_core.specs.Switching.{after_switching, bar_switching, generator_switching, is_same}
use Rattle.plant_core.specs.Switching.{thruster_switching, tie_switching}
use Rattle.plant_core.specs.declared.state.State.{State}
use Rattle.plant_core.specs.declared.switch.Switching.{Switching}
use Rattle.plant_core.specs.declared.switch.Switching.TheVariants.{Unknown, NoPiece, Same, To}

-- a state that may follow another before the telegram is counted: at most one version more, nothing
-- else shown, and it may take a position where the other might
pub record Follows (before after : State) : Type 0 where
  pub events : after.events ≡ before.events
  pub number_from : before.latest.number ≤ after.latest.number
  pub number : after.latest.number ≤ before.latest.number + 1
  pub shown : after.shown ≡ before.shown
  pub ready : IsReady after

follows-same : (state : State) → IsReady state → Follows state state
follows-same state ready = record {
  events = refl;
  number_from = omega arith;
  number = omega arith;
  shown = refl;
  ready = ready;
}

follows-unless_late : (last : Option ℕ) (state after : State) → IsReady state → Follows state after
    → Follows state (state_unless_late last state after)
follows-unless_late (Some moment) state after ready follows = follows-same state ready
follows-unless_late None state after ready follows = follows

follows-switching : (state : State) (switching : Switching) → IsReady state
    → Follows state (after_switching state switching)
follows-switching state Unknown ready = follows-same state ready
follows-switching state NoPiece ready = follows-same state ready
follows-switching state Same ready = follows-same state ready
follows-switching state (To status) ready = record {
  events = refl;
  number_from = omega arith;
  number = omega arith;
  shown = refl;
  ready = record {
    demand = ready.demand;
    manual = ready.manual;
    set_point = ready.set_point;
    reached = ready.reached;
    latest = ready.demand;
  };
}

none-is_demand : IsDemand no_demand
none-is_demand = record {
  x = record { low = omega (arith, ints); high = omega (arith, ints) };
  y = record { low = omega (arith, ints); high = omega (arith, ints) };
  n = record { low = omega (arith, ints); high = omega (arith, ints) };
}

-- ---- orders

follows-mode : (state : State) (is_manual stays : Bool) → IsReady state
    → Follows state (cond stays state (record state {
      is_manual = is_manual;
      manual = no_demand;
      controller = fresh state.controller.gains;
    }))
follows-mode state is_manual true ready = follows-same state ready
follows-mode state is_manual false ready = record {
  events = refl;
  number_from = omega arith;
  number = omega arith;
  shown = refl;
  ready = record {
    demand = ready.demand;
    manual = none-is_demand;
    set_point = ready.set_point;
    reached = tt;
    latest = ready.latest;
  };
}

in_range-fix : (x y : ℤ) (heading : ℕ) → IsFix x y heading
    → IsInRange (record { x = x; y = y; heading = heading })
in_range-fix x y heading fix = record {
  x = fix.north;
  y = fix.east;
  heading = let turn = fix.turn in omega arith;
}

follows-set_point : (state : State) (set_point : Fix) (stays : Bool) → IsReady state
    → IsInRange set_point
    → Follows state (cond stays state
    (record state { set_point = set_point; controller = fresh state.controller.gains }))
follows-set_point state set_point true ready fix = follows-same state ready
follows-set_point state set_point false ready fix = record {
  events = refl;
  number_from = omega arith;
  number = omega arith;
  shown = refl;
  ready = record {
    demand = ready.demand;
    manual = ready.manual;
    set_point = fix;
    reached = tt;
    latest = ready.latest;
  };
}

follows-manual : (state : State) (demand : Wrench) (taken : Bool) → IsReady state → IsDemand demand
    → Follows state (cond taken (record state { manual = demand }) state)
follows-manual state demand false ready is_demand = follows-same state ready
follows-manual state demand true ready is_demand = record {
  events = refl;
  number_from = omega arith;
  number = omega arith;
  shown = refl;
  ready = record {
    demand = ready.demand;
    manual = is_demand;
    set_point = ready.set_point;
    reached = ready.reached;
    latest = ready.latest;
  };
}

-- ---- sensing

follows-wind : (plant : Parts) (state : State) (moment speed angle : ℕ) → IsReady state
    → Follows state (after_wind plant state moment speed angle)
follows-wind plant state moment speed angle ready =
    follows-unless_late (late state.last_wind moment) state
    (record state { last_wind = Some moment; wind = wind_load plant.wind speed angle }) ready
    (record {
      events = refl;
      number_from = omega arith;
      number = omega arith;
      shown = refl;
      ready = record {
        demand = ready.demand;
        manual = ready.manual;
        set_point = ready.set_point;
        reached = ready.reached;
        latest = ready.latest;
      };
    })

reached-at : (stays : Bool) (before after : ControlState) (last : Option ℕ)
    → IsReached before.previous last → IsReached after.previous last
    → IsReached (cond stays before after).previous last
reached-at true before after last earlier now = earlier
reached-at false before after last earlier now = now

demand-at : (stays : Bool) (manual demand : Wrench) → IsDemand manual → IsDemand demand
    → IsDemand (cond stays manual demand)
demand-at true manual demand is_manual is_demand = is_manual
demand-at false manual demand is_manual is_demand = is_demand

-- a fix that isn't after the last position is before a position that is after it
after-last : (is_late : Bool) (previous : Option Sample) (last moment : ℕ)
    → nat_le moment last ≡ is_late → cond is_late (Some last) None ≡ None
    → IsReached previous (Some last) → IsReached previous (Some moment)
after-last true previous last moment is in_time reached = absurd (none-some last (sym in_time))
after-last false None last moment is in_time reached = tt
after-last false (Some fix) last moment is in_time reached =
    omega (arith, leb-false moment last is)

reached-later : (previous : Option Sample) (last : Option ℕ) (moment : ℕ)
    → late last moment ≡ None → IsReached previous last → IsReached previous (Some moment)
reached-later None last moment in_time reached = tt
reached-later (Some fix) None moment in_time reached = absurd reached
reached-later (Some fix) (Some last) moment in_time reached =
    after-last (nat_le moment last) (Some fix) last moment refl in_time reached

ready-sensed : (state : State) (moment : ℕ) (at : Fix) → IsReady state
    → late state.last_position moment ≡ None → IsReady (sensed state moment at)
ready-sensed state moment at ready in_time =
    let errors = errors_of state.set_point at in
    record {
      demand = demand-at state.is_manual state.manual
          (demand_of state.controller moment errors state.wind) ready.manual
          (is_demand-demand_of state.controller moment errors state.wind);
      manual = ready.manual;
      set_point = ready.set_point;
      reached = reached-at state.is_manual state.controller
          (after_fix state.controller moment errors) (Some moment)
          (reached-later state.controller.previous state.last_position moment in_time
          ready.reached) (omega arith);
      latest = ready.latest;
    }

number-one_of : (latest changed : Version) (moves : Bool) → changed.number ≤ latest.number + 1
    → (cond moves changed latest).number ≤ latest.number + 1
number-one_of latest changed true few = few
number-one_of latest changed false few = omega arith

number_from-one_of : (latest changed : Version) (moves : Bool) → latest.number ≤ changed.number
    → latest.number ≤ (cond moves changed latest).number
number_from-one_of latest changed true few = few
number_from-one_of latest changed false few = omega arith

version-one_of : (latest changed : Version) (moves : Bool) → IsDemand latest.demand
    → IsDemand changed.demand → IsDemand (cond moves changed latest).demand
version-one_of latest changed true stays moved = moved
version-one_of latest changed false stays moved = stays

follows-version : (plant : Parts) (before state : State) → state.events ≡ before.events
    → state.latest ≡ before.latest → state.shown ≡ before.shown → IsReady state
    → Follows before (with_version_for plant state)
follows-version plant before state events latest shown ready =
    let changed : Version =
    record state.latest { number = state.latest.number + 1; demand = state.demand } in
    let moves = are_separate state.demand state.latest.demand plant.band in
    record {
      events = events;
      number_from = subst
          (λ (version : Version). version.number ≤ (cond moves changed state.latest).number) latest
          (number_from-one_of state.latest changed moves (omega arith));
      number = subst
          (λ (version : Version). (cond moves changed state.latest).number ≤ version.number + 1)
          latest (number-one_of state.latest changed moves (omega arith));
      shown = shown;
      ready = record {
        demand = ready.demand;
        manual = ready.manual;
        set_point = ready.set_point;
        reached = ready.reached;
        latest = version-one_of state.latest changed moves ready.latest ready.demand;
      };
    }

follows-position_where : (plant : Parts) (state : State) (moment : ℕ) (at : Fix)
    (is_late : Option ℕ) → late state.last_position moment ≡ is_late → IsReady state
    → Follows state (state_unless_late is_late state
    (with_version_for plant (sensed state moment at)))
follows-position_where plant state moment at (Some last) is ready = follows-same state ready
follows-position_where plant state moment at None is ready =
    follows-version plant state (sensed state moment at) refl refl refl
    (ready-sensed state moment at ready is)

follows-position : (plant : Parts) (state : State) (moment : ℕ) (at : Fix) → IsReady state
    → Follows state (after_position plant state moment at)
follows-position plant state moment at ready =
    follows-position_where plant state moment at (late state.last_position moment) refl ready

-- ---- telegrams

pub follows-telegram : (plant : Parts) (state : State) (t : Telegram) → IsReady state
    → IsTelegram t → Follows state (after_telegram plant state t)
follows-telegram plant state (Position moment x y heading) ready within =
    follows-position plant state moment (record { x = x; y = y; heading = heading }) ready
follows-telegram plant state (Wind moment speed angle) ready within =
    follows-wind plant state moment speed angle ready
follows-telegram plant state (Setpoint x y heading) ready within =
    follows-set_point state (record { x = x; y = y; heading = heading }) state.is_manual ready
    (in_range-fix x y heading within)
follows-telegram plant state (Thruster name selected) ready within =
    follows-switching state (thruster_switching plant state.latest.status name selected) ready
follows-telegram plant state (Generator name running) ready within =
    follows-switching state (generator_switching plant state.latest.status name running) ready
follows-telegram plant state (Tie name closed) ready within =
    follows-switching state (tie_switching plant state.latest.status name closed) ready
follows-telegram plant state (Mode is_manual) ready within =
    follows-mode state is_manual (is_same state.is_manual is_manual) ready
follows-telegram plant state (Manual demand) ready within =
    follows-manual state demand state.is_manual ready within
follows-telegram plant state (Ack number) ready within = follows-same state ready
follows-telegram plant state Board ready within = follows-same state ready
follows-telegram plant state (Bar name piece barred) ready within =
    follows-switching state (bar_switching plant state.latest.status name piece barred) ready
