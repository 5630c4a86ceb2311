-- The sensors' part of the state is theirs alone.
use Rattle.std.proofs.Common.{◌≡◌, ℕ, Bool, true, false, ◌==◌, Option, None, Some, refl}
use Rattle.std.proofs.Common.{ap}
use Rattle.std.proofs.lemmas.Bool.{eqb-false, eqb-true}
use Rattle.certificate.specs.declared.outcome.Outcome.{Outcome}
use Rattle.pid.specs.declared.position.Fix.{Fix}
use Rattle.plant_model.specs.declared.plant.Parts.{Parts}
use Rattle.telegram.specs.declared.telegram.Telegram.{Telegram}
use Rattle.telegram.specs.declared.telegram.Telegram.TheVariants.{Position, Wind, Setpoint}
use Rattle.telegram.specs.declared.telegram.Telegram.TheVariants.{Thruster, Generator, Tie, Mode}
use Rattle.telegram.specs.declared.telegram.Telegram.TheVariants.{Manual, Ack, Board, Bar}
use Rattle.wind_axes.specs.Wind.{wind_load}
use Rattle.plant_core.specs.Machine.{IsEntry, IsReply, Stand, after_call, is_event, next}
use Rattle.plant_core.specs.Sensing.{IsCommanded, IsCommandedUnlessLate, late, sensed}
use Rattle.plant_core.specs.Sensing.{state_unless_late, unless_late, with_version_for}
use Rattle.plant_core.specs.Switching.{after_switching, bar_switching, generator_switching}
use Rattle.plant_core.specs.Switching.{thruster_switching, tie_switching}
use Rattle.plant_core.specs.declared.call.Call.{Call}
use Rattle.plant_core.specs.declared.call.Call.TheVariants as calls
use Rattle.plant_core.specs.declared.call.Entry.{Entry}
use Rattle.plant_core.specs.declared.call.Reply.{Reply}
use Rattle.plant_core.specs.declared.call.Reply.TheVariants as replies
use Rattle.plant_core.specs.declared.state.State.{State}
use Rattle.plant_core.specs.declared.switch.Switching.{Switching}
use Rattle.plant_core.specs.declared.switch.Switching.TheVariants.{Unknown, NoPiece, Same, To}
use Rattle.drill_summary.specs.Projections.{Sensed, after_sensors, sensed_of, with_sensed}
use Rattle.drill_summary.specs.Streams.{IsOfOperators, IsOfSensors, IsSensed, IsSwitching}
use Rattle.drill_summary.specs.Summaries.{is_commanded, is_late}
use Rattle.drill_summary.proofs.Apart.{Keeps, Steps, Tells}
use Rattle.drill_summary.proofs.Fitting.{Fits}
use Rattle.drill_summary.proofs.Replies.{reply-entry}

-- ---- calls of others leave it

keeps-switching : (state : State) (switching : Switching)
    → sensed_of (after_switching state switching) ≡ sensed_of state
keeps-switching state Unknown = refl
keeps-switching state NoPiece = refl
keeps-switching state Same = refl
keeps-switching state (To status) = refl

keeps-telegram : (plant : Parts) (state : State) (t : Telegram) (reply : Reply) → IsSwitching t
    → sensed_of (after_call plant state (calls.Telegram t) reply) ≡ sensed_of state
keeps-telegram plant state (Thruster name selected) reply is =
    keeps-switching state (thruster_switching plant state.latest.status name selected)
keeps-telegram plant state (Generator name running) reply is =
    keeps-switching state (generator_switching plant state.latest.status name running)
keeps-telegram plant state (Tie name closed) reply is =
    keeps-switching state (tie_switching plant state.latest.status name closed)
keeps-telegram plant state (Bar name piece barred) reply is =
    keeps-switching state (bar_switching plant state.latest.status name piece barred)
keeps-telegram plant state (Ack number) reply is = refl
keeps-telegram plant state Board reply is = refl
keeps-telegram plant state (Position moment x y heading) reply is = absurd is
keeps-telegram plant state (Wind moment speed angle) reply is = absurd is
keeps-telegram plant state (Setpoint x y heading) reply is = absurd is
keeps-telegram plant state (Mode is_manual) reply is = absurd is
keeps-telegram plant state (Manual demand) reply is = absurd is

keeps-orders : (plant : Parts) (state : State) (call : Call) (reply : Reply) → IsOfOperators call
    → sensed_of (after_call plant state call reply) ≡ sensed_of state
keeps-orders plant state (calls.Telegram t) reply is = keeps-telegram plant state t reply is
keeps-orders plant state (calls.Note n) reply is = refl
keeps-orders plant state (calls.Publish version group outcome) reply is = absurd is
keeps-orders plant state calls.Close reply is = absurd is

keeps-verdict : (plant : Parts) (state : State) (version group : ℕ) (outcome : Outcome)
    (reply : Reply)
    → sensed_of (after_call plant state (calls.Publish version group outcome) reply)
    ≡ sensed_of state
keeps-verdict plant state version group outcome replies.Shown = refl
keeps-verdict plant state version group outcome _ = refl

keeps-others : (plant : Parts) (state : State) (call : Call) (reply : Reply)
    → is_event call ≡ false → sensed_of (after_call plant state call reply) ≡ sensed_of state
keeps-others plant state (calls.Telegram t) reply is = absurd (cc)
keeps-others plant state (calls.Note n) reply is = absurd (cc)
keeps-others plant state (calls.Publish version group outcome) reply is =
    keeps-verdict plant state version group outcome reply
keeps-others plant state calls.Close reply is = refl

keeps-where : (plant : Parts) (stand : Stand) (entry : Entry) (second : Bool) → Fits entry
    → (entry.caller == 1) ≡ false → (entry.caller == 2) ≡ second
    → sensed_of (next plant stand entry).state ≡ sensed_of stand.state
keeps-where plant stand entry true fits other is =
    keeps-orders plant stand.state entry.call entry.reply
    (fits.orders (eqb-true entry.caller 2 is))
keeps-where plant stand entry false fits other is =
    keeps-others plant stand.state entry.call entry.reply
    (fits.others (eqb-false entry.caller 1 other) (eqb-false entry.caller 2 is))

pub sensed-keeps : (plant : Parts) → Keeps plant 1 sensed_of
sensed-keeps plant stand entry fits other =
    keeps-where plant stand entry (entry.caller == 2) fits other refl

-- ---- their own

steps-unless : (is_late : Option ℕ) (one other after after_other : State)
    → sensed_of one ≡ sensed_of other → sensed_of after ≡ sensed_of after_other
    → sensed_of (state_unless_late is_late one after)
    ≡ sensed_of (state_unless_late is_late other after_other)
steps-unless (Some last) one other after after_other stays moves = stays
steps-unless None one other after after_other stays moves = moves

steps-telegram : (plant : Parts) (state : State) (t : Telegram) (reply : Reply) → IsSensed t
    → sensed_of (after_call plant state (calls.Telegram t) reply)
    ≡ after_sensors plant (sensed_of state) (calls.Telegram t)
steps-telegram plant state (Position moment x y heading) reply is =
    let at : Fix = record { x = x; y = y; heading = heading } in
    let alone = with_sensed plant (sensed_of state) in
    steps-unless (late state.last_position moment) state alone
    (with_version_for plant (sensed state moment at))
    (with_version_for plant (sensed alone moment at)) refl refl
steps-telegram plant state (Wind moment speed angle) reply is =
    let alone = with_sensed plant (sensed_of state) in
    steps-unless (late state.last_wind moment) state alone
    (record state { last_wind = Some moment; wind = wind_load plant.wind speed angle })
    (record alone { last_wind = Some moment; wind = wind_load plant.wind speed angle }) refl refl
steps-telegram plant state (Setpoint x y heading) reply is = absurd is
steps-telegram plant state (Thruster name selected) reply is = absurd is
steps-telegram plant state (Generator name running) reply is = absurd is
steps-telegram plant state (Tie name closed) reply is = absurd is
steps-telegram plant state (Mode is_manual) reply is = absurd is
steps-telegram plant state (Manual demand) reply is = absurd is
steps-telegram plant state (Ack number) reply is = absurd is
steps-telegram plant state Board reply is = absurd is
steps-telegram plant state (Bar name piece barred) reply is = absurd is

steps-call : (plant : Parts) (state : State) (call : Call) (reply : Reply) → IsOfSensors call
    → sensed_of (after_call plant state call reply) ≡ after_sensors plant (sensed_of state) call
steps-call plant state (calls.Telegram t) reply is = steps-telegram plant state t reply is
steps-call plant state (calls.Note n) reply is = refl
steps-call plant state (calls.Publish version group outcome) reply is = absurd is
steps-call plant state calls.Close reply is = absurd is

pub sensed-steps : (plant : Parts) → Steps plant 1 sensed_of (after_sensors plant)
sensed-steps plant stand entry fits is =
    steps-call plant stand.state entry.call entry.reply (fits.control (eqb-true entry.caller 1 is))

-- ---- their replies

abbrev is_none : Option ℕ → Bool
is_none None = true
is_none (Some last) = false

abbrev is_some : Option ℕ → Bool
is_some None = false
is_some (Some last) = true

-- a position in its time is answered by a command
abbrev commands_telegram : Sensed → Telegram → Bool
commands_telegram part (Position moment x y heading) = is_none (late part.last_position moment)
commands_telegram part _ = false

abbrev pub commands : Sensed → Call → Bool
commands part (calls.Telegram t) = commands_telegram part t
commands part _ = false

-- a position and a wind may be late
abbrev is_late_telegram : Sensed → Telegram → Bool
is_late_telegram part (Position moment x y heading) = is_some (late part.last_position moment)
is_late_telegram part (Wind moment speed angle) = is_some (late part.last_wind moment)
is_late_telegram part _ = false

abbrev pub comes_late : Sensed → Call → Bool
comes_late part (calls.Telegram t) = is_late_telegram part t
comes_late part _ = false

-- a reply that is either too late or a command
record IsTimed (is_late_by : Option ℕ) (reply : Reply) : Type 0 where
  commanded : is_commanded reply ≡ is_none is_late_by
  late : is_late reply ≡ is_some is_late_by

timed-command : (plant : Parts) (state : State) (reply : Reply) → IsCommanded plant state reply
    → IsTimed None reply
timed-command plant state (replies.Commanded version demand allocation) is =
    record { commanded = refl; late = refl }
timed-command plant state _ is = absurd is

timed-position : (is_late_by : Option ℕ) (plant : Parts) (state : State) (reply : Reply)
    → IsCommandedUnlessLate is_late_by plant state reply → IsTimed is_late_by reply
timed-position (Some last) plant state reply is =
    record { commanded = ap is_commanded is; late = ap is_late is }
timed-position None plant state reply is = timed-command plant state reply is

-- a wind is late or taken
wind-commanded : (is_late_by : Option ℕ) (reply : Reply)
    → reply ≡ unless_late is_late_by replies.Taken → is_commanded reply ≡ false
wind-commanded (Some last) reply is = ap is_commanded is
wind-commanded None reply is = ap is_commanded is

wind-late : (is_late_by : Option ℕ) (reply : Reply)
    → reply ≡ unless_late is_late_by replies.Taken → is_late reply ≡ is_some is_late_by
wind-late (Some last) reply is = ap is_late is
wind-late None reply is = ap is_late is

-- both facts of a reply to a call of the sensors
record IsTold (part : Sensed) (call : Call) (reply : Reply) : Type 0 where
  commanded : is_commanded reply ≡ commands part call
  late : is_late reply ≡ comes_late part call

told-telegram : (plant : Parts) (stand : Stand) (t : Telegram) (reply : Reply) → IsSensed t
    → IsReply plant stand (calls.Telegram t) reply
    → IsTold (sensed_of stand.state) (calls.Telegram t) reply
told-telegram plant stand (Position moment x y heading) reply kind is =
    let at : Fix = record { x = x; y = y; heading = heading } in
    let timed = timed-position (late stand.state.last_position moment) plant
    (sensed stand.state moment at) reply is in
    record { commanded = timed.commanded; late = timed.late }
told-telegram plant stand (Wind moment speed angle) reply kind is =
    let is_late_by = late stand.state.last_wind moment in
    record { commanded = wind-commanded is_late_by reply is; late = wind-late is_late_by reply is }
told-telegram plant stand (Setpoint x y heading) reply kind is = absurd kind
told-telegram plant stand (Thruster name selected) reply kind is = absurd kind
told-telegram plant stand (Generator name running) reply kind is = absurd kind
told-telegram plant stand (Tie name closed) reply kind is = absurd kind
told-telegram plant stand (Mode is_manual) reply kind is = absurd kind
told-telegram plant stand (Manual demand) reply kind is = absurd kind
told-telegram plant stand (Ack number) reply kind is = absurd kind
told-telegram plant stand Board reply kind is = absurd kind
told-telegram plant stand (Bar name piece barred) reply kind is = absurd kind

told-call : (plant : Parts) (stand : Stand) (call : Call) (reply : Reply) → IsOfSensors call
    → IsReply plant stand call reply → IsTold (sensed_of stand.state) call reply
told-call plant stand (calls.Telegram t) reply kind is = told-telegram plant stand t reply kind is
told-call plant stand (calls.Note n) reply kind is =
    record { commanded = ap is_commanded is; late = ap is_late is }
told-call plant stand (calls.Publish version group outcome) reply kind is = absurd kind
told-call plant stand calls.Close reply kind is = absurd kind

told-entry : (plant : Parts) (limit : ℕ) (stand : Stand) (entry : Entry)
    → IsEntry plant limit stand entry → Fits entry → (entry.caller == 1) ≡ true
    → IsTold (sensed_of stand.state) entry.call entry.reply
told-entry plant limit stand entry is fits mine =
    told-call plant stand entry.call entry.reply (fits.control (eqb-true entry.caller 1 mine))
    (reply-entry plant limit stand entry is)

pub tells-commanded : (plant : Parts) (limit : ℕ)
    → Tells plant limit 1 sensed_of is_commanded commands
tells-commanded plant limit stand entry is fits mine =
    (told-entry plant limit stand entry is fits mine).commanded

pub tells-late : (plant : Parts) (limit : ℕ) → Tells plant limit 1 sensed_of is_late comes_late
tells-late plant limit stand entry is fits mine =
    (told-entry plant limit stand entry is fits mine).late
