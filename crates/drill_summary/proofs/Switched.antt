-- How the plant is switched is made by the operators alone.
use Rattle.std.proofs.Common.{◌≡◌, ℕ, ◌+◌, Bool, true, false, cond, ◌==◌, Option, None, Some}
use Rattle.std.proofs.Common.{refl, ap}
use Rattle.std.proofs.lemmas.Bool.{eqb-false, eqb-true}
use Rattle.certificate.specs.declared.outcome.Outcome.{Outcome}
use Rattle.pid.specs.declared.position.Fix.{Fix}
use Rattle.plant_model.specs.Versions.{Version, are_separate}
use Rattle.plant_model.specs.declared.plant.Parts.{Parts}
use Rattle.plant_model.specs.declared.status.Status.{Status}
use Rattle.telegram.specs.declared.telegram.Telegram.{Telegram}
use Rattle.telegram.specs.declared.telegram.Telegram.TheVariants.{Position, Wind, Setpoint}
use Rattle.telegram.specs.declared.telegram.Telegram.TheVariants.{Thruster, Generator, Tie, Mode}
use Rattle.telegram.specs.declared.telegram.Telegram.TheVariants.{Manual, Ack, Board, Bar}
use Rattle.wind_axes.specs.Wind.{wind_load}
use Rattle.alarm_log.specs.Alarms.{is_unacknowledged_in}
use Rattle.plant_core.specs.Machine.{IsEntry, IsReply, Stand, after_call, is_event, next}
use Rattle.plant_core.specs.Sensing.{late, sensed, state_unless_late, with_version_for}
use Rattle.plant_core.specs.Switching.{after_switching, bar_switching, generator_switching}
use Rattle.plant_core.specs.Switching.{switching_reply, thruster_switching, tie_switching}
use Rattle.plant_core.specs.declared.call.Call.{Call}
use Rattle.plant_core.specs.declared.call.Call.TheVariants as calls
use Rattle.plant_core.specs.declared.call.Entry.{Entry}
use Rattle.plant_core.specs.declared.call.Reply.{Reply}
use Rattle.plant_core.specs.declared.call.Reply.TheVariants as replies
use Rattle.plant_core.specs.declared.state.State.{State}
use Rattle.plant_core.specs.declared.switch.Switching.{Switching}
use Rattle.plant_core.specs.declared.switch.Switching.TheVariants.{Unknown, NoPiece, Same, To}
use Rattle.drill_summary.specs.Projections.{after_switches, status_of, with_status}
use Rattle.drill_summary.specs.Streams.{IsOfOperators, IsOfSensors, IsSensed, IsSwitching}
use Rattle.drill_summary.specs.Summaries.{is_same, is_version}
use Rattle.drill_summary.proofs.Apart.{Keeps, Steps, Tells}
use Rattle.drill_summary.proofs.Fitting.{Fits}
use Rattle.drill_summary.proofs.Replies.{reply-entry}

-- ---- calls of others leave it

status-one_of : (latest changed : Version) (moves : Bool) → changed.status ≡ latest.status
    → (cond moves changed latest).status ≡ latest.status
status-one_of latest changed true same = same
status-one_of latest changed false same = refl

status-version : (plant : Parts) (state : State)
    → status_of (with_version_for plant state) ≡ status_of state
status-version plant state = status-one_of state.latest
    (record state.latest { number = state.latest.number + 1; demand = state.demand })
    (are_separate state.demand state.latest.demand plant.band) refl

status-unless : (is_late : Option ℕ) (stays after : State) → status_of after ≡ status_of stays
    → status_of (state_unless_late is_late stays after) ≡ status_of stays
status-unless (Some last) stays after same = refl
status-unless None stays after same = same

keeps-telegram : (plant : Parts) (state : State) (t : Telegram) (reply : Reply) → IsSensed t
    → status_of (after_call plant state (calls.Telegram t) reply) ≡ status_of state
keeps-telegram plant state (Position moment x y heading) reply is =
    let at : Fix = record { x = x; y = y; heading = heading } in
    status-unless (late state.last_position moment) state
    (with_version_for plant (sensed state moment at))
    (status-version plant (sensed state moment at))
keeps-telegram plant state (Wind moment speed angle) reply is =
    status-unless (late state.last_wind moment) state
    (record state { last_wind = Some moment; wind = wind_load plant.wind speed angle }) refl
keeps-telegram plant state (Setpoint x y heading) reply is = absurd is
keeps-telegram plant state (Thruster name selected) reply is = absurd is
keeps-telegram plant state (Generator name running) reply is = absurd is
keeps-telegram plant state (Tie name closed) reply is = absurd is
keeps-telegram plant state (Mode is_manual) reply is = absurd is
keeps-telegram plant state (Manual demand) reply is = absurd is
keeps-telegram plant state (Ack number) reply is = absurd is
keeps-telegram plant state Board reply is = absurd is
keeps-telegram plant state (Bar name piece barred) reply is = absurd is

keeps-sensors : (plant : Parts) (state : State) (call : Call) (reply : Reply) → IsOfSensors call
    → status_of (after_call plant state call reply) ≡ status_of state
keeps-sensors plant state (calls.Telegram t) reply is = keeps-telegram plant state t reply is
keeps-sensors plant state (calls.Note n) reply is = refl
keeps-sensors plant state (calls.Publish version group outcome) reply is = absurd is
keeps-sensors plant state calls.Close reply is = absurd is

keeps-verdict : (plant : Parts) (state : State) (version group : ℕ) (outcome : Outcome)
    (reply : Reply)
    → status_of (after_call plant state (calls.Publish version group outcome) reply)
    ≡ status_of state
keeps-verdict plant state version group outcome replies.Shown = refl
keeps-verdict plant state version group outcome _ = refl

keeps-others : (plant : Parts) (state : State) (call : Call) (reply : Reply)
    → is_event call ≡ false → status_of (after_call plant state call reply) ≡ status_of state
keeps-others plant state (calls.Telegram t) reply is = absurd (cc)
keeps-others plant state (calls.Note n) reply is = absurd (cc)
keeps-others plant state (calls.Publish version group outcome) reply is =
    keeps-verdict plant state version group outcome reply
keeps-others plant state calls.Close reply is = refl

keeps-where : (plant : Parts) (stand : Stand) (entry : Entry) (first : Bool) → Fits entry
    → (entry.caller == 2) ≡ false → (entry.caller == 1) ≡ first
    → status_of (next plant stand entry).state ≡ status_of stand.state
keeps-where plant stand entry true fits other is =
    keeps-sensors plant stand.state entry.call entry.reply
    (fits.control (eqb-true entry.caller 1 is))
keeps-where plant stand entry false fits other is =
    keeps-others plant stand.state entry.call entry.reply
    (fits.others (eqb-false entry.caller 1 is) (eqb-false entry.caller 2 other))

pub status-keeps : (plant : Parts) → Keeps plant 2 status_of
status-keeps plant stand entry fits other =
    keeps-where plant stand entry (entry.caller == 1) fits other refl

-- ---- their own

steps-switching : (one other : State) (switching : Switching) → status_of one ≡ status_of other
    → status_of (after_switching one switching) ≡ status_of (after_switching other switching)
steps-switching one other Unknown same = same
steps-switching one other NoPiece same = same
steps-switching one other Same same = same
steps-switching one other (To status) same = refl

steps-telegram : (plant : Parts) (state : State) (t : Telegram) (reply : Reply) → IsSwitching t
    → status_of (after_call plant state (calls.Telegram t) reply)
    ≡ after_switches plant (status_of state) (calls.Telegram t)
steps-telegram plant state (Thruster name selected) reply is =
    steps-switching state (with_status plant (status_of state))
    (thruster_switching plant state.latest.status name selected) refl
steps-telegram plant state (Generator name running) reply is =
    steps-switching state (with_status plant (status_of state))
    (generator_switching plant state.latest.status name running) refl
steps-telegram plant state (Tie name closed) reply is =
    steps-switching state (with_status plant (status_of state))
    (tie_switching plant state.latest.status name closed) refl
steps-telegram plant state (Bar name piece barred) reply is =
    steps-switching state (with_status plant (status_of state))
    (bar_switching plant state.latest.status name piece barred) refl
steps-telegram plant state (Ack number) reply is = refl
steps-telegram plant state Board reply is = refl
steps-telegram plant state (Position moment x y heading) reply is = absurd is
steps-telegram plant state (Wind moment speed angle) reply is = absurd is
steps-telegram plant state (Setpoint x y heading) reply is = absurd is
steps-telegram plant state (Mode is_manual) reply is = absurd is
steps-telegram plant state (Manual demand) reply is = absurd is

steps-call : (plant : Parts) (state : State) (call : Call) (reply : Reply) → IsOfOperators call
    → status_of (after_call plant state call reply) ≡ after_switches plant (status_of state) call
steps-call plant state (calls.Telegram t) reply is = steps-telegram plant state t reply is
steps-call plant state (calls.Note n) reply is = refl
steps-call plant state (calls.Publish version group outcome) reply is = absurd is
steps-call plant state calls.Close reply is = absurd is

pub status-steps : (plant : Parts) → Steps plant 2 status_of (after_switches plant)
status-steps plant stand entry fits is =
    steps-call plant stand.state entry.call entry.reply (fits.orders (eqb-true entry.caller 2 is))

-- ---- their replies

abbrev is_change : Switching → Bool
is_change (To status) = true
is_change _ = false

abbrev is_no_change : Switching → Bool
is_no_change Same = true
is_no_change _ = false

-- what a telegram would switch
abbrev switching_of : Parts → Status → Telegram → Switching
switching_of plant status (Thruster name selected) = thruster_switching plant status name selected
switching_of plant status (Generator name running) = generator_switching plant status name running
switching_of plant status (Tie name closed) = tie_switching plant status name closed
switching_of plant status (Bar name piece barred) = bar_switching plant status name piece barred
switching_of plant status _ = Unknown

abbrev pub makes_version : Parts → Status → Call → Bool
makes_version plant status (calls.Telegram t) = is_change (switching_of plant status t)
makes_version plant status _ = false

abbrev pub changes_nothing : Parts → Status → Call → Bool
changes_nothing plant status (calls.Telegram t) = is_no_change (switching_of plant status t)
changes_nothing plant status _ = false

-- both facts of a reply where this is switched
record IsSwitched (switching : Switching) (reply : Reply) : Type 0 where
  version : is_version reply ≡ is_change switching
  same : is_same reply ≡ is_no_change switching

switched-reply : (state : State) (switching : Switching) (reply : Reply)
    → reply ≡ switching_reply state switching → IsSwitched switching reply
switched-reply state Unknown reply is = record { version = ap is_version is; same = ap is_same is }
switched-reply state NoPiece reply is = record { version = ap is_version is; same = ap is_same is }
switched-reply state Same reply is = record { version = ap is_version is; same = ap is_same is }
switched-reply state (To status) reply is =
    record { version = ap is_version is; same = ap is_same is }

switched-ack : (taken : Bool) (reply : Reply)
    → reply ≡ cond taken replies.Taken replies.NoSuchAlarm → IsSwitched Unknown reply
switched-ack true reply is = record { version = ap is_version is; same = ap is_same is }
switched-ack false reply is = record { version = ap is_version is; same = ap is_same is }

switched-telegram : (plant : Parts) (stand : Stand) (t : Telegram) (reply : Reply)
    → IsSwitching t → IsReply plant stand (calls.Telegram t) reply
    → IsSwitched (switching_of plant (status_of stand.state) t) reply
switched-telegram plant stand (Thruster name selected) reply kind is =
    switched-reply stand.state
    (thruster_switching plant stand.state.latest.status name selected) reply is
switched-telegram plant stand (Generator name running) reply kind is =
    switched-reply stand.state
    (generator_switching plant stand.state.latest.status name running) reply is
switched-telegram plant stand (Tie name closed) reply kind is =
    switched-reply stand.state (tie_switching plant stand.state.latest.status name closed) reply is
switched-telegram plant stand (Bar name piece barred) reply kind is =
    switched-reply stand.state
    (bar_switching plant stand.state.latest.status name piece barred) reply is
switched-telegram plant stand (Ack number) reply kind is =
    switched-ack (is_unacknowledged_in number stand.alarms) reply is
switched-telegram plant stand Board reply kind is =
    record { version = ap is_version is; same = ap is_same is }
switched-telegram plant stand (Position moment x y heading) reply kind is = absurd kind
switched-telegram plant stand (Wind moment speed angle) reply kind is = absurd kind
switched-telegram plant stand (Setpoint x y heading) reply kind is = absurd kind
switched-telegram plant stand (Mode is_manual) reply kind is = absurd kind
switched-telegram plant stand (Manual demand) reply kind is = absurd kind

record IsTold (plant : Parts) (status : Status) (call : Call) (reply : Reply) : Type 0 where
  version : is_version reply ≡ makes_version plant status call
  same : is_same reply ≡ changes_nothing plant status call

told-call : (plant : Parts) (stand : Stand) (call : Call) (reply : Reply) → IsOfOperators call
    → IsReply plant stand call reply → IsTold plant (status_of stand.state) call reply
told-call plant stand (calls.Telegram t) reply kind is =
    let switched = switched-telegram plant stand t reply kind is in
    record { version = switched.version; same = switched.same }
told-call plant stand (calls.Note n) reply kind is =
    record { version = ap is_version is; same = ap is_same is }
told-call plant stand (calls.Publish version group outcome) reply kind is = absurd kind
told-call plant stand calls.Close reply kind is = absurd kind

told-entry : (plant : Parts) (limit : ℕ) (stand : Stand) (entry : Entry)
    → IsEntry plant limit stand entry → Fits entry → (entry.caller == 2) ≡ true
    → IsTold plant (status_of stand.state) entry.call entry.reply
told-entry plant limit stand entry is fits mine =
    told-call plant stand entry.call entry.reply (fits.orders (eqb-true entry.caller 2 mine))
    (reply-entry plant limit stand entry is)

pub tells-version : (plant : Parts) (limit : ℕ)
    → Tells plant limit 2 status_of is_version (makes_version plant)
tells-version plant limit stand entry is fits mine =
    (told-entry plant limit stand entry is fits mine).version

pub tells-same : (plant : Parts) (limit : ℕ)
    → Tells plant limit 2 status_of is_same (changes_nothing plant)
tells-same plant limit stand entry is fits mine =
    (told-entry plant limit stand entry is fits mine).same
