-- What the last command asks is what the machine's state says is asked.
use Rattle.std.proofs.Common.{◌≡◌, ◌∙◌, ℕ, List, [], ◌∷◌, Bool, true, false, cond, Option, None}
use Rattle.std.proofs.Common.{Some, refl, ap, sym, nat_lt}
use Rattle.std.specs.List.{fold}
use Rattle.certificate.specs.Outcomes.{Question}
use Rattle.certificate.specs.declared.outcome.Outcome.{Outcome}
use Rattle.pid.specs.declared.position.Fix.{Fix}
use Rattle.plant_model.specs.declared.plant.Parts.{Parts}
use Rattle.plant_model.specs.declared.wrench.Wrench.{Wrench}
use Rattle.telegram.specs.declared.telegram.Telegram.{Telegram}
use Rattle.telegram.specs.declared.telegram.Telegram.TheVariants.{Position, Wind, Setpoint}
use Rattle.telegram.specs.declared.telegram.Telegram.TheVariants.{Thruster, Generator, Tie, Mode}
use Rattle.telegram.specs.declared.telegram.Telegram.TheVariants.{Manual, Ack, Board, Bar}
use Rattle.wind_axes.specs.Wind.{wind_load}
use Rattle.alarm_log.specs.Alarms.{is_unacknowledged_in}
use Rattle.plant_core.specs.Board.{IsJudged, IsPublishWhere, asked_of, is_shown}
use Rattle.plant_core.specs.Machine.{IsLegal, IsLegalFrom, IsReply, Stand, after_call}
use Rattle.plant_core.specs.Machine.{next, opening_stand, state_after}
use Rattle.plant_core.specs.Orders.{no_demand, restarted}
use Rattle.plant_core.specs.Sensing.{IsCommanded, IsCommandedUnlessLate, late, sensed}
use Rattle.plant_core.specs.Sensing.{state_unless_late, unless_late, with_version_for}
use Rattle.plant_core.specs.Switching.{after_switching, bar_switching, generator_switching, is_same}
use Rattle.plant_core.specs.Switching.{switching_reply, thruster_switching, tie_switching}
use Rattle.plant_core.specs.declared.call.Call.{Call}
use Rattle.plant_core.specs.declared.call.Call.TheVariants as calls
use Rattle.plant_core.specs.declared.call.Entry.{Entry}
use Rattle.plant_core.specs.declared.call.Reply.{Reply}
use Rattle.plant_core.specs.declared.call.Reply.TheVariants as replies
use Rattle.plant_core.specs.declared.state.State.{State}
use Rattle.plant_core.specs.declared.switch.Switching.{Switching}
use Rattle.plant_core.specs.declared.switch.Switching.TheVariants.{Unknown, NoPiece, Same, To}
use Rattle.drill_summary.specs.Summaries.{demand_after, last_demand}
use Rattle.drill_summary.proofs.Replies.{reply-entry}

-- the reply says what is asked after the call
abbrev Tells : State → State → Reply → Type 0
Tells before after reply = demand_after before.demand reply ≡ after.demand

-- a reply that is no command, and a call after which the same is asked
tells-same : (before after : State) (reply other : Reply) → reply ≡ other
    → demand_after before.demand other ≡ before.demand → after.demand ≡ before.demand
    → Tells before after reply
tells-same before after reply other is no_command same =
    ap (λ r. demand_after before.demand r) is ∙ no_command ∙ sym same

tells-command : (plant : Parts) (before state : State) (reply : Reply)
    → IsCommanded plant state reply → Tells before (with_version_for plant state) reply
tells-command plant before state (replies.Commanded version demand allocation) is = is.demand
tells-command plant before state _ is = absurd is

tells-position : (is_late_by : Option ℕ) (plant : Parts) (before state : State) (reply : Reply)
    → IsCommandedUnlessLate is_late_by plant state reply
    → Tells before (state_unless_late is_late_by before (with_version_for plant state)) reply
tells-position (Some last) plant before state reply is =
    tells-same before before reply (replies.Late last) is refl refl
tells-position None plant before state reply is = tells-command plant before state reply is

tells-wind : (is_late_by : Option ℕ) (before after : State) (reply : Reply)
    → reply ≡ unless_late is_late_by replies.Taken → after.demand ≡ before.demand
    → Tells before (state_unless_late is_late_by before after) reply
tells-wind (Some last) before after reply is same =
    tells-same before before reply (replies.Late last) is refl refl
tells-wind None before after reply is same =
    tells-same before after reply replies.Taken is refl same

tells-switching : (before : State) (switching : Switching) (reply : Reply)
    → reply ≡ switching_reply before switching
    → Tells before (after_switching before switching) reply
tells-switching before Unknown reply is =
    tells-same before before reply replies.UnknownName is refl refl
tells-switching before NoPiece reply is =
    tells-same before before reply replies.NoPiece is refl refl
tells-switching before Same reply is = tells-same before before reply replies.Same is refl refl
tells-switching before (To status) reply is =
    tells-same before (after_switching before (To status)) reply
    (switching_reply before (To status)) is refl refl

-- one of two replies, and one of two states, by a test
tells-one_of : (first : Bool) (before one other : State) (reply said said_other : Reply)
    → reply ≡ cond first said said_other
    → demand_after before.demand said ≡ before.demand
    → demand_after before.demand said_other ≡ before.demand
    → one.demand ≡ before.demand → other.demand ≡ before.demand
    → Tells before (cond first one other) reply
tells-one_of true before one other reply said said_other is no_command no_other same same_other =
    tells-same before one reply said is no_command same
tells-one_of false before one other reply said said_other is no_command no_other same same_other =
    tells-same before other reply said_other is no_other same_other

tells-ack : (taken : Bool) (state : State) (reply : Reply)
    → reply ≡ cond taken replies.Taken replies.NoSuchAlarm → Tells state state reply
tells-ack true state reply is = tells-same state state reply replies.Taken is refl refl
tells-ack false state reply is = tells-same state state reply replies.NoSuchAlarm is refl refl

tells-telegram : (plant : Parts) (stand : Stand) (t : Telegram) (reply : Reply)
    → IsReply plant stand (calls.Telegram t) reply
    → Tells stand.state (after_call plant stand.state (calls.Telegram t) reply) reply
tells-telegram plant stand (Position moment x y heading) reply is =
    let at : Fix = record { x = x; y = y; heading = heading } in
    tells-position (late stand.state.last_position moment) plant stand.state
    (sensed stand.state moment at) reply is
tells-telegram plant stand (Wind moment speed angle) reply is =
    tells-wind (late stand.state.last_wind moment) stand.state
    (record stand.state { last_wind = Some moment; wind = wind_load plant.wind speed angle }) reply
    is refl
tells-telegram plant stand (Setpoint x y heading) reply is =
    tells-one_of stand.state.is_manual stand.state stand.state
    (record (restarted stand.state) { set_point = record { x = x; y = y; heading = heading } })
    reply replies.WrongMode replies.Taken is refl refl refl refl
tells-telegram plant stand (Thruster name selected) reply is =
    tells-switching stand.state
    (thruster_switching plant stand.state.latest.status name selected) reply is
tells-telegram plant stand (Generator name running) reply is =
    tells-switching stand.state
    (generator_switching plant stand.state.latest.status name running) reply is
tells-telegram plant stand (Tie name closed) reply is =
    tells-switching stand.state
    (tie_switching plant stand.state.latest.status name closed) reply is
tells-telegram plant stand (Mode is_manual) reply is =
    tells-one_of (is_same stand.state.is_manual is_manual) stand.state stand.state
    (record (restarted stand.state) { is_manual = is_manual; manual = no_demand })
    reply replies.Same replies.Taken is refl refl refl refl
tells-telegram plant stand (Manual demand) reply is =
    tells-one_of stand.state.is_manual stand.state (record stand.state { manual = demand })
    stand.state reply replies.Taken replies.WrongMode is refl refl refl refl
tells-telegram plant stand (Ack number) reply is =
    tells-ack (is_unacknowledged_in number stand.alarms) stand.state reply is
tells-telegram plant stand Board reply is = ap (λ r. demand_after stand.state.demand r) is
tells-telegram plant stand (Bar name piece barred) reply is =
    tells-switching stand.state
    (bar_switching plant stand.state.latest.status name piece barred) reply is

-- ---- verdicts

judged-no_command : (demand : Wrench) (question : Question) (outcome : Outcome) (reply : Reply)
    → IsJudged question outcome reply → demand_after demand reply ≡ demand
judged-no_command demand question outcome replies.Shown is = refl
judged-no_command demand question outcome (replies.Refused place) is = refl
judged-no_command demand question outcome _ is = absurd is

publish-no_command : (past before there : Bool) (plant : Parts) (state : State) (group : ℕ)
    (outcome : Outcome) (reply : Reply) (demand : Wrench)
    → IsPublishWhere past before there plant state group outcome reply
    → demand_after demand reply ≡ demand
publish-no_command true before there plant state group outcome reply demand is =
    ap (λ r. demand_after demand r) is
publish-no_command false true there plant state group outcome reply demand is =
    ap (λ r. demand_after demand r) is
publish-no_command false false true plant state group outcome reply demand is =
    ap (λ r. demand_after demand r) is
publish-no_command false false false plant state group outcome reply demand is =
    judged-no_command demand (asked_of plant state group) outcome reply is

publish-demand : (plant : Parts) (state : State) (version group : ℕ) (outcome : Outcome)
    (reply : Reply)
    → state.demand
    ≡ (after_call plant state (calls.Publish version group outcome) reply).demand
publish-demand plant state version group outcome replies.Shown = refl
publish-demand plant state version group outcome _ = refl

tells-call : (plant : Parts) (stand : Stand) (call : Call) (reply : Reply)
    → IsReply plant stand call reply
    → Tells stand.state (after_call plant stand.state call reply) reply
tells-call plant stand (calls.Telegram t) reply is = tells-telegram plant stand t reply is
tells-call plant stand (calls.Note n) reply is = ap (λ r. demand_after stand.state.demand r) is
tells-call plant stand (calls.Publish version group outcome) reply is =
    let latest = stand.state.latest.number in
    publish-no_command (nat_lt latest version) (nat_lt version latest) (is_shown stand.state group)
    plant stand.state group outcome reply stand.state.demand is
    ∙ publish-demand plant stand.state version group outcome reply
tells-call plant stand calls.Close reply is = ap (λ r. demand_after stand.state.demand r) is

demand-from : (plant : Parts) (limit : ℕ) (stand : Stand) (history : List Entry)
    → IsLegalFrom plant limit stand history
    → fold (λ demand entry. demand_after demand entry.reply) stand.state.demand history
    ≡ (fold (next plant) stand history).state.demand
demand-from plant limit stand [] legal = refl
demand-from plant limit stand (entry ∷ more) legal =
    ap (λ d. fold (λ demand e. demand_after demand e.reply) d more)
    (tells-call plant stand entry.call entry.reply (reply-entry plant limit stand entry legal.0))
    ∙ demand-from plant limit (next plant stand entry) more legal.1

pub demand-last : (plant : Parts) (limit : ℕ) (history : List Entry) → IsLegal plant limit history
    → last_demand history ≡ (state_after plant history).demand
demand-last plant limit history legal = demand-from plant limit (opening_stand plant) history legal
