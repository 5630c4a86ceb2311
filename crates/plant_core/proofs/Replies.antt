-- Replies that are answers, and when they are allowed.
use Rattle.std.proofs.Common.{◌≡◌, ℕ, nat_lt, Bool, true, false, cond, Option, None, Some}
use Rattle.std.proofs.Common.{ap, subst, ◌∙◌}
use Rattle.std.proofs.Math.Path.{refl}
use Rattle.alarm_log.specs.Alarms.{AlarmBook, is_unacknowledged_in}
use Rattle.certificate.specs.Outcomes.{Question}
use Rattle.certificate.specs.declared.outcome.Outcome.{Outcome}
use Rattle.pid.specs.declared.position.Fix.{Fix}
use Rattle.plant_model.specs.declared.plant.Parts.{Parts}
use Rattle.telegram.specs.declared.telegram.Telegram.{Telegram}
use Rattle.telegram.specs.declared.telegram.Telegram.TheVariants.{Position, Wind, Setpoint}
use Rattle.telegram.specs.declared.telegram.Telegram.TheVariants.{Thruster}
use Rattle.telegram.specs.declared.telegram.Telegram.TheVariants.{Generator, Tie, Mode, Manual}
use Rattle.telegram.specs.declared.telegram.Telegram.TheVariants.{Ack, Board, Bar}
use Rattle.plant_core.specs.Board.{IsJudged, IsPublishWhere, asked_of, is_shown}
use Rattle.plant_core.specs.Machine.{IsAllowed, IsAllowedWhere, IsReply, IsTelegramReply, Stand}
use Rattle.plant_core.specs.Machine.{CoreView, is_answer, is_full, stand_of}
use Rattle.plant_core.specs.Sensing.{IsCommanded, IsCommandedUnlessLate, late, sensed, unless_late}
use Rattle.plant_core.specs.Switching.{bar_switching, generator_switching, is_same}
use Rattle.plant_core.specs.Switching.{switching_reply, thruster_switching, tie_switching}
use Rattle.plant_core.specs.declared.call.Call.{Call}
use Rattle.plant_core.specs.declared.call.Call.TheVariants as calls
use Rattle.plant_core.specs.declared.call.Reply.{Reply}
use Rattle.plant_core.specs.declared.call.Reply.TheVariants.{Same, Taken, WrongMode}
use Rattle.plant_core.specs.declared.call.Reply.TheVariants.{Commanded, NoSuchAlarm, Shown}
use Rattle.plant_core.specs.declared.call.Reply.TheVariants.{Refused, Closed, JournalFull}
use Rattle.plant_core.specs.declared.state.State.{State}
use Rattle.plant_core.specs.declared.switch.Switching.{Switching}
use Rattle.plant_core.specs.declared.switch.Switching.TheVariants.{Unknown, NoPiece, Same as AsItIs}
use Rattle.plant_core.specs.declared.switch.Switching.TheVariants.{To}

answer-switching : (state : State) (switching : Switching)
    → is_answer (switching_reply state switching) ≡ true
answer-switching state Unknown = refl
answer-switching state NoPiece = refl
answer-switching state AsItIs = refl
answer-switching state (To status) = refl

answer-unless_late : (last : Option ℕ) (reply : Reply) → is_answer reply ≡ true
    → is_answer (unless_late last reply) ≡ true
answer-unless_late (Some moment) reply answer = refl
answer-unless_late None reply answer = answer

answer-one_of : (b : Bool) (reply other : Reply) → is_answer reply ≡ true
    → is_answer other ≡ true → is_answer (cond b reply other) ≡ true
answer-one_of true reply other first second = first
answer-one_of false reply other first second = second

answer-commanded : (plant : Parts) (state : State) (reply : Reply)
    → IsCommanded plant state reply → is_answer reply ≡ true
answer-commanded plant state (Commanded version demand allocation) is = refl
answer-commanded plant state _ is = absurd is

answer-position : (last : Option ℕ) (plant : Parts) (state : State) (reply : Reply)
    → IsCommandedUnlessLate last plant state reply → is_answer reply ≡ true
answer-position (Some moment) plant state reply is = ap is_answer is
answer-position None plant state reply is = answer-commanded plant state reply is

answer-telegram : (plant : Parts) (state : State) (alarms : AlarmBook) (t : Telegram)
    (reply : Reply) → IsTelegramReply plant state alarms t reply → is_answer reply ≡ true
answer-telegram plant state alarms (Position moment x y heading) reply is =
    let at : Fix = record { x = x; y = y; heading = heading } in
    answer-position (late state.last_position moment) plant (sensed state moment at) reply is
answer-telegram plant state alarms (Wind moment speed angle) reply is =
    ap is_answer is ∙ answer-unless_late (late state.last_wind moment) Taken refl
answer-telegram plant state alarms (Setpoint x y heading) reply is =
    ap is_answer is ∙ answer-one_of state.is_manual WrongMode Taken refl refl
answer-telegram plant state alarms (Thruster name selected) reply is = ap is_answer is
    ∙ answer-switching state (thruster_switching plant state.latest.status name selected)
answer-telegram plant state alarms (Generator name running) reply is = ap is_answer is
    ∙ answer-switching state (generator_switching plant state.latest.status name running)
answer-telegram plant state alarms (Tie name closed) reply is = ap is_answer is
    ∙ answer-switching state (tie_switching plant state.latest.status name closed)
answer-telegram plant state alarms (Mode is_manual) reply is = ap is_answer is
    ∙ answer-one_of (is_same state.is_manual is_manual) Same Taken refl refl
answer-telegram plant state alarms (Manual demand) reply is =
    ap is_answer is ∙ answer-one_of state.is_manual Taken WrongMode refl refl
answer-telegram plant state alarms (Ack number) reply is = ap is_answer is
    ∙ answer-one_of (is_unacknowledged_in number alarms) Taken NoSuchAlarm refl refl
answer-telegram plant state alarms Board reply is = ap is_answer is
answer-telegram plant state alarms (Bar name piece barred) reply is = ap is_answer is
    ∙ answer-switching state (bar_switching plant state.latest.status name piece barred)

answer-judged : (question : Question) (outcome : Outcome) (reply : Reply)
    → IsJudged question outcome reply → is_answer reply ≡ true
answer-judged question outcome Shown is = refl
answer-judged question outcome (Refused place) is = refl
answer-judged question outcome _ is = absurd is

answer-publish : (past before there : Bool) (plant : Parts) (state : State) (group : ℕ)
    (outcome : Outcome) (reply : Reply)
    → IsPublishWhere past before there plant state group outcome reply → is_answer reply ≡ true
answer-publish true before there plant state group outcome reply is = ap is_answer is
answer-publish false true there plant state group outcome reply is = ap is_answer is
answer-publish false false true plant state group outcome reply is = ap is_answer is
answer-publish false false false plant state group outcome reply is =
    answer-judged (asked_of plant state group) outcome reply is

-- what a call may be answered where there is room is an answer
pub answer-reply : (plant : Parts) (stand : Stand) (call : Call) (reply : Reply)
    → IsReply plant stand call reply → is_answer reply ≡ true
answer-reply plant stand (calls.Telegram t) reply is =
    answer-telegram plant stand.state stand.alarms t reply is
answer-reply plant stand (calls.Note n) reply is = ap is_answer is
answer-reply plant stand (calls.Publish version group outcome) reply is =
    let latest = stand.state.latest.number in
    answer-publish (nat_lt latest version) (nat_lt version latest) (is_shown stand.state group)
    plant stand.state group outcome reply is
answer-reply plant stand calls.Close reply is = ap is_answer is

allowed-where : (closed full : Bool) (plant : Parts) (stand : Stand) (call : Call) (reply : Reply)
    → closed ≡ false → full ≡ false → IsReply plant stand call reply
    → IsAllowedWhere closed full plant stand call reply
allowed-where true full plant stand call reply is_open room is = absurd (cc)
allowed-where false true plant stand call reply is_open room is = absurd (cc)
allowed-where false false plant stand call reply is_open room is = is

-- it is allowed where no session was ended and there is room
pub allowed-reply : (plant : Parts) (limit : ℕ) (stand : Stand) (call : Call) (reply : Reply)
    → stand.state.is_closed ≡ false → is_full limit stand.state call ≡ false
    → IsReply plant stand call reply → IsAllowed plant limit stand call reply
allowed-reply plant limit stand call reply is_open room is = allowed-where stand.state.is_closed
    (is_full limit stand.state call) plant stand call reply is_open room is

-- after the end of a session nothing is answered
pub allowed-closed : (plant : Parts) (limit : ℕ) (stand : Stand) (call : Call)
    → stand.state.is_closed ≡ true → IsAllowed plant limit stand call Closed
allowed-closed plant limit stand call is = rw is refl

-- nor where there is no room for the call
pub allowed-full : (plant : Parts) (limit : ℕ) (stand : Stand) (call : Call)
    → stand.state.is_closed ≡ false → is_full limit stand.state call ≡ true
    → IsAllowed plant limit stand call JournalFull
allowed-full plant limit stand call is_open is = rw (is_open, is) refl

-- what is allowed as the machine stands is allowed as a core with its history stands
pub allowed-core : (core seen : CoreView) (stand : Stand) (call : Call) (reply : Reply)
    → seen ≡ core → stand ≡ stand_of seen → IsAllowed seen.plant seen.limit stand call reply
    → IsAllowed core.plant core.limit (stand_of core) call reply
allowed-core core seen stand call reply seen_is reached allowed =
    subst (λ (k : CoreView). IsAllowed k.plant k.limit (stand_of k) call reply) seen_is
    (subst (λ (s : Stand). IsAllowed seen.plant seen.limit s call reply) reached allowed)
