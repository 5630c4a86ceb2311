-- The plant as a machine: which replies a call may have, the stand after an entry, and legal
-- histories.
use Rattle.std.specs.Prelude.{◌≡◌, ℕ, ◌+◌, ◌<◌, List, [], ◌∷◌, ◌++◌, length, Bool, true, false}
use Rattle.std.specs.Prelude.{◌&&◌, IsTrue, nat_le, None, pos, if◌then◌else◌, replicate}
use Rattle.std.specs.List.{fold}
use Rattle.alarm_log.specs.Alarms.{AlarmBook, is_unacknowledged_in, no_alarms}
use Rattle.pid.specs.Control.{fresh}
use Rattle.plant_model.specs.declared.limits.TheConstants.{MOST_GROUPS}
use Rattle.plant_model.specs.declared.plant.Parts.{Parts}
use Rattle.telegram.specs.Telegrams.{IsTelegram}
use Rattle.telegram.specs.declared.telegram.Telegram.{Telegram}
use Rattle.telegram.specs.declared.telegram.Telegram.TheVariants.{Position, Wind, Setpoint}
use Rattle.telegram.specs.declared.telegram.Telegram.TheVariants.{Thruster}
use Rattle.telegram.specs.declared.telegram.Telegram.TheVariants.{Generator, Tie, Mode, Manual}
use Rattle.telegram.specs.declared.telegram.Telegram.TheVariants.{Ack, Board, Bar}
use Rattle.plant_core.specs.Alarming.{alarms_after, notice_of}
use Rattle.plant_core.specs.Board.{IsPublishReply, after_publish, cells_of}
use Rattle.plant_core.specs.Orders.{after_manual, after_mode, after_set_point, manual_reply}
use Rattle.plant_core.specs.Orders.{mode_reply, no_demand, set_point_reply}
use Rattle.plant_core.specs.Sensing.{IsPositionReply, after_position, after_wind, wind_reply}
use Rattle.plant_core.specs.Switching.{after_switching, bar_switching, generator_switching}
use Rattle.plant_core.specs.Switching.{switching_reply, thruster_switching, tie_switching}
use Rattle.plant_core.specs.declared.call.Call.{Call}
use Rattle.plant_core.specs.declared.call.Call.TheVariants as calls
use Rattle.plant_core.specs.declared.call.Reply.{Reply}
use Rattle.plant_core.specs.declared.call.Reply.TheVariants as replies
use Rattle.plant_core.specs.declared.call.Entry.{Entry}
use Rattle.plant_core.specs.declared.state.State.{State}

-- how the machine stands: its state and its alarms
pub record Stand : Type 0 where
  pub state : State
  pub alarms : AlarmBook

-- ---- telegrams

-- what the acknowledgement of an alarm is answered
abbrev pub ack_reply : AlarmBook → ℕ → Reply
ack_reply alarms number =
    if is_unacknowledged_in number alarms then replies.Taken else replies.NoSuchAlarm

-- what a telegram may be answered
abbrev pub IsTelegramReply : Parts → State → AlarmBook → Telegram → Reply → Type 0
IsTelegramReply plant state alarms (Position moment x y heading) reply =
    IsPositionReply plant state moment (record { x = x; y = y; heading = heading }) reply
IsTelegramReply plant state alarms (Wind moment speed angle) reply =
    reply ≡ wind_reply state moment
IsTelegramReply plant state alarms (Setpoint x y heading) reply = reply ≡ set_point_reply state
IsTelegramReply plant state alarms (Thruster name selected) reply =
    reply ≡ switching_reply state (thruster_switching plant state.latest.status name selected)
IsTelegramReply plant state alarms (Generator name running) reply =
    reply ≡ switching_reply state (generator_switching plant state.latest.status name running)
IsTelegramReply plant state alarms (Tie name closed) reply =
    reply ≡ switching_reply state (tie_switching plant state.latest.status name closed)
IsTelegramReply plant state alarms (Mode is_manual) reply = reply ≡ mode_reply state is_manual
IsTelegramReply plant state alarms (Manual demand) reply = reply ≡ manual_reply state
IsTelegramReply plant state alarms (Ack number) reply = reply ≡ ack_reply alarms number
IsTelegramReply plant state alarms Board reply = reply ≡ replies.Cells (cells_of plant state)
IsTelegramReply plant state alarms (Bar name piece barred) reply =
    reply ≡ switching_reply state (bar_switching plant state.latest.status name piece barred)

-- the state after a telegram, before it is counted
abbrev pub after_telegram : Parts → State → Telegram → State
after_telegram plant state (Position moment x y heading) =
    after_position plant state moment (record { x = x; y = y; heading = heading })
after_telegram plant state (Wind moment speed angle) = after_wind plant state moment speed angle
after_telegram plant state (Setpoint x y heading) =
    after_set_point state (record { x = x; y = y; heading = heading })
after_telegram plant state (Thruster name selected) =
    after_switching state (thruster_switching plant state.latest.status name selected)
after_telegram plant state (Generator name running) =
    after_switching state (generator_switching plant state.latest.status name running)
after_telegram plant state (Tie name closed) =
    after_switching state (tie_switching plant state.latest.status name closed)
after_telegram plant state (Mode is_manual) = after_mode state is_manual
after_telegram plant state (Manual demand) = after_manual state demand
after_telegram plant state (Ack number) = state
after_telegram plant state Board = state
after_telegram plant state (Bar name piece barred) =
    after_switching state (bar_switching plant state.latest.status name piece barred)

-- ---- replies and states

-- whether a call counts against the limit: telegrams and notes do
abbrev pub is_event : Call → Bool
is_event (calls.Telegram t) = true
is_event (calls.Note n) = true
is_event _ = false

-- what a call may be answered where nothing is closed and there is room for it
abbrev pub IsReply : Parts → Stand → Call → Reply → Type 0
IsReply plant stand (calls.Telegram t) reply =
    IsTelegramReply plant stand.state stand.alarms t reply
IsReply plant stand (calls.Note n) reply = reply ≡ replies.Noted
IsReply plant stand (calls.Publish version group outcome) reply =
    IsPublishReply plant stand.state version group outcome reply
IsReply plant stand calls.Close reply = reply ≡ replies.Taken

-- as many telegrams and notes as the limit were answered, and the call is one of them
abbrev pub is_full : ℕ → State → Call → Bool
is_full limit state call = is_event call && nat_le limit state.events

-- whether a session was ended is judged first, then whether there is room, and then the call
abbrev pub IsAllowedWhere : Bool → Bool → Parts → Stand → Call → Reply → Type 0
IsAllowedWhere true full plant stand call reply = reply ≡ replies.Closed
IsAllowedWhere false true plant stand call reply = reply ≡ replies.JournalFull
IsAllowedWhere false false plant stand call reply = IsReply plant stand call reply

-- the reply is allowed as the machine stands
abbrev pub IsAllowed : Parts → ℕ → Stand → Call → Reply → Type 0
IsAllowed plant limit stand call reply = IsAllowedWhere stand.state.is_closed
    (is_full limit stand.state call) plant stand call reply

-- whether a call with this reply was answered, and so has an entry
abbrev pub is_answer : Reply → Bool
is_answer replies.JournalFull = false
is_answer replies.Closed = false
is_answer _ = true

-- one telegram or note more was answered
abbrev pub counted : State → State
counted state = record state { events = state.events + 1 }

-- the state after a call that was answered so
abbrev pub after_call : Parts → State → Call → Reply → State
after_call plant state (calls.Telegram t) reply = counted (after_telegram plant state t)
after_call plant state (calls.Note n) reply = counted state
after_call plant state (calls.Publish version group outcome) reply =
    after_publish state version group outcome reply
after_call plant state calls.Close reply = record state { is_closed = true }

-- how the machine stands after an entry
abbrev pub next : Parts → Stand → Entry → Stand
next plant stand entry =
    let after : State = after_call plant stand.state entry.call entry.reply in
    record {
      state = after;
      alarms = alarms_after stand.state after (notice_of entry.call entry.reply) stand.alarms;
    }

-- the opening status as version 0, with nothing asked of the thrusters, in automatic mode, with the
-- origin as set point, and nothing shown of any group
abbrev pub opening : Parts → State
opening plant = record {
  latest = record { number = 0; status = plant.opening; demand = no_demand };
  demand = no_demand;
  is_manual = false;
  manual = no_demand;
  set_point = record { x = pos 0; y = pos 0; heading = 0 };
  controller = fresh plant.gains;
  last_position = None;
  last_wind = None;
  wind = record { x = pos 0; y = pos 0; n = pos 0 };
  shown = replicate MOST_GROUPS None;
  events = 0;
  is_closed = false;
}

-- how the machine stands at its opening: no alarm was raised
abbrev pub opening_stand : Parts → Stand
opening_stand plant = record { state = opening plant; alarms = no_alarms }

-- how the machine stands after a history
abbrev pub stand_after : Parts → List Entry → Stand
stand_after plant history = fold (next plant) (opening_stand plant) history

-- the state after a history
abbrev pub state_after : Parts → List Entry → State
state_after plant history = (stand_after plant history).state

-- ---- histories

-- a telegram is within its ranges, and a verdict is about a group of the plant
abbrev pub IsCall : Parts → Call → Type 0
IsCall plant (calls.Telegram t) = IsTelegram t
IsCall plant (calls.Note n) = Unit {0}
IsCall plant (calls.Publish version group outcome) = group < length plant.groups.items
IsCall plant calls.Close = Unit {0}

-- a call may stand as the next entry: it is within its ranges, its reply is allowed as the machine
-- stands, and it was answered
pub record IsEntry (plant : Parts) (limit : ℕ) (stand : Stand) (entry : Entry) : Type 0 where
  pub call : IsCall plant entry.call
  pub allowed : IsAllowed plant limit stand entry.call entry.reply
  pub answered : IsTrue (is_answer entry.reply)

-- from here on, each entry may stand after the entries before it
abbrev pub IsLegalFrom : Parts → ℕ → Stand → List Entry → Type 0
IsLegalFrom plant limit stand [] = Unit {0}
IsLegalFrom plant limit stand (entry ∷ entries) =
    IsEntry plant limit stand entry × IsLegalFrom plant limit (next plant stand entry) entries

-- a history of the plant, with at most as many telegrams and notes as the limit says
abbrev pub IsLegal : Parts → ℕ → List Entry → Type 0
IsLegal plant limit history = IsLegalFrom plant limit (opening_stand plant) history

-- what contracts see of a core
pub record CoreView : Type 0 where
  pub plant : Parts
  pub limit : ℕ
  pub history : List Entry

-- how a core stands after its history
abbrev pub stand_of : CoreView → Stand
stand_of core = stand_after core.plant core.history

-- the state after a core's history
abbrev pub state_of : CoreView → State
state_of core = state_after core.plant core.history

-- the core with a call that was answered as its last entry; one that wasn't changes nothing
abbrev pub after_reply : CoreView → Entry → CoreView
after_reply core entry =
    if is_answer entry.reply then record core { history = core.history ++ entry ∷ [] } else core
