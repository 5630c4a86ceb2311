-- Alarms: what each call makes of the kept ones, and all that were ever raised.
use Rattle.std.specs.Prelude.{◌≡◌, ℕ, ◌+◌, List, [], ◌∷◌, ◌++◌, length, map, fold, ◌==◌, ◌&&◌, not}
use Rattle.std.specs.Prelude.{Bool, true, false, if◌then◌else◌}
use Rattle.std.specs.List.{list_any}
use Rattle.circular_buffer.specs.Buffer.{keep_last}
use Rattle.alarm_log.specs.declared.alarm.Alarm.{Alarm}
use Rattle.alarm_log.specs.declared.alarm.Cause.{Cause}
use Rattle.alarm_log.specs.declared.alarm.Cause.TheVariants.{Consequence, Short}
use Rattle.plant_model.specs.declared.limits.TheConstants.{MOST_ALARMS}

-- how many alarms were ever raised, and the kept ones, oldest first
pub record AlarmBook : Type 0 where
  pub raised : ℕ
  pub ring : List Alarm

-- ---- one alarm

abbrev pub fresh_alarm : ℕ → Cause → Alarm
fresh_alarm number cause =
    record { number = number; cause = cause; active = true; acknowledged = false }

abbrev pub is_consequence : Cause → Bool
is_consequence (Consequence group) = true
is_consequence Short = false

abbrev pub is_same : Cause → Cause → Bool
is_same (Consequence group) (Consequence other) = group == other
is_same (Consequence group) Short = false
is_same Short (Consequence group) = false
is_same Short Short = true

-- the alarm after its cause was cleared, where it is this one
abbrev pub cleared_of : Cause → Alarm → Alarm
cleared_of cause alarm =
    if is_same alarm.cause cause then record alarm { active = false } else alarm

-- the alarm after all consequences were cleared
abbrev pub consequence_cleared_of : Alarm → Alarm
consequence_cleared_of alarm =
    if is_consequence alarm.cause then record alarm { active = false } else alarm

-- the alarm after its number was acknowledged, where it is this one
abbrev pub acknowledged_of : ℕ → Alarm → Alarm
acknowledged_of number alarm =
    if alarm.number == number then record alarm { acknowledged = true } else alarm

-- ---- the kept alarms

-- no alarm was raised yet
abbrev pub no_alarms : AlarmBook
no_alarms = record { raised = 0; ring = [] }

-- a new alarm has the next number, and of more than the most the oldest is lost
abbrev pub after_raise : Cause → AlarmBook → AlarmBook
after_raise cause book = record {
  raised = book.raised + 1;
  ring = keep_last MOST_ALARMS (book.ring ++ fresh_alarm (book.raised + 1) cause ∷ []);
}

abbrev pub after_clear : Cause → AlarmBook → AlarmBook
after_clear cause book = record book { ring = map (cleared_of cause) book.ring }

abbrev pub after_clear_consequences : AlarmBook → AlarmBook
after_clear_consequences book = record book { ring = map consequence_cleared_of book.ring }

abbrev pub after_acknowledge : ℕ → AlarmBook → AlarmBook
after_acknowledge number book = record book { ring = map (acknowledged_of number) book.ring }

-- an alarm of the cause is kept and active
abbrev pub is_active_in : Cause → AlarmBook → Bool
is_active_in cause book = list_any (λ alarm. alarm.active && is_same alarm.cause cause) book.ring

-- an alarm of the number is kept and unacknowledged
abbrev pub is_unacknowledged_in : ℕ → AlarmBook → Bool
is_unacknowledged_in number book =
    list_any (λ alarm. alarm.number == number && not alarm.acknowledged) book.ring

-- ---- all alarms

-- what happens to alarms
pub data AlarmEvent : Type 0 where
  Raised : Cause → AlarmEvent
  Cleared : Cause → AlarmEvent
  ConsequencesCleared : AlarmEvent
  Acknowledged : ℕ → AlarmEvent

-- the book after an event
abbrev pub after_event : AlarmBook → AlarmEvent → AlarmBook
after_event book (Raised cause) = after_raise cause book
after_event book (Cleared cause) = after_clear cause book
after_event book ConsequencesCleared = after_clear_consequences book
after_event book (Acknowledged number) = after_acknowledge number book

-- the event clears alarms of this cause
abbrev pub clears : Cause → AlarmEvent → Bool
clears cause (Raised other) = false
clears cause (Cleared other) = is_same cause other
clears cause ConsequencesCleared = is_consequence cause
clears cause (Acknowledged number) = false

-- the event acknowledges the alarm of this number
abbrev pub acknowledges : ℕ → AlarmEvent → Bool
acknowledges number (Raised cause) = false
acknowledges number (Cleared cause) = false
acknowledges number ConsequencesCleared = false
acknowledges number (Acknowledged other) = number == other

-- the alarm that an event raises, as it is after the later events: active where none of them clears
-- its cause, acknowledged where one of them acknowledges its number
abbrev pub alarm_after : ℕ → Cause → List AlarmEvent → Alarm
alarm_after number cause later = record {
  number = number;
  cause = cause;
  active = not (list_any (clears cause) later);
  acknowledged = list_any (acknowledges number) later;
}

-- all alarms that the events raise, where so many were raised before
abbrev pub all_alarms : ℕ → List AlarmEvent → List Alarm
all_alarms before [] = []
all_alarms before (Raised cause ∷ later) =
    alarm_after (before + 1) cause later ∷ all_alarms (before + 1) later
all_alarms before (Cleared cause ∷ later) = all_alarms before later
all_alarms before (ConsequencesCleared ∷ later) = all_alarms before later
all_alarms before (Acknowledged number ∷ later) = all_alarms before later

-- how many alarms the events raise, and the last of them
abbrev pub book_of : List AlarmEvent → AlarmBook
book_of events =
    let alarms = all_alarms 0 events in
    record { raised = length alarms; ring = keep_last MOST_ALARMS alarms }

-- one event after another gives the last of all alarms
abbrev pub AreAFold : Type 0
AreAFold = (events : List AlarmEvent) → fold after_event no_alarms events ≡ book_of events
