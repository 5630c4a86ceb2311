-- What a call and its reply tell the alarms.
use Rattle.std.specs.Prelude.{◌==◌, if◌then◌else◌, int_lt}
use Rattle.alarm_log.specs.Alarms.{AlarmBook, after_acknowledge, after_clear}
use Rattle.alarm_log.specs.Alarms.{after_clear_consequences, after_raise, is_active_in}
use Rattle.alarm_log.specs.declared.alarm.Cause.TheVariants.{Consequence, Short as ShortOfDemand}
use Rattle.telegram.specs.declared.telegram.Telegram.{Telegram}
use Rattle.telegram.specs.declared.telegram.Telegram.TheVariants.{Ack}
use Rattle.plant_core.specs.Board.{holds}
use Rattle.plant_core.specs.declared.alarming.Notice.{Notice}
use Rattle.plant_core.specs.declared.alarming.Notice.TheVariants.{Nothing, Lost, Held, Short, Given}
use Rattle.plant_core.specs.declared.alarming.Notice.TheVariants.{Acknowledged}
use Rattle.thrust_allocation.specs.declared.allocation.Allocation.{Allocation}
use Rattle.plant_core.specs.declared.call.Call.{Call}
use Rattle.plant_core.specs.declared.call.Call.TheVariants as calls
use Rattle.plant_core.specs.declared.call.Reply.{Reply}
use Rattle.plant_core.specs.declared.call.Reply.TheVariants as replies
use Rattle.plant_core.specs.declared.state.State.{State}

-- ---- notices

-- a command gives less than the whole demand, or the whole
abbrev pub notice_of_command : Allocation → Notice
notice_of_command a = if int_lt a.fraction.top a.fraction.bottom then Short else Given

-- a verdict that is shown finds that the demand is met after the loss of a group, or that it isn't
abbrev pub notice_of_verdict : Call → Notice
notice_of_verdict (calls.Publish version group outcome) =
    if holds outcome then Held group else Lost group
notice_of_verdict _ = Nothing

-- an acknowledgement that is taken acknowledges the alarm of its number
abbrev pub notice_of_telegram : Telegram → Notice
notice_of_telegram (Ack number) = Acknowledged number
notice_of_telegram _ = Nothing

abbrev pub notice_of_taken : Call → Notice
notice_of_taken (calls.Telegram t) = notice_of_telegram t
notice_of_taken _ = Nothing

abbrev pub notice_of : Call → Reply → Notice
notice_of call (replies.Commanded version demand allocation) = notice_of_command allocation
notice_of call replies.Shown = notice_of_verdict call
notice_of call replies.Taken = notice_of_taken call
notice_of call _ = Nothing

-- ---- alarms

-- a loss that isn't met raises an alarm of its group, and one that is clears those of its group; of
-- a demand that isn't given at most one alarm is active, and one that is given clears it
abbrev pub after_notice : Notice → AlarmBook → AlarmBook
after_notice Nothing book = book
after_notice (Lost group) book = after_raise (Consequence group) book
after_notice (Held group) book = after_clear (Consequence group) book
after_notice Short book =
    if is_active_in ShortOfDemand book then book else after_raise ShortOfDemand book
after_notice Given book = after_clear ShortOfDemand book
after_notice (Acknowledged number) book = after_acknowledge number book

-- a new version clears the alarms of all losses
abbrev pub after_version : State → State → AlarmBook → AlarmBook
after_version before after book =
    if before.latest.number == after.latest.number then book else after_clear_consequences book

-- the alarms after a call that took the machine from a state to another: a new version clears first
abbrev pub alarms_after : State → State → Notice → AlarmBook → AlarmBook
alarms_after before after notice book = after_notice notice (after_version before after book)
