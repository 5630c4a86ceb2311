-- The texts of a history: its log and its report.
use Rattle.std.specs.Prelude.{ℕ, ◌-◌, List, [], ◌++◌, ◌==◌, Bool, ◌||◌, not, if◌then◌else◌}
use Rattle.std.specs.Prelude.{codes, slice_get}
use Rattle.std.specs.List.{filter, flat_map, zip}
use Rattle.std.specs.Option.{option_map_or}
use Rattle.std.specs.Fmt.{decimal}
use Rattle.frame.specs.Frames.{damage_number}
use Rattle.plant_model.specs.declared.board.Cell.{Cell}
use Rattle.plant_model.specs.declared.board.Cell.TheVariants.{Pending, Seen}
use Rattle.plant_model.specs.declared.board.Cells.{Cells}
use Rattle.plant_model.specs.declared.parts.Group.{Group}
use Rattle.plant_model.specs.declared.plant.Parts.{Parts}
use Rattle.plant_model.specs.declared.wrench.Wrench.{Wrench}
use Rattle.alarm_log.specs.declared.alarm.Alarm.{Alarm}
use Rattle.alarm_log.specs.declared.alarm.Cause.{Cause}
use Rattle.alarm_log.specs.declared.alarm.Cause.TheVariants.{Consequence, Short}
use Rattle.certificate.specs.declared.outcome.Outcome.{Outcome}
use Rattle.certificate.specs.declared.outcome.Place.{Place}
use Rattle.certificate.specs.declared.outcome.Place.TheVariants.{Denominator, Choice, ThrustCount}
use Rattle.certificate.specs.declared.outcome.Place.TheVariants.{Thruster, Sum, CutCount, Cut}
use Rattle.telegram.specs.Telegrams.{telegram_text, reject_number}
use Rattle.plant_core.specs.Board.{cells_of}
use Rattle.plant_core.specs.Machine.{stand_after}
use Rattle.thrust_allocation.specs.declared.allocation.Allocation.{Allocation}
use Rattle.plant_core.specs.declared.call.Call.{Call}
use Rattle.plant_core.specs.declared.call.Call.TheVariants.{Telegram, Note, Publish, Close}
use Rattle.plant_core.specs.declared.call.Note.{Note as NoteKind}
use Rattle.plant_core.specs.declared.call.Note.TheVariants.{Damaged, Rejected, Stray}
use Rattle.plant_core.specs.declared.call.Reply.{Reply}
use Rattle.plant_core.specs.declared.call.Reply.TheVariants as replies
use Rattle.plant_core.specs.declared.call.Entry.{Entry}
use Rattle.plant_core.specs.declared.state.State.{State}
use Rattle.log_text.specs.Lines.{line}
use Rattle.log_text.specs.Outcomes.{given_part_text, outcome_text, wrench_text}

-- `S` for the session, `C` for the control loop, `O` for the operators, `W` with its number for a
-- worker
abbrev pub caller_text : ℕ → List ℕ
caller_text caller =
    if caller == 0 then codes "S" else (if caller == 1 then codes "C"
    else (if caller == 2 then codes "O"
    else codes "W" ++ decimal (caller - 2)))

abbrev pub note_text : NoteKind → List ℕ
note_text (Damaged damage) = codes "DAMAGED," ++ decimal (damage_number damage)
note_text (Rejected reject) = codes "REJECTED," ++ decimal (reject_number reject)
note_text Stray = codes "STRAY"

-- the name of the group at this place
abbrev pub group_name : Parts → ℕ → List ℕ
group_name plant group = option_map_or (λ g. g.name) (slice_get plant.groups.items group) []

-- the version's number, the group's name and the outcome
abbrev pub verdict_text : Parts → ℕ → ℕ → Outcome → List ℕ
verdict_text plant version group outcome = codes "PUBLISH," ++ decimal version ++ codes ","
    ++ group_name plant group ++ codes "," ++ outcome_text outcome

abbrev pub call_text : Parts → Call → List ℕ
call_text plant (Telegram telegram) = telegram_text telegram
call_text plant (Note note) = note_text note
call_text plant (Publish version group outcome) = verdict_text plant version group outcome
call_text plant Close = codes "CLOSE"

-- the version's number, what was asked of the thrusters, and what they are to give
abbrev pub commanded_text : ℕ → Wrench → Allocation → List ℕ
commanded_text version demand allocation = codes "COMMANDED," ++ decimal version ++ codes ","
    ++ wrench_text demand ++ codes "," ++ given_part_text allocation

-- what was last shown of a group, after a comma: nothing, or which version's verdict, the verdict,
-- and whether that version is the latest
abbrev pub cell_text : Cell → List ℕ
cell_text Pending = codes ",PENDING"
cell_text (Seen version holds current) = codes "," ++ decimal version ++ codes ":"
    ++ (if holds then codes "HOLDS" else codes "LOST") ++ codes ":"
    ++ (if current then codes "CURRENT" else codes "SUPERSEDED")

-- the latest version's number, and each group's cell
abbrev pub cells_text : Cells → List ℕ
cells_text cells = codes "CELLS," ++ decimal cells.latest ++ flat_map cell_text cells.list.items

-- where an outcome first fails
abbrev pub place_text : Place → List ℕ
place_text Denominator = codes "DENOMINATOR"
place_text Choice = codes "CHOICE"
place_text ThrustCount = codes "THRUST-COUNT"
place_text (Thruster i) = codes "THRUSTER," ++ decimal i
place_text Sum = codes "SUM"
place_text CutCount = codes "CUT-COUNT"
place_text (Cut k) = codes "CUT," ++ decimal k

-- an answer's text; what is no answer has none
abbrev pub reply_text : Reply → List ℕ
reply_text (replies.Version number) = codes "VERSION," ++ decimal number
reply_text replies.Same = codes "SAME"
reply_text replies.Taken = codes "TAKEN"
reply_text replies.UnknownName = codes "UNKNOWN-NAME"
reply_text replies.NoPiece = codes "NO-PIECE"
reply_text (replies.Commanded version demand allocation) =
    commanded_text version demand allocation
reply_text (replies.Late last) = codes "LATE," ++ decimal last
reply_text replies.WrongMode = codes "WRONG-MODE"
reply_text replies.Noted = codes "NOTED"
reply_text replies.NoSuchAlarm = codes "NO-SUCH-ALARM"
reply_text (replies.Cells cells) = cells_text cells
reply_text replies.Shown = codes "SHOWN"
reply_text (replies.Superseded latest) = codes "SUPERSEDED," ++ decimal latest
reply_text (replies.Unknown latest) = codes "UNKNOWN," ++ decimal latest
reply_text replies.Already = codes "ALREADY"
reply_text (replies.Refused place) = codes "REFUSED," ++ place_text place
reply_text replies.JournalFull = []
reply_text replies.Closed = []

-- the caller, the call and the reply
abbrev pub entry_text : Parts → Entry → List ℕ
entry_text plant entry = line (caller_text entry.caller ++ codes " "
    ++ call_text plant entry.call ++ codes " = " ++ reply_text entry.reply)

abbrev pub log_head : Parts → List ℕ
log_head plant = line (codes "LOG,1," ++ plant.name)

-- the plant's name, and a line for each entry
abbrev pub log_text : Parts → List Entry → List ℕ
log_text plant history = log_head plant ++ flat_map (entry_text plant) history

-- ---- the report

abbrev pub report_head : State → List ℕ
report_head state =
    line (codes "REPORT," ++ decimal state.latest.number ++ codes "," ++ decimal state.events)

-- what the board shows of a group: nothing, or the verdict, or that it isn't about the latest version
abbrev pub shown_text : Cell → List ℕ
shown_text Pending = codes "PENDING"
shown_text (Seen version holds current) =
    if current then (if holds then codes "HOLDS" else codes "LOST") else codes "SUPERSEDED"

abbrev pub group_text : Group × Cell → List ℕ
group_text shown = line (codes "GROUP," ++ shown.0.name ++ codes "," ++ shown_text shown.1)

-- why an alarm was raised: what the loss of a group leaves, or a demand that isn't given
abbrev pub cause_text : Parts → Cause → List ℕ
cause_text plant (Consequence group) = codes "CONSEQUENCE," ++ group_name plant group
cause_text plant Short = codes "SHORT"

abbrev pub alarm_text : Parts → Alarm → List ℕ
alarm_text plant alarm = line (codes "ALARM," ++ decimal alarm.number ++ codes ","
    ++ cause_text plant alarm.cause
    ++ (if alarm.active then codes ",ACTIVE" else codes ",CLEARED")
    ++ (if alarm.acknowledged then codes ",ACKED" else codes ",UNACKED"))

-- an alarm that is told: it is active or unacknowledged
abbrev pub is_told : Alarm → Bool
is_told alarm = alarm.active || not alarm.acknowledged

abbrev pub alarms_text : Parts → List Alarm → List ℕ
alarms_text plant alarms = flat_map (alarm_text plant) (filter is_told alarms)

-- the latest version, the count of telegrams and notes, a line for each group, and a line for each
-- alarm that is told, oldest first
abbrev pub report_text : Parts → List Entry → List ℕ
report_text plant history =
    let stand = stand_after plant history in
    report_head stand.state
    ++ flat_map group_text (zip plant.groups.items (cells_of plant stand.state).list.items)
    ++ alarms_text plant stand.alarms.ring ++ line (codes "END")
