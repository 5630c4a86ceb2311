-- Which history stands for which bytes, and what a session answers.
use Rattle.std.specs.Prelude.{◌≡◌, ◌≢◌, ℕ, ◌+◌, ◌<◌, ◌≤◌, List, [], ◌∷◌, ◌++◌, ◌⊎◌, length, map}
use Rattle.std.specs.Prelude.{take, Bool, true, false, ◌&&◌, not, ◌==◌, if◌then◌else◌, All}
use Rattle.std.specs.Prelude.{Option, Some, Result, Ok, Err}
use Rattle.std.specs.List.{Any, filter, flat_map, fold, list_any}
use Rattle.dp_io.specs.Streams.{Gave, Grew}
use Rattle.frame.specs.Frames.{items, items_end}
use Rattle.frame.specs.declared.item.Item.{Item}
use Rattle.frame.specs.declared.item.Item.TheVariants.{Body, Damaged}
use Rattle.plant_model.specs.declared.board.Cell.{Cell}
use Rattle.plant_model.specs.declared.board.Cell.TheVariants.{Pending, Seen}
use Rattle.plant_model.specs.declared.plant.Parts.{Parts}
use Rattle.plant_model.specs.declared.limits.TheConstants.{MOST_ENTRIES, MOST_STREAM_BYTES}
use Rattle.certificate.specs.declared.outcome.Outcome.{Outcome}
use Rattle.telegram.specs.Telegrams.{telegram}
use Rattle.telegram.specs.declared.telegram.Telegram.{Telegram}
use Rattle.telegram.specs.declared.telegram.Telegram.TheVariants.{Position, Wind}
use Rattle.telegram.specs.declared.telegram.Reject.{Reject}
use Rattle.plant_core.specs.Board.{cells_of, is_shown}
use Rattle.plant_core.specs.Machine.{IsLegal, Stand, is_event, next, stand_after, state_after}
use Rattle.plant_core.specs.declared.call.Note.TheVariants as notes
use Rattle.plant_core.specs.declared.call.Call.{Call}
use Rattle.plant_core.specs.declared.call.Call.TheVariants as calls
use Rattle.plant_core.specs.declared.call.Entry.{Entry}
use Rattle.plant_core.specs.declared.call.Reply.TheVariants as replies
use Rattle.plant_core.specs.declared.state.State.{State}
use Rattle.dp_sessions.specs.declared.session.Ending.{Ending}
use Rattle.dp_sessions.specs.declared.session.Ending.TheVariants.{End, Fault, Long, Full, Write}
use Rattle.dp_words.specs.declared.status.RunStatus.{RunStatus}
use Rattle.dp_words.specs.declared.status.RunStatus.TheVariants as statuses
use Rattle.plant_file.specs.declared.fault.PlantFault.{PlantFault}
use Rattle.dp_io.specs.Shown.{HasRisen, IsEmptied, NoneFailed, Shown, Took, TookPart, reading}
use Rattle.dp_io.specs.declared.stream.Source as Sources
use Rattle.dp_words.specs.Faults.{TellsFaults}
use Rattle.dp_words.specs.Statuses.{IsTold}
use Rattle.log_text.specs.Commands.{command_text, commands_text}
use Rattle.log_text.specs.Texts.{log_text, report_text}
use Rattle.dp_words.specs.Plants.{HasAPlant, HasPlantCause, NamesNoFile, WordsSay}

-- ---- the history of a stream

-- a call with its caller
abbrev pub Asked : Type 0
Asked = ℕ × Call

-- a position and a wind are asked by the control loop, caller 1, and any other telegram by the
-- operators, caller 2
abbrev pub caller_of : Telegram → ℕ
caller_of (Position moment x y heading) = 1
caller_of (Wind moment speed angle) = 1
caller_of _ = 2

-- why a body is no telegram is noted by the control loop
abbrev pub asked_by : Result Telegram Reject → Asked
asked_by (Ok telegram) = (caller_of telegram, calls.Telegram telegram)
asked_by (Err reject) = (1, calls.Note (notes.Rejected reject))

-- what is asked for an item
abbrev pub asked_for : Item → Asked
asked_for (Body body) = asked_by (telegram body)
asked_for (Damaged damage) = (1, calls.Note (notes.Damaged damage))

-- what an entry answers
abbrev pub asked : Entry → Asked
asked entry = (entry.caller, entry.call)

-- these elements are the first of the others, and there is one more
abbrev pub IsFront : {A : Type 0} → List A → List A → Type 0
IsFront {A} front all = (next : A) × (rest : List A) × (all ≡ front ++ next ∷ rest)

-- these elements are the first of the others
abbrev pub IsBeginning : {A : Type 0} → List A → List A → Type 0
IsBeginning {A} front all = (rest : List A) × (all ≡ front ++ rest)

-- The items that are answered of the bytes of a stream with this ending: at the end of input all,
-- at a read fault those of the whole lines, of a stream that is too long those of as many bytes as
-- a stream may have, where the history is full those before the first that had no room, and at a
-- write fault those up to the position whose frames couldn't be written.
abbrev pub AreAnswered : Ending → List ℕ → List Item → Type 0
AreAnswered End bytes answered = answered ≡ items_end bytes
AreAnswered Fault bytes answered = answered ≡ items bytes
AreAnswered Long bytes answered = answered ≡ items (take MOST_STREAM_BYTES bytes)
AreAnswered Full bytes answered = IsFront answered (items_end bytes)
AreAnswered Write bytes answered = IsBeginning answered (items_end bytes)

-- a stream is read in pieces of at most this many bytes
abbrev pub most_read : ℕ
most_read = 4096

-- Answers don't wait: of the bytes, all but a last piece had their items answered.
pub record AreInTurn (bytes : List ℕ) (answered : List Item) : Type 0 where
  pub front : List ℕ
  pub piece : List ℕ
  pub is : bytes ≡ front ++ piece
  pub short : length piece ≤ most_read
  pub begin : IsBeginning (items front) answered

-- ---- verdicts of the session

-- a verdict of this version on the loss of this group, by caller 0, which is shown
pub record IsVerdictOn (version group : ℕ) (entry : Entry) : Type 0 where
  pub outcome : Outcome
  pub asked : asked entry ≡ (0, calls.Publish version group outcome)
  pub shown : entry.reply ≡ replies.Shown

-- one on the loss of each group in turn, from this one on
abbrev pub EachVerdict : ℕ → ℕ → List Entry → Type 0
EachVerdict version group [] = Unit {0}
EachVerdict version group (entry ∷ entries) =
    IsVerdictOn version group entry × EachVerdict version (group + 1) entries

-- a verdict of the version on the loss of each group, in order
pub record AreVerdictsOn (plant : Parts) (version : ℕ) (entries : List Entry) : Type 0 where
  pub one_each : length entries ≡ length plant.groups.items
  pub each : EachVerdict version 0 entries

-- the answer to an item, and the verdicts that follow it
pub record Block : Type 0 where
  pub entry : Entry
  pub verdicts : List Entry

abbrev pub entries_of : Block → List Entry
entries_of block = block.entry ∷ block.verdicts

abbrev pub IsFollowedWhere : Bool → Parts → ℕ → List Entry → Type 0
IsFollowedWhere true plant version verdicts = verdicts ≡ []
IsFollowedWhere false plant version verdicts = AreVerdictsOn plant version verdicts

-- an answer that makes a version is followed by verdicts of that version, and any other by none
abbrev pub IsFollowed : Parts → Stand → Block → Type 0
IsFollowed plant stand block =
    let latest = (next plant stand block.entry).state.latest.number in
    IsFollowedWhere (stand.state.latest.number == latest) plant latest block.verdicts

-- each of the blocks is followed so, from here on
abbrev pub AreFollowed : Parts → Stand → List Block → Type 0
AreFollowed plant stand [] = Unit {0}
AreFollowed plant stand (block ∷ blocks) = IsFollowed plant stand block
    × AreFollowed plant (fold (next plant) stand (entries_of block)) blocks

-- The history begins with verdicts of the opening version, and then answers these items, each once
-- and in order, with verdicts of each version that an answer makes.
pub record AnswersItems (plant : Parts) (history : List Entry) (answered : List Item) : Type 0 where
  pub opening : List Entry
  pub blocks : List Block
  pub is : history ≡ opening ++ flat_map entries_of blocks
  pub verdicts : AreVerdictsOn plant 0 opening
  pub asked : map (λ block. asked block.entry) blocks ≡ map asked_for answered
  pub followed : AreFollowed plant (stand_after plant opening) blocks

-- after all that comes the session's Close, by caller 0, and nothing else
pub record AnswersAll (plant : Parts) (history : List Entry) (answered : List Item) : Type 0 where
  pub front : List Entry
  pub last : Entry
  pub is : history ≡ front ++ last ∷ []
  pub answers : AnswersItems plant front answered
  pub close : asked last ≡ (0, calls.Close)

-- each cell of the board has a verdict of the latest version
abbrev pub AreCurrent : Parts → State → Type 0
AreCurrent plant state = (group : ℕ) → group < length plant.groups.items
    → is_shown state group ≡ true

-- ---- endings

-- how many telegrams and notes a history has
abbrev pub events_in : List Entry → ℕ
events_in history = length (filter (λ entry. is_event entry.call) history)

-- when a stream of these bytes may end so, with this history
abbrev pub MayEnd : Shown → Shown → List ℕ → List Entry → Ending → Type 0
MayEnd source out bytes history End = IsEmptied source
MayEnd source out bytes history Fault = HasRisen source
MayEnd source out bytes history Long = MOST_STREAM_BYTES < length bytes
MayEnd source out bytes history Full = events_in history ≡ MOST_ENTRIES
MayEnd source out bytes history Write = HasRisen out

-- The history stands for what the source gave in the call, and for its ending: it is legal for the
-- plant, and answers each of these items once. Items were answered before more was read, and no read
-- failed but one that ended the stream.
pub record StandsForStream (plant : Parts) (source out : Shown) (ending : Ending)
    (history : List Entry) : Type 0 where
  pub bytes : List ℕ
  pub answered : List Item
  pub given : Gave source.before source.after bytes
  pub ends : MayEnd source out bytes history ending
  pub of_bytes : AreAnswered ending bytes answered
  pub in_turn : AreInTurn bytes answered
  pub no_fault : ending ≢ Fault → NoneFailed source
  pub legal : IsLegal plant MOST_ENTRIES history
  pub answers : AnswersAll plant history answered

-- the status of a session whose stream ended so: one that was read to its end tells whether the
-- demand isn't met after some loss
abbrev pub status_of : Ending → Bool → RunStatus
status_of End lost = if lost then statuses.LossFound else statuses.Clear
status_of Fault lost = statuses.ReadFault
status_of Long lost = statuses.StreamTooLong
status_of Full lost = statuses.JournalFull
status_of Write lost = statuses.WriteFault

-- the status is that of the ending, whether the demand is met or not
abbrev pub IsStatusOf : Ending → RunStatus → Type 0
IsStatusOf ending status = (lost : Bool) × (status ≡ status_of ending lost)

-- ---- what is written

-- what is written of a history: the frames of its commands, its log and its report
abbrev pub told : Parts → List Entry → List ℕ
told plant history = log_text plant history ++ report_text plant history

abbrev pub written : Parts → List Entry → List ℕ
written plant history = commands_text plant history ++ told plant history

-- some group's loss leaves too little: the report says `LOST` of it
abbrev pub is_lost_cell : Cell → Bool
is_lost_cell Pending = false
is_lost_cell (Seen version holds current) = current && not holds

abbrev pub has_lost_cell : Parts → List Entry → Bool
has_lost_cell plant history =
    list_any is_lost_cell (cells_of plant (state_after plant history)).list.items

-- the session's own entries
abbrev pub AreOfSession : List Entry → Type 0
AreOfSession entries = All (λ entry. entry.caller ≡ 0) entries

-- what the entries ask that aren't the session's own
abbrev pub asked_of_streams : List Entry → List Asked
asked_of_streams history = map asked (filter (λ entry. not (entry.caller == 0)) history)

-- All that the history asks but for the session itself is asked for first items of what the source
-- gave.
pub record BeginsStream (source : Shown) (history : List Entry) : Type 0 where
  pub bytes : List ℕ
  pub given : Gave source.before source.after bytes
  pub answered : List Item
  pub begin : IsBeginning answered (items_end bytes)
  pub asked : asked_of_streams history ≡ map asked_for answered

-- ---- streams

-- a source in a call of the program: what it was before and after it, and what it showed
pub record Passed (S : Type 0) : Type 0 where
  pub before : S
  pub after : S
  pub shown : Shown

-- a source, from one moment to another
abbrev pub passed : {S : Type 0} → Sources.Ghosts S → S → S → Passed S
passed source old new = record { before = old; after = new; shown = reading source old new }

abbrev pub IsUntouched : {S : Type 0} → Passed S → Type 0
IsUntouched source = source.after ≡ source.before

-- What a session of however many streams says of them.
pub record Streams : Type 1 where
  -- the history stands for what they gave, and for this ending, the gravest of theirs
  pub Stand : Parts → Ending → List Entry → Type 0
  -- what their callers ask in the history is asked for first items of what they gave
  pub Begin : List Entry → Type 0
  -- these entries may follow one whose frames couldn't be written
  pub MayFollow : List Entry → Type 0
  -- none was read
  pub AreUntouched : Type 0
  -- what their sources showed
  pub shown : List Shown

-- the one stream of recorded telegrams
abbrev pub recorded : {S : Type 0} → Passed S → Shown → Streams
recorded source out = record {
  Stand = λ plant ending history. StandsForStream plant source.shown out ending history;
  Begin = BeginsStream source.shown;
  MayFollow = AreOfSession;
  AreUntouched = IsUntouched source;
  shown = source.shown ∷ [];
}

-- What was written is the frames, the log and then the report of a legal history that stands for the
-- streams with this ending. Each cell of its board is current, and the status tells what they show.
pub record WritesWhole (plant : Parts) (ending : Ending) (status : RunStatus) (streams : Streams)
    (out : Shown) : Type 0 where
  pub history : List Entry
  pub stands : streams.Stand plant ending history
  pub took : Took out (written plant history)
  pub current : AreCurrent plant (state_after plant history)
  pub tells : status ≡ status_of ending (has_lost_cell plant history)

-- Writing stopped within the frames of the history's last command, after those of all others. Only
-- such entries come after it as may.
pub record StopsAtCommand (plant : Parts) (MayFollow : List Entry → Type 0)
    (before after : Option (List ℕ)) (history : List Entry) : Type 0 where
  pub front : List Entry
  pub command : Entry
  pub back : List Entry
  pub is : history ≡ front ++ command ∷ back
  pub last : MayFollow back
  pub count : ℕ
  pub part : count < length (command_text plant command)
  pub took : Grew before after (commands_text plant front ++ take count (command_text plant command))

-- the frames of all commands were written, and the first bytes of the log and the report
abbrev pub StopsInTold : Parts → Shown → List Entry → Type 0
StopsInTold plant out history = (count : ℕ)
    × Grew out.before out.after (commands_text plant history ++ take count (told plant history))

-- where writing stopped: within the commands exactly where that ended the stream
abbrev pub StopsAt : Ending → Parts → (List Entry → Type 0) → Shown → List Entry → Type 0
StopsAt Write plant MayFollow out history =
    StopsAtCommand plant MayFollow out.before out.after history
StopsAt _ plant MayFollow out history = StopsInTold plant out history

-- What was written begins the frames, the log and the report of such a history.
pub record WritesPart (plant : Parts) (streams : Streams) (out : Shown) : Type 0 where
  pub ending : Ending
  pub history : List Entry
  pub stands : streams.Stand plant ending history
  pub stops : StopsAt ending plant streams.MayFollow out history

-- What was written begins the frames, the log and the report of a legal history, and what callers
-- ask in it is asked for first items of what the streams gave.
pub record WritesBegun (plant : Parts) (streams : Streams) (out : Shown) : Type 0 where
  pub history : List Entry
  pub legal : IsLegal plant MOST_ENTRIES history
  pub begins : streams.Begin history
  pub took : TookPart out (written plant history)

-- What was written is the whole of a history of the plant that the words and the plant source say.
pub record WritesWholeOf (words : List (List ℕ)) (ending : Ending) (status : RunStatus)
    (streams : Streams) (first out : Shown) : Type 0 where
  pub plant : Parts
  pub says : WordsSay words first (Ok plant)
  pub writes : WritesWhole plant ending status streams out

-- What was written begins the whole of such a history.
pub record WritesPartOf (words : List (List ℕ)) (streams : Streams) (first out : Shown) : Type 0
  where
    pub plant : Parts
    pub says : WordsSay words first (Ok plant)
    pub writes : WritesPart plant streams out

-- What was written begins what is written of a history that was begun.
pub record WritesBegunOf (words : List (List ℕ)) (streams : Streams) (first out : Shown) : Type 0
  where
    pub plant : Parts
    pub says : WordsSay words first (Ok plant)
    pub writes : WritesBegun plant streams out

-- nothing was written, and no stream was read
pub record IsUnbegun (streams : Streams) (out : Shown) : Type 0 where
  pub unwritten : out.after ≡ out.before
  pub unread : streams.AreUntouched

-- the plant source failed, and the session wasn't begun
pub record FailsFirst (ending : Ending) (streams : Streams) (first out : Shown) : Type 0 where
  pub is_fault : ending ≡ Fault
  pub failed : HasRisen first
  pub unbegun : IsUnbegun streams out

-- What the bytes written say at each status: the whole history where the status is that of an
-- ending, its beginning at a write fault, nothing or the beginning of a history that was begun at
-- want of memory, and nothing at faulty words, at a faulty plant, and at a read fault of the plant
-- source.
pub record HasHistory (words : List (List ℕ)) (status : RunStatus) (streams : Streams)
    (first out : Shown) : Type 0 where
  pub whole : (ending : Ending) → ending ≢ Write → IsStatusOf ending status
      → WritesWholeOf words ending status streams first out
      ⊎ FailsFirst ending streams first out
  pub part : status ≡ statuses.WriteFault → WritesPartOf words streams first out
  pub begun : status ≡ statuses.NoMemory
      → (out.after ≡ out.before) ⊎ WritesBegunOf words streams first out
  pub usage : (kind : ℕ) → status ≡ statuses.Usage kind → IsUnbegun streams out
  pub plant : (fault : PlantFault) → status ≡ statuses.Plant fault → IsUnbegun streams out

-- ---- counts of bytes and items

-- the source gave more bytes than a stream may have
abbrev pub GaveTooMany : Shown → Type 0
GaveTooMany source =
    (bytes : List ℕ) × Gave source.before source.after bytes × (MOST_STREAM_BYTES < length bytes)

-- The source gave so many items: those of the whole lines, or, where it has no byte left, with the
-- damage of its end.
abbrev pub GaveItems : Shown → ℕ → Type 0
GaveItems source count = (bytes : List ℕ) × Gave source.before source.after bytes
    × ((count ≡ length (items bytes)) ⊎ ((count ≡ length (items_end bytes)) × IsEmptied source))

-- The source tells its bytes, which are at most as many as a stream may have, and have so many items.
pub record TellsItems (source : Shown) (count : ℕ) : Type 0 where
  pub bytes : List ℕ
  pub told : source.before ≡ Some bytes
  pub few : length bytes ≤ MOST_STREAM_BYTES
  pub count_is : count ≡ length (items_end bytes)

-- a count is the sum of one for each source
abbrev pub Together : (Shown → ℕ → Type 0) → List Shown → ℕ → Type 0
Together Has [] count = count ≡ 0
Together Has (source ∷ sources) count = (own : ℕ) × (others : ℕ) × (count ≡ own + others)
    × Has source own × Together Has sources others

-- the sources gave more items than a history has room for
abbrev pub GaveTooManyItems : List Shown → Type 0
GaveTooManyItems sources =
    (count : ℕ) × Together GaveItems sources count × (MOST_ENTRIES < count)

-- the sources tell their bytes, and at most as many items as a history has room for
abbrev pub TellFew : List Shown → Type 0
TellFew sources = (count : ℕ) × Together TellsItems sources count × (count ≤ MOST_ENTRIES)

-- ---- when each status comes

-- When each status comes.
pub record HasCause (words : List (List ℕ)) (status : RunStatus) (streams : Streams)
    (first out : Shown) : Type 0 where
  pub plant : HasPlantCause words status first
  pub read_fault : status ≡ statuses.ReadFault → HasRisen first ⊎ Any HasRisen streams.shown
  pub write_fault : status ≡ statuses.WriteFault → HasRisen out
  pub too_long : status ≡ statuses.StreamTooLong → Any GaveTooMany streams.shown
  pub journal_full : status ≡ statuses.JournalFull → GaveTooManyItems streams.shown
  pub clear : status ≡ statuses.Clear → All IsEmptied streams.shown
  pub loss_found : status ≡ statuses.LossFound → All IsEmptied streams.shown
  pub faults : TellsFaults status (first ∷ streams.shown) out

-- A plant, sources that have at most as many bytes as a stream may have, and items as a history has
-- room for, and counts of faults that don't rise give Clear or LossFound, unless memory runs out.
abbrev pub IsComplete : List (List ℕ) → RunStatus → Streams → Shown → Shown → Type 0
IsComplete words status streams first out =
    HasAPlant words first → ¬ HasRisen first → TellFew streams.shown
    → ¬ Any HasRisen streams.shown → ¬ HasRisen out
    → ((status ≡ statuses.Clear) ⊎ (status ≡ statuses.LossFound)) ⊎ (status ≡ statuses.NoMemory)

-- ---- what a call of the program says

-- How a session ends with this status, of streams, and of a plant source and a sink that showed this.
pub record EndsSession (words : List (List ℕ)) (status : RunStatus) (streams : Streams)
    (first out : Shown) : Type 0 where
  pub history : HasHistory words status streams first out
  pub causes : HasCause words status streams first out
  pub complete : IsComplete words status streams first out

-- How a call of the program ends with this status: the session as above, the line told, and the
-- plant source as it was where no word names it.
pub record EndsCall {S : Type 0} (words : List (List ℕ)) (status : RunStatus) (plant : Passed S)
    (streams : Streams) (out err : Shown) : Type 0 where
  pub session : EndsSession words status streams plant.shown out
  pub told : IsTold status err
  pub unread : NamesNoFile words → IsUntouched plant
