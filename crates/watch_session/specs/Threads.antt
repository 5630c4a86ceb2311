-- Which history stands for the streams of a session whose callers run in threads.
use Rattle.std.specs.Prelude.{◌≡◌, ◌≢◌, ℕ, ◌+◌, ◌<◌, ◌≤◌, List, [], ◌∷◌, ◌++◌, map, All}
use Rattle.std.specs.Prelude.{Bool, true, false, Option, Some, None}
use Rattle.dp_io.specs.Shown.{NoneFailed, Shown}
use Rattle.dp_io.specs.Streams.{Gave}
use Rattle.frame.specs.Frames.{items_end}
use Rattle.frame.specs.declared.item.Item.{Item}
use Rattle.plant_model.specs.declared.limits.TheConstants.{MOST_ENTRIES}
use Rattle.plant_model.specs.declared.plant.Parts.{Parts}
use Rattle.plant_core.specs.Machine.{IsLegal}
use Rattle.plant_core.specs.declared.call.Call.{Call}
use Rattle.plant_core.specs.declared.call.Call.TheVariants as calls
use Rattle.plant_core.specs.declared.call.Entry.{Entry}
use Rattle.turn_lock.specs.Lists.{entries_by}
use Rattle.plant_book.specs.Values.{caller_of}
use Rattle.analysis_workers.specs.Verdicts.{IsPublish}
use Rattle.dp_sessions.specs.Sessions.{AreAnswered, AreInTurn, IsBeginning, IsUntouched, MayEnd}
use Rattle.dp_sessions.specs.Sessions.{Passed, Streams, asked}
use Rattle.dp_sessions.specs.declared.session.Ending.{Ending}
use Rattle.dp_sessions.specs.declared.session.Ending.TheVariants.{End, Fault, Long, Full, Write}
use Rattle.watch_session.specs.Asked.{call_for}
use Rattle.watch_session.specs.declared.stream.StreamEnd.{StreamEnd}
use Rattle.watch_session.specs.declared.stream.StreamEnd.TheVariants as halts

-- ---- callers

-- what entries ask
abbrev pub calls_of : List Entry → List Call
calls_of entries = map (λ entry. entry.call) entries

-- what a caller asks in a history, in its order
abbrev pub calls_by : ℕ → List Entry → List Call
calls_by caller history = calls_of (entries_by caller_of caller history)

-- ---- endings

-- The graver of two endings: a write fault before a read fault, this before a stream that is too long,
-- and this before a history that is full.
abbrev pub graver : Ending → Ending → Ending
graver Write other = Write
graver one Write = Write
graver Fault other = Fault
graver one Fault = Fault
graver Long other = Long
graver one Long = Long
graver Full other = Full
graver one Full = Full
graver End End = End

-- the graver ending of the two streams, unless memory ran out in one of them or later
abbrev pub ending_of : StreamEnd → StreamEnd → Bool → Option Ending
ending_of (halts.Ended one) (halts.Ended other) true = Some (graver one other)
ending_of one other is_whole = None

-- the frames of all commands were written
abbrev pub has_all_frames : StreamEnd → Bool
has_all_frames (halts.Ended Write) = false
has_all_frames halts.NoFrames = false
has_all_frames end = true

-- ---- one stream

-- The caller's entries in the history answer what is to be answered of the bytes that the source gave,
-- with this ending: each of these items once and in order. Items were answered before more was read,
-- and no read failed but one that ended the stream.
pub record StandsForPart (caller : ℕ) (source out : Shown) (ending : Ending)
    (history : List Entry) : Type 0 where
  pub bytes : List ℕ
  pub answered : List Item
  pub given : Gave source.before source.after bytes
  pub ends : MayEnd source out bytes history ending
  pub of_bytes : AreAnswered ending bytes answered
  pub in_turn : AreInTurn bytes answered
  pub no_fault : ending ≢ Fault → NoneFailed source
  pub answers : calls_by caller history ≡ map (call_for caller) answered

-- ---- both

-- The history stands for two streams that were read at the same time, and for their endings. It is
-- legal for the plant. The entries of callers 1 and 2 stand for the sensors and for the operators, the
-- workers, from 3 on, and the session, 0, publish verdicts, and the session's Close is the last entry of
-- all. The operators' stream has no commands, and so doesn't end at a write fault.
pub record StandsForStreams (plant : Parts) (workers : ℕ) (sensors operators out : Shown)
    (one other : Ending) (history : List Entry) : Type 0 where
  pub legal : IsLegal plant MOST_ENTRIES history
  pub control : StandsForPart 1 sensors out one history
  pub orders : StandsForPart 2 operators out other history
  pub no_frames : other ≢ Write
  pub front : List Entry
  pub last : Entry
  pub is : history ≡ front ++ last ∷ []
  pub close : asked last ≡ (0, calls.Close)
  pub session : All (λ entry. entry.caller ≡ 0 → IsPublish entry.call) front
  pub work : All (λ entry. 3 ≤ entry.caller → IsPublish entry.call) history
  pub callers : All (λ entry. entry.caller < workers + 3) history

-- and the graver of their endings is this
pub record StandsForBoth (plant : Parts) (workers : ℕ) (sensors operators out : Shown)
    (ending : Ending) (history : List Entry) : Type 0 where
  pub one : Ending
  pub other : Ending
  pub graver : ending ≡ graver one other
  pub stands : StandsForStreams plant workers sensors operators out one other history

-- what the caller asks in the history is asked for first items of what the source gave
pub record BeginsPart (caller : ℕ) (source : Shown) (history : List Entry) : Type 0 where
  pub bytes : List ℕ
  pub given : Gave source.before source.after bytes
  pub answered : List Item
  pub begin : IsBeginning answered (items_end bytes)
  pub asked : calls_by caller history ≡ map (call_for caller) answered

-- the entries aren't by the control loop
abbrev pub AreOfOthers : List Entry → Type 0
AreOfOthers entries = All (λ entry. entry.caller ≢ 1) entries

-- the two streams of a session in threads, with so many workers
abbrev pub watched : {B C : Type 0} → ℕ → Passed B → Passed C → Shown → Streams
watched workers sensors operators out = record {
  Stand = λ plant ending history.
      StandsForBoth plant workers sensors.shown operators.shown out ending history;
  Begin = λ history.
      BeginsPart 1 sensors.shown history × BeginsPart 2 operators.shown history;
  MayFollow = AreOfOthers;
  AreUntouched = IsUntouched sensors × IsUntouched operators;
  shown = sensors.shown ∷ operators.shown ∷ [];
}
