-- What a loop over one stream does to its pass and its output.
use Rattle.std.specs.Prelude.{◌≡◌, ◌≢◌, ℕ, ◌<◌, ◌≤◌, List, [], ◌∷◌, ◌++◌, length, take, map}
use Rattle.std.specs.Prelude.{Option, Some, None, Result, Ok, Err, false}
use mathlib.Core.List.{IsPrefix}
use Rattle.dp_io.specs.Shown.{HasRisen, IsEmptied, NoneFailed, Shown, Took}
use Rattle.dp_io.specs.Streams.{Gave, Grew}
use Rattle.frame.specs.Frames.{StandsFor, items, items_end}
use Rattle.frame.specs.declared.item.Item.{Item}
use Rattle.plant_model.specs.declared.limits.TheConstants.{MOST_STREAM_BYTES}
use Rattle.plant_model.specs.declared.plant.Parts.{Parts}
use Rattle.plant_core.specs.Machine.{IsAllowed, is_answer, stand_after}
use Rattle.plant_core.specs.declared.call.Call.{Call}
use Rattle.plant_core.specs.declared.call.Entry.{Entry}
use Rattle.plant_core.specs.declared.call.Reply.{Reply}
use Rattle.plant_book.specs.Books.{BookShown}
use Rattle.analysis_workers.specs.Works.{GoesOn}
use Rattle.log_text.specs.Commands.{command_text, commands_text}
use Rattle.dp_sessions.specs.Sessions.{AreAnswered, AreInTurn, GaveItems, IsBeginning, IsFront}
use Rattle.dp_words.specs.Writing.{TookFront}
use Rattle.dp_sessions.specs.declared.session.Ending.TheVariants.{End, Fault, Long, Full, Write}
use Rattle.watch_session.specs.Asked.{call_for}
use Rattle.watch_session.specs.Threads.{calls_of}
use Rattle.watch_session.specs.declared.stream.StreamEnd.{StreamEnd}
use Rattle.watch_session.specs.declared.stream.StreamEnd.TheVariants as halts

-- ---- one item

-- the pass has the answer to the item as its next entry
pub record Answers (old new : BookShown) (item : Item) (entry : Entry) : Type 0 where
  pub went_on : GoesOn old new (entry ∷ [])
  pub asked : entry.call ≡ call_for old.shown.caller item

-- a call wasn't answered, as the machine stood after some of what the pass has seen
pub record IsRefused (pass : BookShown) : Type 0 where
  pub before : List Entry
  pub seen : IsPrefix before pass.shown.seen
  pub call : Call
  pub reply : Reply
  pub allowed : IsAllowed pass.shown.base.plant pass.shown.base.limit
      (stand_after pass.shown.base.plant before) call reply
  pub unanswered : is_answer reply ≡ false

-- the frames of an entry's command
abbrev pub frames : BookShown → Entry → List ℕ
frames pass entry = command_text pass.shown.base.plant entry

-- the item was answered and the frames of its command written; or the history had no room for it; or it
-- was answered, and its frames could only be written in part; or memory ran out, for the answer or for
-- the frames
abbrev pub TakesItem : {U : Type 0} → Result U StreamEnd → BookShown → BookShown → Item → Shown
    → Type 0
TakesItem (Ok done) old new item out =
    (entry : Entry) × Answers old new item entry × Took out (frames old entry)
TakesItem (Err (halts.Ended Full)) old new item out =
    GoesOn old new [] × IsRefused new × Took out []
TakesItem (Err (halts.Ended Write)) old new item out =
    (entry : Entry) × Answers old new item entry × TookFront out (frames old entry)
TakesItem (Err (halts.Ended ending)) old new item out = ⊥
TakesItem (Err halts.NoAnswer) old new item out = GoesOn old new [] × Took out []
TakesItem (Err halts.NoFrames) old new item out =
    (entry : Entry) × Answers old new item entry × Took out []

-- the frames of a call with this reply: a call that isn't given has none
abbrev pub reply_frames : Parts → ℕ → Option Call → Reply → List ℕ
reply_frames plant caller None reply = []
reply_frames plant caller (Some call) reply =
    command_text plant (record { caller = caller; call = call; reply = reply })

-- the frames were written; or, at a write fault, some of them; or none for want of memory
abbrev pub WritesFrames : {U : Type 0} → Result U StreamEnd → List ℕ → Shown → Type 0
WritesFrames (Ok done) text out = Took out text
WritesFrames (Err (halts.Ended Write)) text out = TookFront out text
WritesFrames (Err halts.NoFrames) text out = Took out []
WritesFrames (Err end) text out = ⊥

-- no fault of the output is passed over
pub record TellsOutput {U : Type 0} (result : Result U StreamEnd) (out : Shown) : Type 0 where
  pub failed : result ≡ Err (halts.Ended Write) → HasRisen out
  pub no_fault : result ≢ Err (halts.Ended Write) → NoneFailed out
  pub counted : out.faults_before ≤ out.faults_after

-- where it stopped, or the end of a stream with nothing left to answer
abbrev pub end_of : {U : Type 0} → Result U StreamEnd → StreamEnd
end_of (Ok done) = halts.Ended End
end_of (Err end) = end

-- no fault of the output is passed over at this end
abbrev pub TellsEnd : StreamEnd → Shown → Type 0
TellsEnd end out = TellsOutput {U = Unit {0}} (Err end) out

-- What writing the frames of a reply does.
pub record WritesReply {U : Type 0} (result : Result U StreamEnd) (plant : Parts) (caller : ℕ)
    (command : Option Call) (reply : Reply) (out : Shown) : Type 0 where
  pub frames : WritesFrames result (reply_frames plant caller command reply) out
  pub output : TellsOutput result out

-- ---- items of a stream

-- the pass's own entries are the answers to these items
abbrev pub IsAskedFor : BookShown → List Item → Type 0
IsAskedFor pass answered =
    calls_of pass.shown.mine ≡ map (call_for pass.shown.caller) answered

-- the items were answered, and what an output took since it showed the first of these is the frames of
-- all commands
pub record HasAnswered (start now : Option (List ℕ)) (pass : BookShown) (answered : List Item)
    : Type 0 where
  pub asked : IsAskedFor pass answered
  pub wrote : Grew start now (commands_text pass.shown.base.plant pass.shown.mine)

-- the frames of all commands but the last were written, and none of these
pub record LacksFrames (start now : Option (List ℕ)) (pass : BookShown) : Type 0 where
  pub front : List Entry
  pub command : Entry
  pub is : pass.shown.mine ≡ front ++ command ∷ []
  pub took : Grew start now (commands_text pass.shown.base.plant front)

-- or some of these, and not all
pub record StopsAtFrames (start now : Option (List ℕ)) (pass : BookShown) : Type 0 where
  pub front : List Entry
  pub command : Entry
  pub is : pass.shown.mine ≡ front ++ command ∷ []
  pub count : ℕ
  pub part : count < length (frames pass command)
  pub took : Grew start now (commands_text pass.shown.base.plant front
      ++ take count (frames pass command))

-- what was written at such an end
abbrev pub Wrote : StreamEnd → Option (List ℕ) → Option (List ℕ) → BookShown → Type 0
Wrote (halts.Ended Write) start now pass = StopsAtFrames start now pass
Wrote halts.NoFrames start now pass = LacksFrames start now pass
Wrote end start now pass = Grew start now (commands_text pass.shown.base.plant pass.shown.mine)

-- which of the items were answered at such an end
abbrev pub IsStoppedIn : StreamEnd → List Item → List Item → Type 0
IsStoppedIn (halts.Ended Full) answered given = IsFront answered given
IsStoppedIn end answered given = IsBeginning answered given

abbrev pub IsRefusedAt : StreamEnd → BookShown → Type 0
IsRefusedAt (halts.Ended Full) pass = IsRefused pass
IsRefusedAt end pass = Unit {0}

-- an item can end a stream so
abbrev pub EndsAtItem : StreamEnd → Type 0
EndsAtItem (halts.Ended Full) = Unit {0}
EndsAtItem (halts.Ended Write) = Unit {0}
EndsAtItem (halts.Ended ending) = ⊥
EndsAtItem end = Unit {0}

-- the items were answered, those before all and then up to where the stream ended
pub record HasStopped (end : StreamEnd) (start now : Option (List ℕ)) (pass : BookShown)
    (before given : List Item) : Type 0 where
  pub at_item : EndsAtItem end
  pub answered : List Item
  pub asked : IsAskedFor pass answered
  pub begin : IsBeginning before answered
  pub stopped : IsStoppedIn end answered given
  pub wrote : Wrote end start now pass
  pub refused : IsRefusedAt end pass

-- the items of the bytes fed and of these were answered, and the framer was fed them; or the stream
-- ended before
abbrev pub TakesBytes : {U : Type 0} → Result U StreamEnd → Option (List ℕ) → Option (List ℕ)
    → BookShown → Option (List ℕ) → List ℕ → List ℕ → Type 0
TakesBytes (Ok done) start now pass framer fed bytes =
    StandsFor framer (fed ++ bytes) × HasAnswered start now pass (items (fed ++ bytes))
TakesBytes (Err end) start now pass framer fed bytes =
    HasStopped end start now pass (items fed) (items (fed ++ bytes))

-- the items of a stream of these bytes were answered; or not that of its end
abbrev pub TakesEnd : {U : Type 0} → Result U StreamEnd → Option (List ℕ) → Option (List ℕ)
    → BookShown → List ℕ → Type 0
TakesEnd (Ok done) start now pass fed = HasAnswered start now pass (items_end fed)
TakesEnd (Err end) start now pass fed =
    HasStopped end start now pass (items fed) (items_end fed)

-- ---- a stream

-- when a stream of these bytes may end so
abbrev pub MayStop : Shown → Shown → List ℕ → BookShown → StreamEnd → Type 0
MayStop source out bytes pass (halts.Ended End) = IsEmptied source
MayStop source out bytes pass (halts.Ended Fault) = HasRisen source
MayStop source out bytes pass (halts.Ended Long) = MOST_STREAM_BYTES < length bytes
MayStop source out bytes pass (halts.Ended Full) = IsRefused pass
MayStop source out bytes pass (halts.Ended Write) = HasRisen out
MayStop source out bytes pass end = Unit {0}

-- the items that are answered of the bytes: where memory ran out, first ones
abbrev pub AreTaken : StreamEnd → List ℕ → List Item → Type 0
AreTaken (halts.Ended ending) bytes answered = AreAnswered ending bytes answered
AreTaken end bytes answered = IsBeginning answered (items_end bytes)

-- the source gave more items than these
abbrev pub GaveMore : Shown → List Item → Type 0
GaveMore source answered = (count : ℕ) × GaveItems source count × (length answered < count)

-- The pass's own entries answer what is to be answered of a stream with this end.
pub record TakesStream (end : StreamEnd) (source out : Shown) (pass : BookShown) : Type 0 where
  pub bytes : List ℕ
  pub answered : List Item
  pub given : Gave source.before source.after bytes
  pub ends : MayStop source out bytes pass end
  pub of_bytes : AreTaken end bytes answered
  pub in_turn : AreInTurn bytes answered
  pub no_fault : end ≢ halts.Ended Fault → NoneFailed source
  pub answers : IsAskedFor pass answered
  pub wrote : Wrote end out.before out.after pass
  pub full : end ≡ halts.Ended Full → GaveMore source answered

-- The operators' stream was taken, whose output is one that never fails.
pub record TakesOrders (end : StreamEnd) (source : Shown) (pass : BookShown) : Type 0 where
  pub out : Shown
  pub never : ¬ HasRisen out
  pub takes : TakesStream end source out pass
