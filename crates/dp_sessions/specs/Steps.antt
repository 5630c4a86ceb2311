-- What the parts of a session do to its core and its output.
use Rattle.std.specs.Prelude.{◌≡◌, ℕ, ◌≤◌, ◌<◌, List, [], ◌∷◌, ◌++◌, length, false, map}
use Rattle.std.specs.Prelude.{Option, Some, None}
use Rattle.dp_io.specs.Shown.{GrewInPart, Shown, Took}
use Rattle.dp_io.specs.Streams.{Gave, Grew}
use Rattle.frame.specs.Frames.{StandsFor, items, items_end}
use Rattle.frame.specs.declared.item.Item.{Item}
use Rattle.plant_model.specs.declared.limits.TheConstants.{MOST_ENTRIES}
use Rattle.plant_model.specs.declared.plant.Parts.{Parts}
use Rattle.plant_core.specs.Board.{is_shown}
use Rattle.plant_core.specs.Machine.{CoreView, stand_of, state_of}
use Rattle.plant_core.specs.declared.call.Entry.{Entry}
use Rattle.plant_core.specs.declared.state.State.{State}
use Rattle.log_text.specs.Commands.{command_text, commands_text}
use Rattle.dp_sessions.specs.Sessions.{AnswersItems, AreAnswered, AreCurrent, AreInTurn}
use Rattle.dp_sessions.specs.Sessions.{AreOfSession, AreVerdictsOn, Block, GaveItems, IsBeginning}
use Rattle.dp_sessions.specs.Sessions.{IsFollowed, IsFront, IsVerdictOn, MayEnd, StopsAtCommand}
use Rattle.dp_sessions.specs.Sessions.{asked, asked_for, asked_of_streams, entries_of, events_in}
use Rattle.dp_words.specs.Writing.{TookFront}
use Rattle.dp_sessions.specs.declared.session.Caller.{Caller}
use Rattle.dp_sessions.specs.declared.session.Caller.TheVariants.{ControlLoop, Operators, Session}
use Rattle.dp_sessions.specs.declared.session.Ending.{Ending}
use Rattle.dp_sessions.specs.declared.session.Ending.TheVariants.{End, Full, Write}

-- ---- callers

-- a caller's number in the history
abbrev pub number_of : Caller → ℕ
number_of Session = 0
number_of ControlLoop = 1
number_of Operators = 2

-- ---- verdicts

-- a session that goes on: it wasn't ended, and each cell of its board is current
pub record IsRunning (core : CoreView) : Type 0 where
  pub is_open : (state_of core).is_closed ≡ false
  pub current : AreCurrent core.plant (state_of core)

-- no cell of the board has a verdict of the latest version
abbrev pub NoneIsShown : Parts → State → Type 0
NoneIsShown plant state = (group : ℕ) → group < length plant.groups.items
    → is_shown state group ≡ false

-- the history has a verdict of the latest version on the loss of the group as its last entry
pub record AddsVerdict (old new : CoreView) (group : ℕ) : Type 0 where
  pub entry : Entry
  pub history : new ≡ record old { history = old.history ++ entry ∷ [] }
  pub verdict : IsVerdictOn (state_of old).latest.number group entry

-- the history has verdicts of the latest version on all losses as its last entries
pub record AddsVerdicts (old new : CoreView) : Type 0 where
  pub verdicts : List Entry
  pub history : new ≡ record old { history = old.history ++ verdicts }
  pub are : AreVerdictsOn old.plant (state_of old).latest.number verdicts
  pub running : IsRunning new

-- the history has only verdicts of the session more, which have no frames
pub record AddsSilent (old new : CoreView) : Type 0 where
  pub verdicts : List Entry
  pub history : new ≡ record old { history = old.history ++ verdicts }
  pub of_session : AreOfSession verdicts
  pub no_frames : commands_text old.plant verdicts ≡ []

-- ---- items

-- the history has the answer to the item, and the verdicts that follow it, as its last entries
pub record AddsBlock (old new : CoreView) (item : Item) (block : Block) : Type 0 where
  pub history : new ≡ record old { history = old.history ++ entries_of block }
  pub asked : asked block.entry ≡ asked_for item
  pub followed : IsFollowed old.plant (stand_of old) block
  pub running : IsRunning new

-- the item was answered and the frames of its command written; or the history had no room for it
-- and nothing changed; or it was answered, and its frames could only be written in part
abbrev pub TakesItem : Option Ending → CoreView → CoreView → Item → Shown → Type 0
TakesItem None old new item out = (block : Block) × AddsBlock old new item block
    × Took out (command_text old.plant block.entry)
TakesItem (Some Full) old new item out =
    (new ≡ old) × Took out [] × (old.limit ≤ (state_of old).events)
TakesItem (Some Write) old new item out = (block : Block) × AddsBlock old new item block
    × TookFront out (command_text old.plant block.entry)
TakesItem (Some _) old new item out = ⊥

-- the items were answered, and what an output took since it showed the first of these is the frames
-- of all commands
pub record HasAnswered (start now : Option (List ℕ)) (core : CoreView) (answered : List Item)
    : Type 0 where
  pub answers : AnswersItems core.plant core.history answered
  pub wrote : Grew start now (commands_text core.plant core.history)

-- the items were answered, those before all and then up to one that the history had no room for
pub record IsFilled (start now : Option (List ℕ)) (core : CoreView) (before given : List Item)
    : Type 0 where
  pub answered : List Item
  pub has : HasAnswered start now core answered
  pub limit : core.limit ≤ length answered
  pub begin : IsBeginning before answered
  pub front : IsFront answered given

-- the items were answered, those before all and then up to one whose frames could only be written in
-- part
pub record IsUnwritten (start now : Option (List ℕ)) (core : CoreView) (before given : List Item)
    : Type 0 where
  pub answered : List Item
  pub answers : AnswersItems core.plant core.history answered
  pub begin : IsBeginning before answered
  pub beginning : IsBeginning answered given
  pub stops : StopsAtCommand core.plant AreOfSession start now core.history

-- the items of the bytes fed and of these were answered, and the framer was fed them; or not all of
-- these were
abbrev pub TakesBytes : Option Ending → Option (List ℕ) → Option (List ℕ) → CoreView →
    Option (List ℕ) → List ℕ → List ℕ → Type 0
TakesBytes None start now core framer fed bytes =
    StandsFor framer (fed ++ bytes) × HasAnswered start now core (items (fed ++ bytes))
TakesBytes (Some Full) start now core framer fed bytes =
    IsFilled start now core (items fed) (items (fed ++ bytes))
TakesBytes (Some Write) start now core framer fed bytes =
    IsUnwritten start now core (items fed) (items (fed ++ bytes))
TakesBytes (Some _) start now core framer fed bytes = ⊥

-- the items of a stream of these bytes were answered; or not that of its end
abbrev pub TakesEnd : Ending → Option (List ℕ) → Option (List ℕ) → CoreView → List ℕ → Type 0
TakesEnd End start now core fed = HasAnswered start now core (items_end fed)
TakesEnd Full start now core fed = IsFilled start now core (items fed) (items_end fed)
TakesEnd Write start now core fed = IsUnwritten start now core (items fed) (items_end fed)
TakesEnd _ start now core fed = ⊥

-- First ones of the items given were asked, and what an output took since it showed the first of
-- these begins the frames of all commands.
pub record HasBegun (start now : Option (List ℕ)) (core : CoreView) (given : List Item) : Type 0
  where
    pub answered : List Item
    pub begin : IsBeginning answered given
    pub asked : asked_of_streams core.history ≡ map asked_for answered
    pub wrote : GrewInPart start now (commands_text core.plant core.history)

-- so the item was, after whichever others
abbrev pub BeginsItem : CoreView → CoreView → Item → Shown → Type 0
BeginsItem old new item out = (start : Option (List ℕ)) (answered : List Item)
    → HasAnswered start out.before old answered
    → HasBegun start out.after new (answered ++ item ∷ [])

-- so the items of these bytes were, after those of whichever the framer was fed
abbrev pub BeginsBytes : Option (List ℕ) → CoreView → CoreView → List ℕ → Shown → Type 0
BeginsBytes framer old new bytes out = (start : Option (List ℕ)) (fed : List ℕ)
    → StandsFor framer fed → HasAnswered start out.before old (items fed)
    → HasBegun start out.after new (items (fed ++ bytes))

-- so that of the stream's end was
abbrev pub BeginsEnd : Option (List ℕ) → CoreView → CoreView → Shown → Type 0
BeginsEnd framer old new out = (start : Option (List ℕ)) (fed : List ℕ)
    → StandsFor framer fed → HasAnswered start out.before old (items fed)
    → HasBegun start out.after new (items_end fed)

-- the source gave more items than a history has room for
abbrev pub GaveManyItems : Shown → Type 0
GaveManyItems source = (count : ℕ) × GaveItems source count × (MOST_ENTRIES < count)

-- the frames of all commands were written, or up to within those of the last where that ended the
-- stream
abbrev pub WroteCommands : Ending → Parts → Shown → List Entry → Type 0
WroteCommands Write plant out history =
    StopsAtCommand plant AreOfSession out.before out.after history
WroteCommands _ plant out history = Took out (commands_text plant history)

-- The history answers what is to be answered of a stream with this ending, which may come where the
-- history has at most as many telegrams and notes as it may.
pub record TakesStream (ending : Ending) (source out : Shown) (core : CoreView) : Type 0 where
  pub bytes : List ℕ
  pub answered : List Item
  pub given : Gave source.before source.after bytes
  pub ends : events_in core.history ≤ MOST_ENTRIES → MayEnd source out bytes core.history ending
  pub of_bytes : AreAnswered ending bytes answered
  pub in_turn : AreInTurn bytes answered
  pub answers : AnswersItems core.plant core.history answered
  pub wrote : WroteCommands ending core.plant out core.history
  pub running : IsRunning core
  pub full : ending ≡ Full → GaveManyItems source

-- First ones of the items of what the source gave were asked.
pub record BeginsTaking (source out : Shown) (core : CoreView) : Type 0 where
  pub bytes : List ℕ
  pub given : Gave source.before source.after bytes
  pub begun : HasBegun out.before out.after core (items_end bytes)
