-- What a call of the book did: the one record that each call cites.
use Rattle.std.specs.Prelude.{◌≡◌, ℕ, List, [], ◌∷◌, ◌++◌, Option, Some, None}
use Rattle.std.specs.Prelude.{◌==◌, if◌then◌else◌, Bool, true, false, Result, Ok, Err}
use mathlib.Core.List.{IsPrefix}
use Rattle.no_memory.specs.declared.NoMemory.{NoMemory}
use Rattle.plant_model.specs.Versions.{Version}
use Rattle.plant_core.specs.Machine.{CoreView, IsAllowed, IsLegal, is_answer}
use Rattle.plant_core.specs.Machine.{stand_after, stand_of, state_after, state_of}
use Rattle.plant_core.specs.declared.call.Call.{Call}
use Rattle.plant_core.specs.declared.call.Entry.{Entry}
use Rattle.plant_core.specs.declared.call.Reply.{Reply}
use Rattle.turn_lock.specs.Passes.{AddsOne, Shown}
use Rattle.plant_book.specs.Books.{BookShown, with_seen, IsAtRest}
use Rattle.plant_book.specs.Values.{caller_of}
use Rattle.plant_book.specs.declared.base.BookBase.{BookBase}
use Rattle.plant_book.specs.declared.served.Served.{Served}

-- ---- one call

-- the entry of a call with this reply, where it was answered
abbrev pub entry_for : ℕ → Call → Reply → List Entry
entry_for caller call reply =
    if is_answer reply then record { caller = caller; call = call; reply = reply } ∷ [] else []

-- the later of two latest versions, where it isn't the earlier
abbrev pub made_between : Version → Version → Option Version
made_between before after = if before.number == after.number then None else Some after

-- the machine answered as it then stood, and tells the version that it made
pub record IsAnswered (old new : CoreView) (call : Call) (served : Served) : Type 0 where
  pub allowed : IsAllowed old.plant old.limit (stand_of old) call served.reply
  pub made : served.made ≡ made_between (state_of old).latest (state_of new).latest

-- the entries of an answer: none for want of memory
abbrev pub entries_for : ℕ → Call → Result Served NoMemory → List Entry
entries_for caller call (Ok served) = entry_for caller call served.reply
entries_for caller call (Err no_memory) = []

abbrev pub has_entry : Result Served NoMemory → Bool
has_entry (Ok served) = is_answer served.reply
has_entry (Err no_memory) = false

-- a history goes on from what was seen by one entry of the caller, or it is that
abbrev pub IsLeft : Bool → ℕ → List Entry → List Entry → Type 0
IsLeft true caller seen history = AddsOne caller_of caller seen history
IsLeft false caller seen history = history ≡ seen

-- ---- a call of the book

-- what the turn showed: a legal history that begins with all that the pass had seen, and all of it
-- for the root while no pass is away
pub record Turns (old : Shown Entry BookBase) (before : List Entry) : Type 0 where
  pub front : IsPrefix old.seen before
  pub alone : old.caller ≡ 0 → old.away ≡ 0 → before ≡ old.seen
  pub legal : IsLegal old.base.plant old.base.limit before

-- the pass with what the turn showed and these entries of its own
abbrev pub with_entries : BookShown → List Entry → List Entry → BookShown
with_entries pass before more = record pass {
  shown = record pass.shown { seen = before ++ more; mine = pass.shown.mine ++ more };
}

-- the call was judged as the machine stood after the history that the turn showed, and where it was
-- answered it is the pass's next entry, and the last of all
pub record Serves (old new : BookShown) (call : Call) (served : Served) : Type 0 where
  pub before : List Entry
  pub turn : Turns old.shown before
  pub allowed : IsAllowed old.shown.base.plant old.shown.base.limit
      (stand_after old.shown.base.plant before) call served.reply
  pub pass : new ≡ with_entries old before (entry_for old.shown.caller call served.reply)
  pub made : served.made ≡ made_between (state_after old.shown.base.plant before).latest
      (state_after old.shown.base.plant new.shown.seen).latest
  pub rest : IsAtRest new.shown

-- the turn passed with no entry
pub record Passes (old new : BookShown) : Type 0 where
  pub turn : Turns old.shown new.shown.seen
  pub pass : new ≡ with_seen old new.shown.seen
  pub rest : IsAtRest new.shown
