-- What the sweep did.
use Rattle.std.specs.Prelude.{◌≡◌, ℕ, ◌+◌, ◌<◌, ◌≤◌, ◌⊎◌, List, [], ◌∷◌, length, Bool, true, false}
use Rattle.certificate.specs.declared.outcome.Outcome.{Outcome}
use Rattle.plant_model.specs.declared.board.Cell.{Cell}
use Rattle.plant_model.specs.declared.board.Cell.TheVariants.{Pending, Seen}
use Rattle.plant_core.specs.Board.{is_shown}
use Rattle.plant_core.specs.Machine.{state_after}
use Rattle.plant_core.specs.declared.call.Call.TheVariants.{Publish}
use Rattle.plant_core.specs.declared.call.Entry.{Entry}
use Rattle.plant_core.specs.declared.call.Reply.TheVariants.{Shown}
use Rattle.plant_core.specs.declared.state.State.{State}
use Rattle.plant_book.specs.Books.{BookShown, IsAtRest}
use Rattle.plant_book.specs.Calls.{with_entries}

-- the machine as a pass has seen it
abbrev pub state_seen : BookShown → State
state_seen pass = state_after pass.shown.base.plant pass.shown.seen

-- no session was ended
abbrev pub IsOpen : BookShown → Type 0
IsOpen pass = (state_seen pass).is_closed ≡ false

-- each cell of the board has a verdict of the latest version
abbrev pub AreCurrent : BookShown → Type 0
AreCurrent pass = (group : ℕ) → group < length pass.shown.base.plant.groups.items
    → is_shown (state_seen pass) group ≡ true

-- a verdict of the session, of this version on the loss of this group, that is shown
pub record IsShownOn (version group : ℕ) (entry : Entry) : Type 0 where
  pub outcome : Outcome
  pub own : entry.caller ≡ 0
  pub call : entry.call ≡ Publish version group outcome
  pub shown : entry.reply ≡ Shown

-- such verdicts on groups in their order, from the first of these numbers on and before the second
abbrev pub AreShownBetween : ℕ → ℕ → ℕ → List Entry → Type 0
AreShownBetween version first last [] = first ≤ last
AreShownBetween version first last (entry ∷ entries) =
    (group : ℕ) × (first ≤ group) × IsShownOn version group entry
    × AreShownBetween version (group + 1) last entries

-- the root's entries grew by verdicts of the latest version alone, each of which is shown, and it has
-- seen no other entry
pub record Sweeps (old new : BookShown) : Type 0 where
  pub verdicts : List Entry
  pub pass : new ≡ with_entries old old.shown.seen verdicts
  pub shown : AreShownBetween (state_seen old).latest.number 0
      (length old.shown.base.plant.groups.items) verdicts
  pub latest : (state_seen new).latest ≡ (state_seen old).latest
  pub is_open : IsOpen new
  pub rest : IsAtRest new.shown

-- ---- one group

-- the cell has a verdict of the latest version
abbrev pub is_current_cell : Cell → Bool
is_current_cell Pending = false
is_current_cell (Seen version holds current) = current

-- the root's entries grew by a verdict of the latest version on the group, which is shown
pub record AddsShown (old new : BookShown) (group : ℕ) : Type 0 where
  pub entry : Entry
  pub pass : new ≡ with_entries old old.shown.seen (entry ∷ [])
  pub verdict : IsShownOn (state_seen old).latest.number group entry
  pub rest : IsAtRest new.shown

-- the group's cell was current, or it is by such a verdict
abbrev pub SweepsGroup : BookShown → BookShown → ℕ → Type 0
SweepsGroup old new group =
    ((new ≡ old) × (is_shown (state_seen old) group ≡ true)) ⊎ AddsShown old new group
