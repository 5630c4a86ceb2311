-- What contracts see of a book and of its passes.
use Rattle.std.specs.Prelude.{◌≡◌, ℕ, List, false}
use Rattle.atomic_table.specs.Seated.{TableId}
use Rattle.glance.specs.Shown.{Displays}
use Rattle.plant_core.specs.Machine.{IsLegal}
use Rattle.plant_core.specs.declared.call.Entry.{Entry}
use Rattle.plant_model.specs.declared.plant.Parts.{Parts}
use Rattle.turn_lock.specs.Passes.{IsSound, Shown, root_of}
use Rattle.plant_book.specs.Values.{caller_of}
use Rattle.plant_book.specs.declared.base.BookBase.{BookBase}
use Rattle.plant_book.specs.declared.board.BoardBase.{BoardBase}

-- which lock the callers take turns at, and what no call changes
pub record BookView : Type 0 where
  pub lock : TableId
  pub base : BookBase

-- the displays of a book's board
abbrev pub displays_of : BookBase → Displays BoardBase
displays_of base =
    record { glance = base.glance; base = record { plant = base.plant; limit = base.limit } }

-- what the lock's pass shows, and how many displays were made by it
pub record BookShown : Type 0 where
  pub shown : Shown Entry BookBase
  pub displays : ℕ

-- between calls: the pass doesn't hold the turn, its own entries are those of its number, and what
-- it has seen is a legal history of the plant
pub record IsAtRest (shown : Shown Entry BookBase) : Type 0 where
  pub free : shown.holds ≡ false
  pub sound : IsSound caller_of shown
  pub legal : IsLegal shown.base.plant shown.base.limit shown.seen

-- the pass is one of the book's
pub record IsOf (book : BookView) (pass : BookShown) : Type 0 where
  pub lock : pass.shown.lock ≡ book.lock
  pub base : pass.shown.base ≡ book.base

-- a pass that has made no display
abbrev pub with_no_display : Shown Entry BookBase → BookShown
with_no_display shown = record { shown = shown; displays = 0 }

-- the pass with this history as what it has seen
abbrev pub with_seen : BookShown → List Entry → BookShown
with_seen pass history = record pass { shown = record pass.shown { seen = history } }

-- a book of the plant and the limit, with its root pass, which has seen nothing
pub record IsStarted (plant : Parts) (limit : ℕ) (book : BookView) (root : BookShown) : Type 0 where
  pub same_plant : book.base.plant ≡ plant
  pub same_limit : book.base.limit ≡ limit
  pub fresh : root ≡ with_no_display (root_of book.lock book.base)
  pub of : IsOf book root
