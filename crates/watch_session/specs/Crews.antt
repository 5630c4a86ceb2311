-- What workers do to their seats.
use Rattle.std.specs.Prelude.{◌≡◌, ℕ, ◌+◌, List, [], ◌∷◌, All}
use Rattle.std.specs.List.{AllZip}
use Rattle.atomic_table.specs.Seated.{TableId}
use Rattle.plant_core.specs.declared.call.Entry.{Entry}
use Rattle.turn_lock.specs.Passes.{ended_of}
use Rattle.turn_lock.specs.declared.view.Ended.{Ended}
use Rattle.plant_book.specs.Books.{BookShown, BookView, IsOf}
use Rattle.analysis_workers.specs.Verdicts.{ArePublished}
use Rattle.analysis_workers.specs.Works.{GoesOn, IsDisplayOf}
use Rattle.watch_session.specs.declared.crew.Seat.{Seat}

-- a pass went on, with published verdicts as its new entries
pub record Publishes (old new : BookShown) : Type 0 where
  pub entries : List Entry
  pub went_on : GoesOn old new entries
  pub published : ArePublished entries

-- the seat's passes and its display are of this book and of this queue
pub record IsSeatOf (book : BookView) (jobs : TableId) (seat : Seat) : Type 0 where
  pub pass : IsOf book seat.pass
  pub own : seat.own.queue ≡ jobs
  pub eyes : IsDisplayOf book.base seat.eyes

abbrev pub AreSeatsOf : BookView → TableId → List Seat → Type 0
AreSeatsOf book jobs seats = All (IsSeatOf book jobs) seats

-- a worker's seat after its work
abbrev pub IsWorked : Seat → Seat → Type 0
IsWorked old new = Publishes old.pass new.pass

-- each seat after its work, in the same order
abbrev pub AreWorked : List Seat → List Seat → Type 0
AreWorked old new = AllZip IsWorked old new

-- ---- seats that are made, and taken back

-- seats of passes that are numbered from here on, which have no entries
abbrev pub AreNewFrom : ℕ → List Seat → Type 0
AreNewFrom n [] = Unit {0}
AreNewFrom n (seat ∷ seats) =
    (seat.pass.shown.caller ≡ n) × (seat.pass.shown.mine ≡ []) × AreNewFrom (n + 1) seats

-- the root once it has given so many more passes, each with a display
abbrev pub with_seats : BookShown → ℕ → BookShown
with_seats root count = record root {
  displays = root.displays + count;
  shown = record root.shown { next = root.shown.next + count; away = root.shown.away + count };
}

-- what the root keeps of the pass of a seat
abbrev pub ended_at : Seat → Ended Entry
ended_at seat = ended_of seat.pass.shown
