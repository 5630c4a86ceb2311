-- What a session does: its passes as they come back, its end, and the history that is left.
use Rattle.std.specs.Prelude.{◌≡◌, ℕ, ◌+◌, List, [], ◌∷◌, ◌++◌, length, All, Bool, true, false}
use mathlib.Core.List.{IsPrefix}
use Rattle.dp_io.specs.Shown.{Shown}
use Rattle.plant_model.specs.declared.limits.TheConstants.{MOST_ENTRIES}
use Rattle.plant_model.specs.declared.plant.Parts.{Parts}
use Rattle.plant_core.specs.Machine.{CoreView, state_after}
use Rattle.plant_core.specs.declared.call.Call.TheVariants as calls
use Rattle.plant_core.specs.declared.call.Entry.{Entry}
use Rattle.turn_lock.specs.Passes.{ended_of}
use Rattle.turn_lock.specs.declared.view.Ended.{Ended}
use Rattle.plant_book.specs.Books.{BookShown, IsAtRest}
use Rattle.analysis_workers.specs.Verdicts.{ArePublished}
use Rattle.analysis_workers.specs.Sweeps.{IsOpen}
use Rattle.analysis_workers.specs.Works.{GoesOn}
use Rattle.dp_sessions.specs.Sessions.{AreCurrent, asked}
use Rattle.watch_session.specs.Callers.{AreNumberedFrom}
use Rattle.watch_session.specs.Loops.{TakesOrders, TakesStream}
use Rattle.watch_session.specs.declared.stream.StreamEnds.{StreamEnds}

-- a pass came back to the root: what it has seen begins what the root has
pub record CameBack (number : ℕ) (pass root : BookShown) : Type 0 where
  pub is_number : pass.shown.caller ≡ number
  pub base : pass.shown.base ≡ root.shown.base
  pub seen : IsPrefix pass.shown.seen root.shown.seen

-- Both streams were taken, with passes that came back, and so did those of the workers, whose entries
-- are published verdicts. The root's own are too, and no pass is away.
pub record HasWatched (workers : ℕ) (ends : StreamEnds) (sensors operators out : Shown)
    (root : BookShown) : Type 0 where
  pub control : BookShown
  pub orders : BookShown
  pub control_back : CameBack 1 control root
  pub orders_back : CameBack 2 orders root
  pub sensors_taken : TakesStream ends.sensors sensors out control
  pub operators_taken : TakesOrders ends.operators operators orders
  pub passes : List (Ended Entry)
  pub ended : root.shown.ended ≡ ended_of control.shown ∷ ended_of orders.shown ∷ passes
  pub numbered : AreNumberedFrom 3 passes
  pub as_many : length passes ≡ workers
  pub is_root : root.shown.caller ≡ 0
  pub next : root.shown.next ≡ workers + 3
  pub home : root.shown.away ≡ 0
  pub published : ArePublished root.shown.mine
  pub rest : IsAtRest root.shown

-- no pass is away from the root, and the session wasn't ended
pub record CanFinish (root : BookShown) : Type 0 where
  pub is_root : root.shown.caller ≡ 0
  pub home : root.shown.away ≡ 0
  pub is_open : IsOpen root

-- the session was closed after verdicts by which each cell of its board is current
pub record IsFinished (old new : BookShown) : Type 0 where
  pub verdicts : List Entry
  pub close : Entry
  pub went_on : GoesOn old new (verdicts ++ close ∷ [])
  pub all_seen : new.shown.seen ≡ old.shown.seen ++ verdicts ++ close ∷ []
  pub published : ArePublished verdicts
  pub own : All (λ entry. entry.caller ≡ 0) verdicts
  pub closes : asked close ≡ (0, calls.Close)
  pub current : AreCurrent old.shown.base.plant (state_after old.shown.base.plant new.shown.seen)

-- or memory ran out, after some verdicts
pub record IsUnfinished (old new : BookShown) : Type 0 where
  pub verdicts : List Entry
  pub went_on : GoesOn old new verdicts
  pub all_seen : new.shown.seen ≡ old.shown.seen ++ verdicts
  pub published : ArePublished verdicts
  pub own : All (λ entry. entry.caller ≡ 0) verdicts

abbrev pub Finishes : Bool → BookShown → BookShown → Type 0
Finishes true old new = IsFinished old new
Finishes false old new = IsUnfinished old new

-- What a session over two streams leaves: its core has the history of the root pass that watched both,
-- and then finished, or not for want of memory.
pub record Watches (plant : Parts) (workers : ℕ) (core : CoreView) (ends : StreamEnds)
    (is_whole : Bool) (sensors operators out : Shown) : Type 0 where
  pub same_plant : core.plant ≡ plant
  pub same_limit : core.limit ≡ MOST_ENTRIES
  pub watched : BookShown
  pub closed : BookShown
  pub base : watched.shown.base.plant ≡ plant
  pub limit : watched.shown.base.limit ≡ MOST_ENTRIES
  pub has : HasWatched workers ends sensors operators out watched
  pub finishes : Finishes is_whole watched closed
  pub history : core.history ≡ closed.shown.seen
