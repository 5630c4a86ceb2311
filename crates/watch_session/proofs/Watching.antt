-- What a session has done when all passes are back.
use Rattle.std.proofs.Common.{◌≡◌, ℕ, ◌+◌, List, ◌∷◌, ◌++◌, length, map, sym, ◌∙◌, ap, subst}
use Rattle.std.proofs.Common.{arith, Bool}
use mathlib.Core.List.{IsPrefix}
use Rattle.atomic_table.specs.Seated.{TableId}
use Rattle.dp_io.specs.Shown.{Shown}
use Rattle.plant_model.specs.declared.limits.TheConstants.{MOST_ENTRIES}
use Rattle.plant_model.specs.declared.plant.Parts.{Parts}
use Rattle.plant_core.specs.Machine.{CoreView}
use Rattle.plant_core.specs.declared.call.Entry.{Entry}
use Rattle.turn_lock.specs.Passes.{ended_of}
use Rattle.turn_lock.specs.declared.view.Ended.{Ended}
use Rattle.plant_book.specs.Books.{BookShown, BookView, IsOf, IsStarted}
use Rattle.plant_book.specs.declared.base.BookBase.{BookBase}
use Rattle.analysis_workers.specs.Verdicts.{ArePublished}
use Rattle.watch_session.specs.Callers.{IsCaller, TookBack}
use Rattle.watch_session.specs.Crews.{AreNewFrom, AreWorked, ended_at}
use Rattle.watch_session.specs.Loops.{TakesOrders, TakesStream}
use Rattle.watch_session.specs.Watches.{CameBack, Finishes, HasWatched, Watches}
use Rattle.watch_session.specs.declared.crew.Seat.{Seat}
use Rattle.watch_session.specs.declared.shared.Caller.{Caller}
use Rattle.watch_session.specs.declared.stream.StreamEnds.{StreamEnds}
use Rattle.watch_session.proofs.Crews.{worked-count, worked-numbered}
use Rattle.watch_session.proofs.Roots.{HasGiven}

came-back : (book : BookView) (jobs : TableId) (number : ℕ) (caller : Caller) (root : BookShown)
    → IsCaller book jobs number caller → IsOf book root
    → IsPrefix caller.pass.shown.seen root.shown.seen → CameBack number caller.pass root
came-back book jobs number caller root is of seen = record {
  is_number = is.is_number;
  base = is.of.base ∙ sym of.base;
  seen = seen;
}

pub has-watched : (book : BookView) (jobs : TableId) (workers : ℕ) (ends : StreamEnds)
    (sensors operators out : Shown) (root back : BookShown) (control orders : Caller)
    (old new : List Seat) → HasGiven (2 + workers) root → IsOf book back
    → IsCaller book jobs 1 control → IsCaller book jobs 2 orders
    → TakesStream ends.sensors sensors out control.pass
    → TakesOrders ends.operators operators orders.pass
    → AreNewFrom 3 old → AreWorked old new → length old ≡ workers
    → TookBack root back (ended_of control.pass.shown ∷ ended_of orders.pass.shown
    ∷ map ended_at new)
    → IsPrefix control.pass.shown.seen back.shown.seen
    → IsPrefix orders.pass.shown.seen back.shown.seen
    → HasWatched workers ends sensors operators out back
has-watched book jobs workers ends sensors operators out root back control orders old new given of
    is_control is_orders control_taken orders_taken are worked count took control_seen orders_seen =
    let as_many : length (map ended_at new) ≡ workers = worked-count old new worked ∙ count in
    let one = ended_of control.pass.shown in
    let two = ended_of orders.pass.shown in
    record {
      control = control.pass;
      orders = orders.pass;
      control_back = came-back book jobs 1 control back is_control of control_seen;
      orders_back = came-back book jobs 2 orders back is_orders of orders_seen;
      sensors_taken = control_taken;
      operators_taken = orders_taken;
      passes = map ended_at new;
      ended = ap (λ (p : BookShown). p.shown.ended) took.root
          ∙ ap (λ (passes : List (Ended Entry)). passes ++ one ∷ two ∷ map ended_at new)
          given.none;
      numbered = worked-numbered 3 old new are worked;
      as_many = as_many;
      is_root = ap (λ (p : BookShown). p.shown.caller) took.root ∙ given.is_root;
      next = ap (λ (p : BookShown). p.shown.next) took.root ∙ omega (arith, given.next);
      home = omega (arith, took.home, as_many, given.away);
      published = subst ArePublished (sym (ap (λ (p : BookShown). p.shown.mine) took.root))
          given.published;
      rest = took.rest;
    }

-- and what it leaves when it is over
pub watches : (plant : Parts) (workers : ℕ) (book : BookView) (core : CoreView)
    (ends : StreamEnds) (is_whole : Bool) (sensors operators out : Shown)
    (fresh watched closed : BookShown) → IsStarted plant MOST_ENTRIES book fresh
    → HasWatched workers ends sensors operators out watched → IsOf book watched
    → Finishes is_whole watched closed → core.plant ≡ book.base.plant
    → core.limit ≡ book.base.limit → core.history ≡ closed.shown.seen
    → Watches plant workers core ends is_whole sensors operators out
watches plant workers book core ends is_whole sensors operators out fresh watched closed started has
    of finishes same_plant same_limit history = record {
      same_plant = same_plant ∙ started.same_plant;
      same_limit = same_limit ∙ started.same_limit;
      watched = watched;
      closed = closed;
      base = ap (λ (base : BookBase). base.plant) of.base ∙ started.same_plant;
      limit = ap (λ (base : BookBase). base.limit) of.base ∙ started.same_limit;
      has = has;
      finishes = finishes;
      history = history;
    }
