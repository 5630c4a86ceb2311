-- What the root has seen when all passes are back.
use Rattle.std.proofs.Common.{◌≡◌, ℕ, ◌<◌, List, ◌∷◌, sym, subst, arith}
use Rattle.std.specs.List.{All}
use Rattle.std.proofs.lemmas.List.Elements.{All-head, All-tail}
use Rattle.dp_io.specs.Shown.{Shown}
use Rattle.plant_core.specs.declared.call.Entry.{Entry}
use Rattle.turn_lock.specs.Passes.{ended_of}
use Rattle.turn_lock.specs.declared.view.Ended.{Ended}
use Rattle.plant_book.specs.Books.{BookShown}
use Rattle.analysis_workers.specs.Verdicts.{ArePublished}
use Rattle.watch_session.specs.Watches.{HasWatched}
use Rattle.watch_session.specs.declared.stream.StreamEnds.{StreamEnds}
use Rattle.watch_session.proofs.Entries.{HasKept, by, published-by}
use Rattle.watch_session.proofs.Histories.{IsHistory}

-- it is by the two loops, by workers and by the session
pub is-history : (workers : ℕ) (ends : StreamEnds) (sensors operators out : Shown)
    (root : BookShown) (has : HasWatched workers ends sensors operators out root)
    → IsHistory workers has.control.shown.mine has.orders.shown.mine root.shown.seen
is-history workers ends sensors operators out root has =
    let seen = root.shown.seen in
    let sound = has.rest.sound in
    let control = ended_of has.control.shown in
    let orders = ended_of has.orders.shown in
    let kept = subst (λ (passes : List (Ended Entry)). All (HasKept seen) passes) has.ended
    (sound.ended has.is_root) in
    let later = All-tail (HasKept seen) control (orders ∷ has.passes) kept in
    record {
      callers = subst (λ (n : ℕ). All (λ (e : Entry). e.caller < n) seen) has.next
          (sound.given has.is_root);
      one = subst (λ (n : ℕ). by n seen ≡ has.control.shown.mine) has.control_back.is_number
          (All-head (HasKept seen) control (orders ∷ has.passes) kept);
      two = subst (λ (n : ℕ). by n seen ≡ has.orders.shown.mine) has.orders_back.is_number
          (All-head (HasKept seen) orders has.passes later);
      session = subst ArePublished (sym (subst (λ (n : ℕ). by n seen ≡ root.shown.mine)
          has.is_root sound.mine)) has.published;
      work = λ n least below. published-by 3 n has.passes seen has.numbered
          (All-tail (HasKept seen) orders has.passes later) least
          (omega (arith, below, has.as_many));
    }
