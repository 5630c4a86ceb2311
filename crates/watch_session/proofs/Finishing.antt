-- The end of a session.
use Rattle.std.proofs.Common.{◌≡◌, ℕ, ◌+◌, ◌<◌, List, [], ◌∷◌, ◌++◌, length, map, Bool, true}
use Rattle.std.proofs.Common.{false, cond}
use Rattle.std.proofs.Common.{refl, sym, ◌∙◌, ap, subst}
use Rattle.std.specs.List.{All}
use Rattle.std.proofs.lemmas.List.{append-nil}
use Rattle.std.proofs.lemmas.List.Elements.{All-cons, All-nil}
use Rattle.dp_io.specs.Shown.{Shown}
use Rattle.plant_model.specs.declared.plant.Parts.{Parts}
use Rattle.plant_core.specs.Board.{is_shown}
use Rattle.plant_core.specs.Machine.{IsAllowedWhere, Stand, is_answer, is_full}
use Rattle.plant_core.specs.Machine.{stand_after, state_after}
use Rattle.plant_core.specs.declared.call.Call.TheVariants.{Close}
use Rattle.plant_core.specs.declared.call.Entry.{Entry}
use Rattle.plant_core.specs.declared.call.Reply.{Reply}
use Rattle.plant_core.specs.declared.call.Reply.TheVariants.{Taken}
use Rattle.plant_core.proofs.Histories.{stand_after-push}
use Rattle.atomic_table.specs.Seated.{TableId}
use Rattle.turn_lock.specs.Passes.{root_of}
use Rattle.plant_book.specs.Books.{BookShown, with_no_display}
use Rattle.plant_book.specs.declared.base.BookBase.{BookBase}
use Rattle.plant_book.specs.Calls.{Passes, Serves, entry_for}
use Rattle.plant_book.specs.declared.served.Served.{Served}
use Rattle.analysis_workers.specs.Sweeps.{AreCurrent, AreShownBetween, Sweeps, state_seen}
use Rattle.analysis_workers.specs.Works.{GoesOn}
use Rattle.analysis_workers.proofs.Going.{goes-further, goes-passing, goes-serving}
use Rattle.analysis_workers.proofs.Verdicts.{shown-published}
use Rattle.watch_session.specs.Asked.{call_for}
use Rattle.watch_session.specs.Threads.{calls_of}
use Rattle.watch_session.specs.Watches.{CanFinish, Finishes, HasWatched, IsFinished, IsUnfinished}
use Rattle.watch_session.specs.declared.stream.StreamEnds.{StreamEnds}
use Rattle.watch_session.proofs.Full.{open-after}
use Rattle.watch_session.proofs.Histories.{open-history}
use Rattle.watch_session.proofs.WatchedHistory.{is-history}

-- ---- the sweep

own-shown : (version first last : ℕ) (entries : List Entry)
    → AreShownBetween version first last entries → All (λ e. e.caller ≡ 0) entries
own-shown version first last [] are = All-nil (λ (e : Entry). e.caller ≡ 0)
own-shown version first last (entry ∷ entries) are =
    All-cons (λ (e : Entry). e.caller ≡ 0) entry entries are.2.own
    (own-shown version (are.0 + 1) last entries are.3)

goes-sweeping : (old new : BookShown) (sweeps : Sweeps old new) → GoesOn old new sweeps.verdicts
goes-sweeping old new sweeps =
    let seen = ap (λ (p : BookShown). p.shown.seen) sweeps.pass in record {
      pass = sweeps.pass ∙ (λ i. record old {
        shown = record old.shown {
          seen = sym seen i;
          mine = old.shown.mine ++ sweeps.verdicts;
        };
      });
      seen = (sweeps.verdicts, sym seen);
      rest = sweeps.rest;
    }

seen-swept : (old new : BookShown) (sweeps : Sweeps old new)
    → new.shown.seen ≡ old.shown.seen ++ sweeps.verdicts
seen-swept old new sweeps = ap (λ (p : BookShown). p.shown.seen) sweeps.pass

-- memory ran out in the sweep
pub finishes-swept : (old new : BookShown) → Sweeps old new → IsUnfinished old new
finishes-swept old new sweeps = record {
  verdicts = sweeps.verdicts;
  went_on = goes-sweeping old new sweeps;
  all_seen = seen-swept old new sweeps;
  published = shown-published _ _ _ sweeps.verdicts sweeps.shown;
  own = own-shown _ _ _ sweeps.verdicts sweeps.shown;
}

-- after a sweep the root is still alone
pub swept-alone : (old mid : BookShown) → CanFinish old → Sweeps old mid → CanFinish mid
swept-alone old mid can sweeps = record {
  is_root = ap (λ (p : BookShown). p.shown.caller) sweeps.pass ∙ can.is_root;
  home = ap (λ (p : BookShown). p.shown.away) sweeps.pass ∙ can.home;
  is_open = sweeps.is_open;
}

-- or it ran out for the Close
pub finishes-passing : (old mid new : BookShown) → CanFinish old → Sweeps old mid
    → Passes mid new → IsUnfinished old new
finishes-passing old mid new can sweeps passes =
    let alone = swept-alone old mid can sweeps in
    let verdicts = sweeps.verdicts in record {
      verdicts = verdicts;
      went_on = subst (GoesOn old new) (append-nil verdicts)
          (goes-further old mid new verdicts [] (goes-sweeping old mid sweeps)
          (goes-passing mid new passes));
      all_seen = passes.turn.alone alone.is_root alone.home ∙ seen-swept old mid sweeps;
      published = shown-published _ _ _ verdicts sweeps.shown;
      own = own-shown _ _ _ verdicts sweeps.shown;
    }

-- ---- the Close

close-where : (closed : Bool) (plant : Parts) (limit : ℕ) (stand : Stand) (reply : Reply)
    → closed ≡ false
    → IsAllowedWhere closed (is_full limit stand.state Close) plant stand Close reply
    → reply ≡ Taken
close-where true plant limit stand reply is_open allowed = absurd (cc)
close-where false plant limit stand reply is_open allowed = allowed

-- the session's own last entry
abbrev close_entry : Reply → Entry
close_entry reply = record { caller = 0; call = Close; reply = reply }

-- the board stays
current-closed : (plant : Parts) (history : List Entry) (reply : Reply) (group : ℕ)
    → is_shown (state_after plant (history ++ close_entry reply ∷ [])) group
    ≡ is_shown (state_after plant history) group
current-closed plant history reply group =
    ap (λ (s : Stand). is_shown s.state group)
    (stand_after-push plant history (close_entry reply))

-- the session was closed
pub finishes-closed : (old mid new : BookShown) (served : Served) → CanFinish old
    → Sweeps old mid → AreCurrent mid → Serves mid new Close served → IsFinished old new
finishes-closed old mid new served can sweeps current serves =
    let alone = swept-alone old mid can sweeps in
    let verdicts = sweeps.verdicts in
    let reply = served.reply in
    let close = close_entry reply in
    let plant : mid.shown.base.plant ≡ old.shown.base.plant =
    ap (λ (p : BookShown). p.shown.base.plant) sweeps.pass in
    let before : serves.before ≡ mid.shown.seen =
    serves.turn.alone alone.is_root alone.home in
    let stand = stand_after mid.shown.base.plant serves.before in
    let is_open : stand.state.is_closed ≡ false =
    ap (λ (h : List Entry). (state_after mid.shown.base.plant h).is_closed) before
    ∙ alone.is_open in
    let taken : reply ≡ Taken = close-where stand.state.is_closed mid.shown.base.plant
    mid.shown.base.limit stand reply is_open serves.allowed in
    let more : entry_for mid.shown.caller Close reply ≡ close ∷ [] =
    (λ i. entry_for (alone.is_root i) Close reply)
    ∙ ap (λ (b : Bool). cond b (close ∷ []) []) (ap is_answer taken) in
    let last : new.shown.seen ≡ mid.shown.seen ++ close ∷ [] =
    ap (λ (p : BookShown). p.shown.seen) serves.pass
    ∙ (λ i. before i ++ more i) in
    record {
      verdicts = verdicts;
      close = close;
      went_on = goes-further old mid new verdicts (close ∷ []) (goes-sweeping old mid sweeps)
          (subst (GoesOn mid new) more (goes-serving mid new Close served serves));
      all_seen = last ∙ ap (λ (h : List Entry). h ++ close ∷ []) (seen-swept old mid sweeps);
      published = shown-published _ _ _ verdicts sweeps.shown;
      own = own-shown _ _ _ verdicts sweeps.shown;
      closes = refl;
      current = λ group below.
          ap (λ (h : List Entry). is_shown (state_after old.shown.base.plant h) group) last
          ∙ current-closed old.shown.base.plant mid.shown.seen reply group
          ∙ ap (λ (p : Parts). is_shown (state_after p mid.shown.seen) group) (sym plant)
          ∙ current group
          (subst (λ (p : Parts). group < length p.groups.items) (sym plant) below);
    }

-- ---- whatever the end

-- the root is still alone
pub finished-alone : (is_whole : Bool) (old new : BookShown) → Finishes is_whole old new
    → new.shown.away ≡ old.shown.away
finished-alone true old new is = ap (λ (p : BookShown). p.shown.away) is.went_on.pass
finished-alone false old new is = ap (λ (p : BookShown). p.shown.away) is.went_on.pass

pub finished-root : (is_whole : Bool) (old new : BookShown) → Finishes is_whole old new
    → new.shown.caller ≡ old.shown.caller
finished-root true old new is = ap (λ (p : BookShown). p.shown.caller) is.went_on.pass
finished-root false old new is = ap (λ (p : BookShown). p.shown.caller) is.went_on.pass

-- ---- before the end

-- a root that has just started can finish
pub can-fresh : (lock : TableId) (base : BookBase) (root : BookShown)
    → root ≡ with_no_display (root_of lock base) → CanFinish root
can-fresh lock base root fresh = record {
  is_root = ap (λ (p : BookShown). p.shown.caller) fresh;
  home = ap (λ (p : BookShown). p.shown.away) fresh;
  is_open = ap (λ (p : BookShown). (state_seen p).is_closed) fresh;
}

-- and so can one that has watched both streams
pub can-watched : (workers : ℕ) (ends : StreamEnds) (sensors operators out : Shown)
    (root : BookShown) → HasWatched workers ends sensors operators out root → CanFinish root
can-watched workers ends sensors operators out root has =
    let control = has.control.shown.mine in
    let orders = has.orders.shown.mine in
    let asked = has.sensors_taken.answered in
    let ordered = has.operators_taken.takes.answered in
    let none = open-history workers control orders root.shown.seen
    (is-history workers ends sensors operators out root has) asked ordered
    (subst (λ (n : ℕ). calls_of control ≡ map (call_for n) asked) has.control_back.is_number
    has.sensors_taken.answers)
    (subst (λ (n : ℕ). calls_of orders ≡ map (call_for n) ordered) has.orders_back.is_number
    has.operators_taken.takes.answers) in
    record {
      is_root = has.is_root;
      home = has.home;
      is_open = open-after root.shown.base.plant root.shown.seen none;
    }
