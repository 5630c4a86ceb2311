-- The root pass from the start of a session until all passes are back.
use Rattle.std.proofs.Common.{◌≡◌, ℕ, ◌+◌, ◌-◌, List, [], ◌∷◌, ◌++◌, map, sym, ◌∙◌}
use Rattle.std.proofs.Common.{ap, subst, arith, append_assoc}
use Rattle.std.proofs.lemmas.List.{append-nil, length-append, map-append}
use Rattle.std.proofs.lemmas.List.Elements.{All-append, All-nil}
use mathlib.Core.List.{IsPrefix}
use Rattle.atomic_table.specs.Seated.{TableId}
use Rattle.plant_core.specs.declared.call.Entry.{Entry}
use Rattle.turn_lock.specs.Lists.{longer}
use Rattle.turn_lock.specs.Passes.{ended_of, root_of}
use Rattle.turn_lock.specs.declared.view.Ended.{Ended}
use Rattle.turn_lock.proofs.Lists.{prefix_self, prefix_trans}
use Rattle.plant_book.specs.Books.{BookShown, IsAtRest, with_no_display}
use Rattle.plant_book.specs.declared.base.BookBase.{BookBase}
use Rattle.analysis_workers.specs.Verdicts.{ArePublished, IsPublish}
use Rattle.watch_session.specs.Callers.{TookBack}
use Rattle.watch_session.specs.Crews.{Publishes, ended_at, with_seats}
use Rattle.watch_session.specs.declared.crew.Seat.{Seat}

-- the root has given so many passes and took none back, and its own entries are published verdicts
pub record HasGiven (given : ℕ) (root : BookShown) : Type 0 where
  pub is_root : root.shown.caller ≡ 0
  pub next : root.shown.next ≡ given + 1
  pub away : root.shown.away ≡ given
  pub none : root.shown.ended ≡ []
  pub published : ArePublished root.shown.mine

-- ---- passes that are given

pub given-none : (lock : TableId) (base : BookBase) (root : BookShown)
    → root ≡ with_no_display (root_of lock base) → HasGiven 0 root
given-none lock base root fresh = record {
  is_root = ap (λ (p : BookShown). p.shown.caller) fresh;
  next = ap (λ (p : BookShown). p.shown.next) fresh;
  away = ap (λ (p : BookShown). p.shown.away) fresh;
  none = ap (λ (p : BookShown). p.shown.ended) fresh;
  published = subst ArePublished (sym (ap (λ (p : BookShown). p.shown.mine) fresh))
      (All-nil (λ (e : Entry). IsPublish e.call));
}

-- one more
pub given-one : (given : ℕ) (old new : BookShown) → new ≡ record old {
  shown = record old.shown { next = old.shown.next + 1; away = old.shown.away + 1 };
} → HasGiven given old → HasGiven (given + 1) new
given-one given old new is has = record {
  is_root = ap (λ (p : BookShown). p.shown.caller) is ∙ has.is_root;
  next = ap (λ (p : BookShown). p.shown.next) is ∙ ap (λ (n : ℕ). n + 1) has.next;
  away = ap (λ (p : BookShown). p.shown.away) is ∙ ap (λ (n : ℕ). n + 1) has.away;
  none = ap (λ (p : BookShown). p.shown.ended) is ∙ has.none;
  published = subst ArePublished (sym (ap (λ (p : BookShown). p.shown.mine) is)) has.published;
}

-- so many more, for seats
pub given-seats : (given count : ℕ) (old new : BookShown) → new ≡ with_seats old count
    → HasGiven given old → HasGiven (given + count) new
given-seats given count old new is has = record {
  is_root = ap (λ (p : BookShown). p.shown.caller) is ∙ has.is_root;
  next = ap (λ (p : BookShown). p.shown.next) is ∙ omega (arith, has.next);
  away = ap (λ (p : BookShown). p.shown.away) is ∙ ap (λ (n : ℕ). n + count) has.away;
  none = ap (λ (p : BookShown). p.shown.ended) is ∙ has.none;
  published = subst ArePublished (sym (ap (λ (p : BookShown). p.shown.mine) is)) has.published;
}

-- and it published verdicts
pub given-goes : (given : ℕ) (old new : BookShown) → Publishes old new → HasGiven given old
    → HasGiven given new
given-goes given old new publishes has =
    let is = publishes.went_on.pass in record {
      is_root = ap (λ (p : BookShown). p.shown.caller) is ∙ has.is_root;
      next = ap (λ (p : BookShown). p.shown.next) is ∙ has.next;
      away = ap (λ (p : BookShown). p.shown.away) is ∙ has.away;
      none = ap (λ (p : BookShown). p.shown.ended) is ∙ has.none;
      published = subst ArePublished (sym (ap (λ (p : BookShown). p.shown.mine) is))
          (All-append (λ (e : Entry). IsPublish e.call) old.shown.mine publishes.entries
          has.published publishes.published);
    }

-- ---- passes that are taken back

pub took-none : (root : BookShown) → IsAtRest root.shown → TookBack root root []
took-none root rest = record {
  root = λ i. record root {
    shown = record root.shown { ended = sym (append-nil root.shown.ended) i };
  };
  home = omega arith;
  seen = prefix_self root.shown.seen;
  rest = rest;
}

-- one
pub took-one : (old new other : BookShown) → new ≡ record old {
  shown = record old.shown {
    seen = longer old.shown.seen other.shown.seen;
    away = old.shown.away - 1;
    ended = old.shown.ended ++ ended_of other.shown ∷ [];
  };
} → new.shown.away + 1 ≡ old.shown.away → IsPrefix old.shown.seen new.shown.seen
    → IsAtRest new.shown → TookBack old new (ended_of other.shown ∷ [])
took-one old new other is fewer seen rest =
    let seen_is = ap (λ (p : BookShown). p.shown.seen) is in
    let away_is = ap (λ (p : BookShown). p.shown.away) is in
    record {
      root = is ∙ (λ i. record old {
        shown = record old.shown {
          seen = sym seen_is i;
          away = sym away_is i;
          ended = old.shown.ended ++ ended_of other.shown ∷ [];
        };
      });
      home = fewer;
      seen = seen;
      rest = rest;
    }

-- and then more
pub took-more : (old mid new : BookShown) (first second : List (Ended Entry))
    → TookBack old mid first → TookBack mid new second → TookBack old new (first ++ second)
took-more old mid new first second one two = record {
  root = two.root ∙ (λ i. record (one.root i) {
    shown = record (one.root i).shown {
      seen = new.shown.seen;
      away = new.shown.away;
      ended = (one.root i).shown.ended ++ second;
    };
  }) ∙ (λ i. record old {
    shown = record old.shown {
      seen = new.shown.seen;
      away = new.shown.away;
      ended = append_assoc old.shown.ended first second i;
    };
  });
  home = omega (arith, one.home, two.home, length-append first second);
  seen = prefix_trans old.shown.seen mid.shown.seen new.shown.seen one.seen two.seen;
  rest = two.rest;
}

-- the last of seats
pub took-seats : (old mid new : BookShown) (all front : List Seat) (seat : Seat)
    → all ≡ front ++ seat ∷ [] → TookBack old mid (map ended_at front)
    → TookBack mid new (ended_at seat ∷ []) → TookBack old new (map ended_at all)
took-seats old mid new all front seat is first last =
    subst (TookBack old new) (sym (ap (map ended_at) is ∙ map-append ended_at front (seat ∷ [])))
    (took-more old mid new (map ended_at front) (ended_at seat ∷ []) first last)
