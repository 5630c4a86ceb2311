-- What callers of a session have of their own.
use Rattle.std.specs.Prelude.{◌≡◌, ℕ, ◌+◌, List, [], ◌∷◌, ◌++◌, length}
use mathlib.Core.List.{IsPrefix}
use Rattle.atomic_table.specs.Seated.{TableId}
use Rattle.plant_core.specs.declared.call.Entry.{Entry}
use Rattle.turn_lock.specs.declared.view.Ended.{Ended}
use Rattle.plant_book.specs.Books.{BookShown, BookView, IsAtRest, IsOf}
use Rattle.analysis_workers.specs.Verdicts.{ArePublished}
use Rattle.watch_session.specs.declared.shared.Caller.{Caller}

-- the passes are of this book and of this queue, and the caller's number is this
pub record IsCaller (book : BookView) (jobs : TableId) (number : ℕ) (caller : Caller) : Type 0 where
  pub of : IsOf book caller.pass
  pub own : caller.own.queue ≡ jobs
  pub is_number : caller.pass.shown.caller ≡ number

-- what the root keeps of passes that are numbered from here on, whose entries are published verdicts
abbrev pub AreNumberedFrom : ℕ → List (Ended Entry) → Type 0
AreNumberedFrom n [] = Unit {0}
AreNumberedFrom n (pass ∷ passes) =
    (pass.caller ≡ n) × ArePublished pass.mine × AreNumberedFrom (n + 1) passes

-- The root took passes back: it keeps these of them, in this order, and has seen at least what it had.
pub record TookBack (old new : BookShown) (passes : List (Ended Entry)) : Type 0 where
  pub root : new ≡ record old {
    shown = record old.shown {
      seen = new.shown.seen;
      away = new.shown.away;
      ended = old.shown.ended ++ passes;
    };
  }
  pub home : new.shown.away + length passes ≡ old.shown.away
  pub seen : IsPrefix old.shown.seen new.shown.seen
  pub rest : IsAtRest new.shown
