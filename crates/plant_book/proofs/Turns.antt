-- What a pass shows after its turn.
use Rattle.std.proofs.Common.{◌≡◌, ℕ, List, [], ◌++◌, length, drop, true, false}
use Rattle.std.proofs.Common.{ap, sym, subst, ◌∙◌}
use Rattle.std.specs.Prelude.{Result, Ok, Err, IfOk, OnErr}
use Rattle.no_memory.specs.declared.NoMemory.{NoMemory}
use Rattle.std.proofs.Math.Seq.{drop-append_seam}
use Rattle.std.proofs.lemmas.List.{append-nil}
use mathlib.Core.List.{IsPrefix}
use Rattle.plant_core.specs.Machine.{IsAllowed, IsLegal, stand_after, state_after}
use Rattle.plant_core.specs.declared.call.Call.{Call}
use Rattle.plant_core.specs.declared.call.Entry.{Entry}
use Rattle.turn_lock.specs.Passes.{IsSound, Shown}
use Rattle.plant_book.specs.Books.{BookShown, BookView, IsAtRest, IsOf}
use Rattle.plant_book.specs.Calls.{IsAnswered, Passes, Serves, Turns, entries_for, entry_for}
use Rattle.plant_book.specs.Calls.{made_between}
use Rattle.plant_book.specs.Values.{ValueView, base_of, caller_of}
use Rattle.plant_book.specs.declared.base.BookBase.{BookBase}
use Rattle.plant_book.specs.declared.served.Served.{Served}

-- ---- the condition of a call

pub lock_is : {pass old : BookShown} {book this : BookView}
    → pass ≡ old → book ≡ this → IsOf this old → pass.shown.lock ≡ book.lock
lock_is pass book of = ap (λ (p : BookShown). p.shown.lock) pass ∙ of.lock
    ∙ sym (ap (λ (b : BookView). b.lock) book)

pub base_is : {pass old : BookShown} {book this : BookView}
    → pass ≡ old → book ≡ this → IsOf this old → pass.shown.base ≡ book.base
base_is pass book of = ap (λ (p : BookShown). p.shown.base) pass ∙ of.base
    ∙ sym (ap (λ (b : BookView). b.base) book)

-- ---- a turn

-- the pass holds the turn, with this value
pub record Entered (p q : Shown Entry BookBase) (v : ValueView) : Type 0 where
  pub pass : q ≡ record p { seen = v.core.history; holds = true }
  pub seen : IsPrefix p.seen v.core.history
  pub base : base_of v ≡ p.base
  pub alone : p.caller ≡ 0 → p.away ≡ 0 → v.core.history ≡ p.seen
  pub legal : IsLegal v.core.plant v.core.limit v.core.history

-- the pass has given the value back, which had come to be this
pub record Left (q r : Shown Entry BookBase) (w : ValueView) : Type 0 where
  pub pass : r ≡ record q {
    seen = w.core.history;
    mine = q.mine ++ drop (length q.seen) w.core.history;
    holds = false;
  }
  pub sound : IsSound caller_of r
  pub legal : IsLegal w.core.plant w.core.limit w.core.history

turns : (p q : Shown Entry BookBase) (v : ValueView) → Entered p q v → Turns p v.core.history
turns p q v e = record {
  front = e.seen;
  alone = e.alone;
  legal = subst (λ (b : BookBase). IsLegal b.plant b.limit v.core.history) e.base e.legal;
}

pub caller_is : (p q : Shown Entry BookBase) (v : ValueView) → Entered p q v → q.caller ≡ p.caller
caller_is p q v e = ap (λ (x : Shown Entry BookBase). x.caller) e.pass

-- the value with these entries more
abbrev pub with_more : ValueView → List Entry → ValueView
with_more v more = record v { core = record v.core { history = v.core.history ++ more } }

pub same_value : (v : ValueView) → v ≡ with_more v []
same_value v = λ i. record v {
  core = record v.core { history = sym (append-nil v.core.history) i };
}

module _ (p q r : Shown Entry BookBase) (v w : ValueView) (more : List Entry) (e : Entered p q v)
    (l : Left q r w) (w_is : w ≡ with_more v more) where
  list_is : w.core.history ≡ v.core.history ++ more
  list_is = ap (λ (x : ValueView). x.core.history) w_is

  more_is : drop (length q.seen) w.core.history ≡ more
  more_is = ap (λ (x : Shown Entry BookBase). drop (length x.seen) w.core.history) e.pass
      ∙ ap (drop (length v.core.history)) list_is ∙ drop-append_seam v.core.history more

  -- with its entries the pass is as before, and doesn't hold the turn
  left_is : r ≡ record p { seen = v.core.history ++ more; mine = p.mine ++ more; holds = false }
  left_is = l.pass ∙ λ i. record (e.pass i) {
    seen = list_is i;
    mine = (e.pass i).mine ++ more_is i;
    holds = false;
  }

  pub seen_is : w.core.history ≡ r.seen
  seen_is = list_is ∙ sym (ap (λ (x : Shown Entry BookBase). x.seen) left_is)

  base_stays : base_of w ≡ r.base
  base_stays = ap base_of w_is ∙ e.base ∙ sym (ap (λ (x : Shown Entry BookBase). x.base) left_is)

  pub rests : IsAtRest r
  rests = record {
    free = ap (λ (x : Shown Entry BookBase). x.holds) left_is;
    sound = l.sound;
    legal = subst (λ (h : List Entry). IsLegal r.base.plant r.base.limit h) seen_is
        (subst (λ (b : BookBase). IsLegal b.plant b.limit w.core.history) base_stays l.legal);
  }

  pub stays_of : (book : BookView) (d : ℕ) → p.lock ≡ book.lock → p.base ≡ book.base
      → IsOf book (record { shown = r; displays = d })
  stays_of book d lock base = record {
    lock = ap (λ (x : Shown Entry BookBase). x.lock) left_is ∙ lock;
    base = ap (λ (x : Shown Entry BookBase). x.base) left_is ∙ base;
  }

-- a call with an answer
pub serves : (p q r : Shown Entry BookBase) (d : ℕ) (v w : ValueView) (call : Call)
    (served : Served) (free : p.holds ≡ false) (e : Entered p q v) (l : Left q r w)
    → w ≡ with_more v (entry_for p.caller call served.reply)
    → IsAnswered v.core w.core call served
    → Serves (record { shown = p; displays = d }) (record { shown = r; displays = d }) call served
serves p q r d v w call served free e l w_is answered =
    let more = entry_for p.caller call served.reply in
    let left = left_is p q r v w more e l w_is in
    let shown : r ≡ record p { seen = v.core.history ++ more; mine = p.mine ++ more } = left
    ∙ λ i. record p {
      seen = v.core.history ++ more;
      mine = p.mine ++ more;
      holds = sym free i;
    } in
    let plant = ap (λ (x : ValueView). x.core.plant) w_is ∙ ap (λ (b : BookBase). b.plant) e.base in
    let seen = seen_is p q r v w more e l w_is in
    record {
      before = v.core.history;
      turn = turns p q v e;
      allowed = subst (λ (b : BookBase). IsAllowed b.plant b.limit
          (stand_after b.plant v.core.history) call served.reply) e.base answered.allowed;
      pass = λ i. record { shown = shown i; displays = d };
      made = answered.made ∙ λ i. made_between
          (state_after (e.base i).plant v.core.history).latest
          (state_after (plant i) (seen i)).latest;
      rest = rests p q r v w more e l w_is;
    }

-- a turn with no entry
pub passes : (p q r : Shown Entry BookBase) (d : ℕ) (v w : ValueView) (free : p.holds ≡ false)
    (e : Entered p q v) (l : Left q r w) → w ≡ with_more v []
    → Passes (record { shown = p; displays = d }) (record { shown = r; displays = d })
passes p q r d v w free e l w_is =
    let left = left_is p q r v w [] e l w_is in
    let seen = sym (ap (λ (x : Shown Entry BookBase). x.seen) left) in
    let shown : r ≡ record p { seen = r.seen } = left ∙ λ i. record p {
      seen = seen i;
      mine = append-nil p.mine i;
      holds = sym free i;
    } in
    record {
      turn = subst (Turns p) (sym (append-nil v.core.history) ∙ seen) (turns p q v e);
      pass = λ i. record { shown = shown i; displays = d };
      rest = rests p q r v w [] e l w_is;
    }

-- a call that was answered, and one that wasn't for want of memory
pub served_by : (p q r : Shown Entry BookBase) (d : ℕ) (v w : ValueView) (call : Call)
    (answer : Result Served NoMemory) (free : p.holds ≡ false) (e : Entered p q v) (l : Left q r w)
    → w ≡ with_more v (entries_for p.caller call answer)
    → IfOk answer (IsAnswered v.core w.core call)
    → IfOk answer (Serves (record { shown = p; displays = d }) (record { shown = r; displays = d })
    call)
served_by p q r d v w call (Ok served) free e l w_is answered =
    serves p q r d v w call served free e l w_is answered
served_by p q r d v w call (Err no_memory) free e l w_is answered = tt

pub passed_by : (p q r : Shown Entry BookBase) (d : ℕ) (v w : ValueView) (call : Call)
    (answer : Result Served NoMemory) (free : p.holds ≡ false) (e : Entered p q v) (l : Left q r w)
    → w ≡ with_more v (entries_for p.caller call answer)
    → OnErr answer (Passes (record { shown = p; displays = d })
    (record { shown = r; displays = d }))
passed_by p q r d v w call (Ok served) free e l w_is = tt
passed_by p q r d v w call (Err no_memory) free e l w_is = passes p q r d v w free e l w_is
