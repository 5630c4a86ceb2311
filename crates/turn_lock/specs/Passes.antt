-- What contracts see of a pass.
use Rattle.std.specs.Prelude.{◌≡◌, ℕ, ◌+◌, ◌<◌, ◌++◌, ◌∷◌, [], List, length, Bool, false, All}
use Rattle.atomic_table.specs.Seated.{TableId}
use Rattle.turn_lock.specs.Lists.{entries_by}
use Rattle.turn_lock.specs.declared.view.Ended.{Ended}

-- which lock it is for, the caller's number, the base, the front of the list that was seen, the
-- pass's own entries in it, and whether it holds the turn. Of the root: the number of the next
-- pass, how many passes are away, and those that were joined
pub record Shown (E B : Type 0) : Type 0 where
  pub lock : TableId
  pub caller : ℕ
  pub base : B
  pub seen : List E
  pub mine : List E
  pub holds : Bool
  pub next : ℕ
  pub away : ℕ
  pub ended : List (Ended E)

module _ {E : Type 0} (caller_of : E → ℕ) where
  -- a pass's own entries are those of its number. Of the root: each number that was given is its
  -- own, of a pass that is away or of one that was joined, each entry is of such a number, and
  -- those of a pass that was joined are the ones that were kept of it
  pub record IsSound {B : Type 0} (p : Shown E B) : Type 0 where
    pub mine : entries_by caller_of p.caller p.seen ≡ p.mine
    pub counted : p.caller ≡ 0 → p.away + length p.ended + 1 ≡ p.next
    pub given : p.caller ≡ 0 → All (λ e. caller_of e < p.next) p.seen
    pub ended : p.caller ≡ 0 → All (λ f. entries_by caller_of f.caller p.seen ≡ f.mine) p.ended

  -- the list grew by one entry of the caller
  pub record AddsOne (caller : ℕ) (before after : List E) : Type 0 where
    pub entry : E
    pub list : after ≡ before ++ entry ∷ []
    pub own : caller_of entry ≡ caller

-- the root of a lock that has just started
abbrev pub root_of : {E B : Type 0} → TableId → B → Shown E B
root_of lock base = record {
  lock = lock;
  caller = 0;
  base = base;
  seen = [];
  mine = [];
  holds = false;
  next = 1;
  away = 0;
  ended = [];
}

module _ {E B : Type 0} where
  -- the pass that the root gives its next number: it has seen what the root has
  abbrev pub next_pass : Shown E B → Shown E B
  next_pass root = record {
    lock = root.lock;
    caller = root.next;
    base = root.base;
    seen = root.seen;
    mine = [];
    holds = false;
    next = 0;
    away = 0;
    ended = [];
  }

  -- what the root keeps of a pass that is joined
  abbrev pub ended_of : Shown E B → Ended E
  ended_of p = record { caller = p.caller; mine = p.mine }
