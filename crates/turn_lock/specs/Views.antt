-- What a seat knows, and what a pass shows of it.
use Rattle.std.specs.Prelude.{◌≡◌, ℕ, List, [], ◌∷◌, Bool, true, false, Option, None}
use Rattle.atomic_table.specs.Seated.{TableId}
use Rattle.atomic_table.specs.Table.{Me}
use Rattle.turn_lock.specs.Passes.{Shown, IsSound}
use Rattle.turn_lock.specs.declared.view.Known.{Known}
use Rattle.turn_lock.specs.declared.view.View.{View}
use Rattle.turn_lock.specs.declared.view.Standing.{Standing}
use Rattle.turn_lock.specs.declared.view.Standing.TheVariants.{Free, Holding}

abbrev pub holds_turn : Standing → Bool
holds_turn (Holding t) = true
holds_turn _ = false

abbrev pub shown : {E B : Type 0} → TableId → View E B → Shown E B
shown lock v =
    let k = v.known in record {
      lock = lock;
      caller = k.caller;
      base = k.base;
      seen = k.seen;
      mine = k.mine;
      holds = holds_turn v.standing;
      next = k.next;
      away = k.away;
      ended = k.ended;
    }

-- what a seat knows that has seen this, with a number and no entries of its own
abbrev pub newly : {E B : Type 0} → ℕ → B → List E → ℕ → Known E B
newly caller base seen next = record {
  caller = caller;
  base = base;
  seen = seen;
  mine = [];
  first = [];
  second = [];
  next = next;
  away = 0;
  ended = [];
}

-- the root has seen nothing, and gave no number yet
abbrev pub root_view : {E B : Type 0} → B → View E B
root_view base = record { standing = Free; known = newly 0 base [] 1 }

-- between calls a pass has no ticket, or it holds the turn and the slot, which its value has left
abbrev pub StandsStill : {K : Type 0} → Standing → List (ℕ × Option K) → Type 0
StandsStill Free held = held ≡ []
StandsStill (Holding t) held = held ≡ (0, None) ∷ []
StandsStill _ held = ⊥

module _ {K E B : Type 0} where
  -- what a pass keeps between calls
  pub record IsAtRest (caller_of : E → ℕ) (caller next : ℕ) (lock : TableId)
      (me : Me (Option K) (View E B)) : Type 0 where
    pub same_caller : me.0.known.caller ≡ caller
    pub same_next : me.0.known.next ≡ next
    pub still : StandsStill me.0.standing me.1
    pub sound : IsSound caller_of (shown lock me.0)
