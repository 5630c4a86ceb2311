-- What each kind of step does to the view of the seat that makes it, and what it tells.
use Rattle.std.specs.Prelude.{◌≡◌, ◌≢◌, ℕ, ◌+◌, ◌-◌, ◌^◌, ◌%◌, List, [], ◌∷◌, ◌++◌, Option, Some}
use mathlib.Core.List.{IsPrefix}
use Rattle.atomic_table.specs.Seated.{TableId}
use Rattle.atomic_table.specs.Table.{Me, Step}
use Rattle.turn_lock.specs.Lists.{entries_by, longer}
use Rattle.turn_lock.specs.Passes.{IsSound}
use Rattle.turn_lock.specs.Views.{shown, newly}
use Rattle.turn_lock.specs.declared.view.Known.{Known}
use Rattle.turn_lock.specs.declared.view.View.{View}
use Rattle.turn_lock.specs.declared.view.Standing.{Standing}
use Rattle.turn_lock.specs.declared.view.Standing.TheVariants.{Free, Waiting, Holding, Copy, Spent}

-- a pass waits with this ticket, as far as a word can count
abbrev pub IsWaiting : ℕ → Standing → Type 0
IsWaiting found standing = (t : ℕ) × (standing ≡ Waiting t) × (found ≡ t % 2 ^ 64)

module _ {E B : Type 0} where
  -- a pass that has drawn a ticket
  abbrev pub drawn : View E B → ℕ → View E B
  drawn v t = record { standing = Waiting t; known = v.known }

  -- a pass whose turn it is, which has seen the whole list
  abbrev pub turned : View E B → ℕ → List E → View E B
  turned v t log = record { standing = Holding t; known = record v.known { seen = log } }

  -- a pass whose turn was served without an entry
  abbrev pub served : View E B → View E B
  served v = record { standing = Free; known = v.known }

  -- a pass whose turn was served with an entry
  abbrev pub served_with : (E → ℕ) → View E B → List E → View E B
  served_with caller_of v log = record {
    standing = Free;
    known = record v.known { seen = log; mine = entries_by caller_of v.known.caller log };
  }

  -- the root that has given a number, and the pass that has it
  abbrev pub split_root : View E B → View E B
  split_root v =
      record v { known = record v.known { next = v.known.next + 1; away = v.known.away + 1 } }

  abbrev pub new_pass : View E B → View E B
  new_pass v = record { standing = Free; known = newly v.known.next v.known.base v.known.seen 0 }

  -- a copy of what a pass has seen
  abbrev pub copied : View E B → View E B
  copied v = record { standing = Copy; known = newly 0 v.known.base v.known.seen 0 }

  abbrev pub spent : B → View E B
  spent base = record { standing = Spent; known = newly 0 base [] 0 }

  -- the longer of two lists was taken, and both are kept
  abbrev pub taken : Known E B → Known E B → Known E B
  taken k l = record k { seen = longer k.seen l.seen; first = k.seen; second = l.seen }

  -- a pass that has met another
  abbrev pub met : View E B → View E B → View E B
  met v w = record v { known = taken v.known w.known }

  -- the root that has taken a pass back
  abbrev pub joined : View E B → View E B → View E B
  joined v w = record v {
    known = record (taken v.known w.known) {
      away = v.known.away - 1;
      ended = v.known.ended ++ record { caller = w.known.caller; mine = w.known.mine } ∷ [];
    };
  }

  -- what the view shows is sound, whichever lock it is for
  abbrev pub ShowsSound : (E → ℕ) → View E B → Type 0
  ShowsSound caller_of v = (lock : TableId) → IsSound caller_of (shown lock v)

module _ {K E B : Type 0} (entries : K → List E) (base_of : K → B) (caller_of : E → ℕ) where
  abbrev pub Seated : Type 0
  Seated = Me (Option K) (View E B)

  -- a pass has the number that was found as its ticket
  abbrev pub Draws : Step (Option K) → Seated → ℕ → Seated → Type 0
  Draws st m found m' = (t : ℕ) × (found ≡ t % 2 ^ 64) × (m' ≡ (drawn m.0 t, m.1))

  -- the pass has the turn and the slot, and has seen the value's whole list, which begins with what
  -- it had seen. Where it is the root and no pass is away it had seen all
  pub record HasTurn (m : Seated) (t : ℕ) (m' : Seated) : Type 0 where
    pub value : K
    pub slot : m'.1 ≡ (0, Some value) ∷ []
    pub view : m'.0 ≡ turned m.0 t (entries value)
    pub base : base_of value ≡ m.0.known.base
    pub seen : IsPrefix m.0.known.seen (entries value)
    pub alone : m.0.known.caller ≡ 0 → m.0.known.away ≡ 0 → entries value ≡ m.0.known.seen
    pub sound : ShowsSound caller_of m'.0

  -- where the turn that was found is that of the pass's ticket, it has the turn; else nothing
  -- changes
  abbrev pub Looks : Step (Option K) → Seated → ℕ → Seated → Type 0
  Looks st m found m' =
      (t : ℕ) → m.0.standing ≡ Waiting t
      → (found ≡ t % 2 ^ 64 → HasTurn m t m') × (found ≢ t % 2 ^ 64 → m' ≡ m)

  -- nothing changes, and both lists of which the pass took the longer are fronts of what it has
  -- seen
  pub record Compares (st : Step (Option K)) (m : Seated) (found : ℕ) (m' : Seated) : Type 0 where
    pub same : m' ≡ m
    pub first : IsPrefix m.0.known.first m.0.known.seen
    pub second : IsPrefix m.0.known.second m.0.known.seen
    pub sound : ShowsSound caller_of m.0

  -- the value's list is the one list now, and the pass has seen it
  pub record ServesEntry (st : Step (Option K)) (m : Seated) (found : ℕ) (m' : Seated) : Type 0
    where
      pub seat : (value : K) → m.1 ≡ (0, Some value) ∷ []
          → m' ≡ (served_with caller_of m.0 (entries value), [])
      pub sound : ShowsSound caller_of m'.0

  -- the turn is served, and the list stays
  abbrev pub Serves : Step (Option K) → Seated → ℕ → Seated → Type 0
  Serves st m found m' = m' ≡ (served m.0, [])
