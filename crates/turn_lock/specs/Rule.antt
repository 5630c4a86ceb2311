-- The rule of the lock's table: what holds between any two steps. Word 0 counts the tickets that
-- were drawn and word 1 the turns that were served, both modulo 2^64. The one slot has the value
-- but while a pass holds the turn.
use Rattle.std.specs.Prelude.{◌≡◌, ◌≢◌, ℕ, ◌+◌, ◌^◌, ◌%◌, ◌<◌, ◌≤◌, List, length, [], ◌∷◌, false}
use Rattle.std.specs.Prelude.{All, Option, Some}
use mathlib.Core.Option.{none, some}
use mathlib.Core.Option as maybe
use mathlib.Core.List.{IsPrefix}
use lib.ListN.{get_elem?}
use Rattle.atomic_table.specs.Table.{State}
use Rattle.turn_lock.specs.Lists.{entries_by, total, Apart}
use Rattle.turn_lock.specs.Views.{holds_turn}
use Rattle.turn_lock.specs.declared.view.Known.{Known}
use Rattle.turn_lock.specs.declared.view.View.{View}
use Rattle.turn_lock.specs.declared.view.Ended.{Ended}
use Rattle.turn_lock.specs.declared.view.Standing.{Standing}
use Rattle.turn_lock.specs.declared.view.Standing.TheVariants.{Free, Waiting, Holding, Copy, Spent}

-- 1 for a pass that is not joined
abbrev pub is_pass : Standing → ℕ
is_pass Copy = 0
is_pass Spent = 0
is_pass _ = 1

-- 1 for a pass whose ticket isn't served
abbrev pub waits : Standing → ℕ
waits (Waiting t) = 1
waits (Holding t) = 1
waits _ = 0

abbrev pub ticket : Standing → maybe.Option ℕ
ticket (Waiting t) = some t
ticket (Holding t) = some t
ticket _ = none

abbrev pub number_if : ℕ → Standing → maybe.Option ℕ
number_if caller Copy = none
number_if caller Spent = none
number_if caller _ = some caller

module _ {E B : Type 0} where
  abbrev pub number_of : View E B → maybe.Option ℕ
  number_of v = number_if v.known.caller v.standing

  abbrev pub ticket_of : View E B → maybe.Option ℕ
  ticket_of v = ticket v.standing

  abbrev pub pass_weight : View E B → ℕ
  pass_weight v = is_pass v.standing

  abbrev pub wait_weight : View E B → ℕ
  wait_weight v = waits v.standing

-- the one list and the one base, and what the root knows: the next number, how many passes are
-- away, and those that were joined
pub record Now (E B : Type 0) : Type 0 where
  pub log : List E
  pub base : B
  pub next : ℕ
  pub away : ℕ
  pub ended : List (Ended E)

module _ {E B : Type 0} (caller_of : E → ℕ) (now : Now E B) (k : Known E B) where
  -- of each seat: it has the one base, it has seen a front of the list, and what it saw begins with
  -- the two lists of which it took the longer
  pub record Knows : Type 0 where
    pub base : k.base ≡ now.base
    pub seen : IsPrefix k.seen now.log
    pub first : IsPrefix k.first k.seen
    pub second : IsPrefix k.second k.seen

  -- of each pass: its number was given and no ended pass had it, and its own entries are those of
  -- its number, in what it saw and in the whole list. The root knows what it keeps
  pub record KnowsPass : Type 0 where
    pub given : k.caller < now.next
    pub mine : entries_by caller_of k.caller k.seen ≡ k.mine
    pub all : entries_by caller_of k.caller now.log ≡ k.mine
    pub fresh : All (λ f. f.caller ≢ k.caller) now.ended
    pub next : k.caller ≡ 0 → k.next ≡ now.next
    pub away : k.caller ≡ 0 → k.away ≡ now.away
    pub ended : k.caller ≡ 0 → k.ended ≡ now.ended
    pub kept : k.caller ≡ 0 → All (λ f. entries_by caller_of f.caller k.seen ≡ f.mine) now.ended

  -- a ticket that isn't served is one of those from the next turn on, and it is the next turn for
  -- the pass that holds the turn, which has seen the whole list
  abbrev pub Fits : ℕ → ℕ → Standing → Type 0
  Fits served waiting Free = Knows × KnowsPass
  Fits served waiting (Waiting t) = Knows × KnowsPass × (served ≤ t) × (t < served + waiting)
  Fits served waiting (Holding t) = Knows × KnowsPass × (t ≡ served) × (k.seen ≡ now.log)
  Fits served waiting Copy = Knows
  Fits served waiting Spent = Unit {0}

-- some pass has seen the whole list
pub record HasWhole {E B : Type 0} (log : List E) (views : List (View E B)) : Type 0 where
  pub seat : ℕ
  pub view : View E B
  pub there : get_elem? views seat ≡ some view
  pub pass : is_pass view.standing ≡ 1
  pub whole : view.known.seen ≡ log

-- no pass holds the turn
abbrev pub NoneHolds : {E B : Type 0} → List (View E B) → Type 0
NoneHolds {E} {B} views =
    (seat : ℕ) (v : View E B) → get_elem? views seat ≡ some v → holds_turn v.standing ≡ false

module _ {K E B : Type 0} (entries : K → List E) (base_of : K → B) (caller_of : E → ℕ) where
  -- the value is in the slot, with the one list and the one base
  pub record IsHome (now : Now E B) (homes : List (maybe.Option (Option K))) : Type 0 where
    pub value : K
    pub slot : homes ≡ some (Some value) ∷ []
    pub list : entries value ≡ now.log
    pub base : base_of value ≡ now.base

  -- there is one list, of which each seat has seen a front and some pass the whole, and a value
  -- with just that list, in the slot while no pass holds the turn. Passes have numbers of their
  -- own, and so have the tickets that aren't served
  pub record IsKept (s : State (Option K) (View E B)) : Type 0 where
    pub now : Now E B
    pub served : ℕ
    pub waiting : ℕ
    pub words : s.words ≡ ((served + waiting) % 2 ^ 64) ∷ (served % 2 ^ 64) ∷ []
    pub home : NoneHolds s.views → IsHome now s.homes
    pub each : (seat : ℕ) (v : View E B) → get_elem? s.views seat ≡ some v
        → Fits caller_of now v.known served waiting v.standing
    pub numbers : Apart number_of s.views
    pub tickets : Apart ticket_of s.views
    pub whole : HasWhole now.log s.views
    pub passes : total pass_weight s.views ≡ now.away + 1
    pub waits : total wait_weight s.views ≡ waiting
    pub counted : now.away + length now.ended + 1 ≡ now.next
    pub many : now.next ≤ 2 ^ 32
    pub given : All (λ e. caller_of e < now.next) now.log
    pub old : All (λ f. f.caller < now.next) now.ended
    pub kept : All (λ f. entries_by caller_of f.caller now.log ≡ f.mine) now.ended
