-- What the rule says of one seat, and how it goes on as the others step.
use Rattle.std.proofs.Common.{◌≡◌, ℕ, ◌+◌, ◌-◌, ◌<◌, ◌≤◌, ◌≢◌, true, false, List, length, [], ◌∷◌}
use Rattle.std.proofs.Common.{◌++◌, set, refl, ap, sym, subst, ◌∙◌, arith, Option, None}
use Rattle.std.specs.List.{All}
use mathlib.Core.Logic.{dite}
use mathlib.Core.Option.{some, some-injective, some-ne-none}
use native.Mathlib.Decide.{ℕ_discrete}
use lib.ListN.{get_elem?}
use Rattle.atomic_table.proofs.Lists.{set_else}
use Rattle.turn_lock.specs.Lists.{entries_by, total, Apart}
use Rattle.turn_lock.specs.Views.{holds_turn, StandsStill}
use Rattle.turn_lock.specs.Steps.{ShowsSound}
use Rattle.turn_lock.specs.Rule.{is_pass, waits, ticket, number_if, number_of, pass_weight}
use Rattle.turn_lock.specs.Rule.{wait_weight, Now, Knows, KnowsPass, Fits, HasWhole, NoneHolds}
use Rattle.turn_lock.specs.declared.view.Known.{Known}
use Rattle.turn_lock.specs.declared.view.View.{View}
use Rattle.turn_lock.specs.declared.view.Standing.{Standing}
use Rattle.turn_lock.specs.declared.view.Standing.TheVariants.{Free, Waiting, Holding, Copy, Spent}
use Rattle.turn_lock.proofs.Lists.{prefix_self, prefix_trans, prefix_snoc, All-prefix, by_other}
use Rattle.turn_lock.proofs.Lists.{set_there, total_le}

pub waits_le_pass : (st : Standing) → waits st ≤ is_pass st
waits_le_pass Free = omega arith
waits_le_pass (Waiting t) = omega arith
waits_le_pass (Holding t) = omega arith
waits_le_pass Copy = omega arith
waits_le_pass Spent = omega arith

pub number_is : (c : ℕ) (st : Standing) → is_pass st ≡ 1 → number_if c st ≡ some c
number_is c Free p = refl
number_is c (Waiting t) p = refl
number_is c (Holding t) p = refl
number_is c Copy p = absurd (omega arith)
number_is c Spent p = absurd (omega arith)

-- what isn't seen to hold the turn doesn't
pub not_holding : (st : Standing) → ((t : ℕ) → st ≢ Holding t) → holds_turn st ≡ false
not_holding Free never = refl
not_holding (Waiting t) never = refl
not_holding (Holding t) never = absurd (never t refl)
not_holding Copy never = refl
not_holding Spent never = refl

module _ {E B : Type 0} (caller_of : E → ℕ) where
  module _ (now : Now E B) (k : Known E B) where
    -- a ticket that isn't served is below the number that were drawn
    pub ticket_below : (served waiting : ℕ) (st : Standing) (n : ℕ) → waits st ≤ waiting
        → Fits caller_of now k served waiting st → ticket st ≡ some n → n < served + waiting
    ticket_below served waiting Free n le f is = absurd (some-ne-none n (sym is))
    ticket_below served waiting (Waiting t) n le f is = let e : t ≡ n = some-injective t n is in
        let less = f.3 in omega arith
    ticket_below served waiting (Holding t) n le f is = let e : t ≡ n = some-injective t n is in
        let same = f.2 in omega arith
    ticket_below served waiting Copy n le f is = absurd (some-ne-none n (sym is))
    ticket_below served waiting Spent n le f is = absurd (some-ne-none n (sym is))

    -- one more ticket was drawn
    pub later_drawn : (served waiting : ℕ) (st : Standing) → Fits caller_of now k served waiting st
        → Fits caller_of now k served (waiting + 1) st
    later_drawn served waiting Free f = f
    later_drawn served waiting (Waiting t) f = let less = f.3 in (f.0, f.1, f.2, omega arith)
    later_drawn served waiting (Holding t) f = f
    later_drawn served waiting Copy f = f
    later_drawn served waiting Spent f = f

    -- another's turn was served
    pub later_served : (served waiting : ℕ) (st : Standing) → 0 < waiting → ticket st ≢ some served
        → Fits caller_of now k served waiting st
        → Fits caller_of now k (served + 1) (waiting - 1) st
    later_served served waiting Free some_wait other f = f
    later_served served waiting (Waiting t) some_wait other f = let low = f.2 in let less = f.3 in
        let ne : t ≢ served = λ e. other (ap some e) in (f.0, f.1, omega arith, omega arith)
    later_served served waiting (Holding t) some_wait other f = absurd (other (ap some f.2))
    later_served served waiting Copy some_wait other f = f
    later_served served waiting Spent some_wait other f = f

    abbrev grown : E → Now E B
    grown e = record now { log = now.log ++ e ∷ [] }

    knows_grown : (e : E) → Knows caller_of now k → Knows caller_of (grown e) k
    knows_grown e f = record {
      base = f.base;
      seen = prefix_snoc k.seen now.log e f.seen;
      first = f.first;
      second = f.second;
    }

    pass_grown : (e : E) → caller_of e ≢ k.caller → KnowsPass caller_of now k
        → KnowsPass caller_of (grown e) k
    pass_grown e other f = record {
      given = f.given;
      mine = f.mine;
      all = by_other caller_of k.caller now.log e other ∙ f.all;
      fresh = f.fresh;
      next = f.next;
      away = f.away;
      ended = f.ended;
      kept = f.kept;
    }

    -- another made an entry, and no pass holds the turn
    pub later_entry : (served waiting : ℕ) (st : Standing) (e : E) → holds_turn st ≡ false
        → (is_pass st ≡ 1 → caller_of e ≢ k.caller) → Fits caller_of now k served waiting st
        → Fits caller_of (grown e) k served waiting st
    later_entry served waiting Free e out other f =
        (knows_grown e f.0, pass_grown e (other refl) f.1)
    later_entry served waiting (Waiting t) e out other f =
        (knows_grown e f.0, pass_grown e (other refl) f.1, f.2, f.3)
    later_entry served waiting (Holding t) e out other f = absurd cc
    later_entry served waiting Copy e out other f = knows_grown e f
    later_entry served waiting Spent e out other f = tt

    -- a seat that has seen the whole list
    pub knows_all : (xs : List E) → xs ≡ now.log → Knows caller_of now k
        → Knows caller_of now (record k { seen = xs })
    knows_all xs all f =
        subst (λ (l : List E). Knows caller_of now (record k { seen = l })) (sym all) record {
          base = f.base;
          seen = prefix_self now.log;
          first = prefix_trans k.first k.seen now.log f.first f.seen;
          second = prefix_trans k.second k.seen now.log f.second f.seen;
        }

    pub pass_all : (xs : List E) → xs ≡ now.log
        → All (λ f. entries_by caller_of f.caller now.log ≡ f.mine) now.ended
        → KnowsPass caller_of now k → KnowsPass caller_of now (record k { seen = xs })
    pass_all xs all kept f =
        subst (λ (l : List E). KnowsPass caller_of now (record k { seen = l })) (sym all) record {
          given = f.given;
          mine = f.all;
          all = f.all;
          fresh = f.fresh;
          next = f.next;
          away = f.away;
          ended = f.ended;
          kept = λ _. kept;
        }

    -- what a pass shows is sound
    pub shows_sound : (st : Standing) → now.away + length now.ended + 1 ≡ now.next
        → All (λ e. caller_of e < now.next) now.log → Knows caller_of now k
        → KnowsPass caller_of now k
        → ShowsSound caller_of record { standing = st; known = k }
    shows_sound st counted given f p lock = record {
      mine = p.mine;
      counted = λ root. let away = p.away root in let next = p.next root in
          let ended = ap length (p.ended root) in omega arith;
      given = λ root.
          subst (λ (n : ℕ). All (λ e. caller_of e < n) k.seen) (sym (p.next root))
          (All-prefix (λ e. caller_of e < now.next) k.seen now.log f.seen given);
      ended = λ root.
          subst (All (λ f. entries_by caller_of f.caller k.seen ≡ f.mine)) (sym (p.ended root))
          (p.kept root);
    }

module _ {E B : Type 0} where
  -- another pass has another number
  pub other_caller : (vs : List (View E B)) (i j : ℕ) (v d : View E B) → Apart number_of vs
      → get_elem? vs i ≡ some v → get_elem? vs j ≡ some d → j ≢ i → is_pass v.standing ≡ 1
      → is_pass d.standing ≡ 1
      → d.known.caller ≢ v.known.caller
  other_caller vs i j v d apart at there other pass other_pass same =
      other (apart j i d v v.known.caller there at
      (number_is d.known.caller d.standing other_pass ∙ ap some same)
      (number_is v.known.caller v.standing pass))

  -- no pass held the turn before, where none holds it now and the one that changed didn't
  pub none_before : (vs : List (View E B)) (i : ℕ) (v w : View E B) → get_elem? vs i ≡ some v
      → holds_turn v.standing ≡ false → NoneHolds (set vs i w) → NoneHolds vs
  none_before vs i v w at out none j d there = dite (ℕ_discrete j i)
      (λ same. let e : some v ≡ some d = sym at ∙ (ap (get_elem? vs) (sym same) ∙ there) in
      ap (λ (u : View E B). holds_turn u.standing) (sym (some-injective v d e)) ∙ out)
      (λ other. none j d (set_else vs i j w other ∙ there))

  -- the pass that has seen the whole list still has, where a pass changes and has seen no less
  pub whole_set : (log : List E) (vs : List (View E B)) (i : ℕ) (v w : View E B)
      → get_elem? vs i ≡ some v → (is_pass v.standing ≡ 1 → is_pass w.standing ≡ 1)
      → (v.known.seen ≡ log → w.known.seen ≡ log)
      → HasWhole log vs → HasWhole log (set vs i w)
  whole_set log vs i v w at pass seen h = dite (ℕ_discrete h.seat i)
      (λ same. let e : h.view ≡ v =
      some-injective h.view v (sym h.there ∙ (ap (get_elem? vs) same ∙ at)) in record {
        seat = i;
        view = w;
        there = set_there vs i v w at;
        pass = pass (ap (λ (u : View E B). is_pass u.standing) (sym e) ∙ h.pass);
        whole = seen (ap (λ (u : View E B). u.known.seen) (sym e) ∙ h.whole);
      })
      (λ other. record {
        seat = h.seat;
        view = h.view;
        there = set_else vs i h.seat w other ∙ h.there;
        pass = h.pass;
        whole = h.whole;
      })

  -- a pass that has seen the whole list
  pub whole_here : (log : List E) (vs : List (View E B)) (i : ℕ) (v w : View E B)
      → get_elem? vs i ≡ some v → is_pass w.standing ≡ 1 → w.known.seen ≡ log
      → HasWhole log (set vs i w)
  whole_here log vs i v w at pass seen =
      record { seat = i; view = w; there = set_there vs i v w at; pass = pass; whole = seen }

  -- as many wait as there are passes, or fewer
  pub waits_few : (vs : List (View E B)) → total wait_weight vs ≤ total pass_weight vs
  waits_few vs = total_le wait_weight pass_weight (λ v. waits_le_pass v.standing) vs

-- a pass that doesn't hold the turn between calls has no ticket and no slot
pub at_rest_free : {K : Type 0} (st : Standing) (held : List (ℕ × Option K)) → StandsStill st held
    → holds_turn st ≡ false → (st ≡ Free) × (held ≡ [])
at_rest_free Free held still out = (refl, still)
at_rest_free (Waiting t) held still out = absurd still
at_rest_free (Holding t) held still out = absurd cc
at_rest_free Copy held still out = absurd still
at_rest_free Spent held still out = absurd still

-- one that holds it has the slot, which the value has left
pub at_rest_holding : {K : Type 0} (st : Standing) (held : List (ℕ × Option K))
    → StandsStill st held → holds_turn st ≡ true
    → (t : ℕ) × (st ≡ Holding t) × (held ≡ (0, None) ∷ [])
at_rest_holding Free held still in_turn = absurd cc
at_rest_holding (Waiting t) held still in_turn = absurd still
at_rest_holding (Holding t) held still in_turn = (t, refl, still)
at_rest_holding Copy held still in_turn = absurd still
at_rest_holding Spent held still in_turn = absurd still
