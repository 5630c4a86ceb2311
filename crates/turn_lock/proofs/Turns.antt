-- The steps of one seat keep the rule: a draw, a look and the two ways to serve.
use Rattle.std.proofs.Common.{◌≡◌, ℕ, ◌+◌, ◌-◌, ◌<◌, ◌≤◌, ◌≢◌, ◌^◌, ◌%◌, true, false, List, [], ◌∷◌}
use Rattle.std.proofs.Common.{◌++◌, set, get_or, refl, ap, sym, subst, ◌∙◌, inl, inr, arith, Option}
use Rattle.std.proofs.Common.{Some, None}
use Rattle.std.specs.List.{All}
use Rattle.std.proofs.Math.Nat.{mod-add-mod}
use Rattle.std.proofs.lemmas.List.Elements.{All-append}
use mathlib.Core.List.{IsPrefix}
use mathlib.Core.Logic.{dite}
use mathlib.Core.Option.{none, some, some-injective, some-ne-none}
use native.Mathlib.Decide.{ℕ_discrete}
use lib.ListN.{get_elem?}
use lib.Seq.{set-get_or}
use Rattle.atomic_table.specs.Table.{State, Me, step, keeps, takes, gives, stepped, opening, Allows}
use Rattle.atomic_table.proofs.Lists.{set_again, one_turn}
use Rattle.turn_lock.specs.Lists.{entries_by, total}
use Rattle.turn_lock.specs.Views.{holds_turn, root_view}
use Rattle.turn_lock.specs.Passes.{AddsOne}
use Rattle.turn_lock.specs.Steps.{IsWaiting, drawn, turned, served, served_with, Draws, HasTurn}
use Rattle.turn_lock.specs.Steps.{Looks, Compares, ServesEntry, Serves}
use Rattle.turn_lock.specs.Rule.{is_pass, ticket, number_if, number_of, ticket_of, pass_weight}
use Rattle.turn_lock.specs.Rule.{wait_weight, waits, Now, Knows, KnowsPass, Fits, NoneHolds, IsKept}
use Rattle.turn_lock.specs.declared.view.Ended.{Ended}
use Rattle.turn_lock.specs.declared.view.View.{View}
use Rattle.turn_lock.specs.declared.view.Standing.TheVariants.{Free, Waiting, Holding}
use Rattle.turn_lock.proofs.Lists.{prefix_self, prefix_trans, All-one, All-both, by_other}
use Rattle.turn_lock.proofs.Lists.{total_set, total_one, total_two, apart_set, each_set, set_there}
use Rattle.turn_lock.proofs.Lists.{only_slot, All-none, only_place, only_view}
use Rattle.turn_lock.proofs.Seats.{not_holding, ticket_below, later_drawn, later_served}
use Rattle.turn_lock.proofs.Seats.{later_entry, knows_all, pass_all, shows_sound, other_caller}
use Rattle.turn_lock.proofs.Seats.{none_before, whole_set, whole_here, waits_few}

-- the value in the first slot that is held
held_or : {K : Type 0} → K → List (ℕ × Option K) → K
held_or y [] = y
held_or y ((n, Some x) ∷ rest) = x
held_or y ((n, None) ∷ rest) = y

same_held : {K : Type 0} (x y : K) (held : List (ℕ × Option K)) → held ≡ (0, Some x) ∷ []
    → held ≡ (0, Some y) ∷ [] → x ≡ y
unfolding held_or
same_held x y held p q = sym (ap (held_or x) p) ∙ ap (held_or x) q

module _ {K E B : Type 0} (entries : K → List E) (base_of : K → B) (caller_of : E → ℕ) where
  abbrev V : Type 0
  V = View E B

  abbrev St : Type 0
  St = State (Option K) V

  abbrev Held : Type 0
  Held = List (ℕ × Option K)

  abbrev M : Type 0
  M = Me (Option K) V

  abbrev Rule : St → Type 0
  Rule = IsKept entries base_of caller_of

  pub draws : (slots id : ℕ) (v : V) (c : Held) → v.standing ≡ Free
      → Allows Rule slots id (v, c) 0 (λ n. (n + 1) % 2 ^ 64)
      (Draws entries base_of caller_of (step slots 0 1 0 none) (v, c))
  draws slots id v c is_free s r _ at _ =
      let t : ℕ = r.served + r.waiting in
      let w : V = drawn v t in
      let mine = subst (Fits caller_of r.now v.known r.served r.waiting) is_free (r.each id v at) in
      let found : get_or s.words 0 0 ≡ t % 2 ^ 64 = ap (λ (ws : List ℕ). get_or ws 0 0) r.words in
      let pass_before : is_pass v.standing ≡ 1 = ap is_pass is_free in
      let wait_before : waits v.standing ≡ 0 = ap waits is_free in
      let passes = total_set pass_weight s.views id v w at in
      let waiting = total_set wait_weight s.views id v w at in
      let all_passes = r.passes in let all_wait = r.waits in (
        w,
        keeps,
        tt,
        record {
          now = r.now;
          served = r.served;
          waiting = r.waiting + 1;
          words = ap (λ (ws : List ℕ). set ws 0 ((get_or ws 0 0 + 1) % 2 ^ 64)) r.words
              ∙ ap (λ (n : ℕ). n ∷ (r.served % 2 ^ 64) ∷ [])
              (mod-add-mod t (2 ^ 64) 1 ∙ ap (λ (n : ℕ). n % 2 ^ 64) (omega arith));
          home = λ out. r.home (none_before s.views id v w at (ap holds_turn is_free) out);
          each = each_set
              (λ (d : V). Fits caller_of r.now d.known r.served (r.waiting + 1) d.standing) s.views
              id w (mine.0, mine.1, omega arith, omega arith)
              (λ j d _ there.
              later_drawn caller_of r.now d.known r.served r.waiting d.standing (r.each j d there));
          numbers = apart_set number_of s.views id v w at r.numbers
              (λ n is. inl (ap (number_if v.known.caller) is_free ∙ is));
          tickets = apart_set ticket_of s.views id v w at r.tickets (λ n is. inr (λ j u _ there has.
              let fits = r.each j u there in
              let one : waits u.standing ≤ total wait_weight s.views =
              total_one wait_weight s.views j u there in
              let below : n < r.served + r.waiting =
              ticket_below caller_of r.now u.known r.served r.waiting u.standing n (omega arith)
              fits has in
              let same : t ≡ n = some-injective t n is in omega arith));
          whole = whole_set r.now.log s.views id v w at (λ _. refl) (λ e. e) r.whole;
          passes = omega arith;
          waits = omega arith;
          counted = r.counted;
          many = r.many;
          given = r.given;
          old = r.old;
          kept = r.kept;
        },
        (t, found, refl),
      )

  -- a step that changes nothing
  pub unmoved : (s : St) (i id : ℕ) (v : V) (c : Held) → get_elem? s.views id ≡ some v → Rule s
      → Rule (stepped s i (get_or s.words i 0) id c v keeps)
  unmoved s i id v c at r =
      subst (λ (z : List ℕ × List V). Rule record { words = z.0; homes = s.homes; views = z.1 })
      (λ k. (sym (set-get_or s.words i 0) k, sym (set_again s.views id v at) k)) r

  -- no pass holds the turn, where the next turn is that of a ticket that waits
  none_at_turn : (s : St) (r : Rule s) (id : ℕ) (v : V) (t : ℕ) → get_elem? s.views id ≡ some v
      → v.standing ≡ Waiting t → t ≡ r.served → NoneHolds s.views
  none_at_turn s r id v t at is now j d there = not_holding d.standing (λ u holds.
      let fits = subst (Fits caller_of r.now d.known r.served r.waiting) holds (r.each j d there) in
      let same_ticket : u ≡ t = fits.2 ∙ sym now in
      let same_seat : j ≡ id =
      r.tickets j id d v t there at (ap ticket holds ∙ ap some same_ticket) (ap ticket is) in
      let same : some d ≡ some v = sym there ∙ (ap (get_elem? s.views) same_seat ∙ at) in
      let clash : Holding u ≡ Waiting t =
      sym holds ∙ (ap (λ (x : V). x.standing) (some-injective d v same) ∙ is) in
      absurd cc)

  -- the root that has no pass away is the pass that has seen the whole list
  pub alone_whole : (s : St) (r : Rule s) (id : ℕ) (v : V) → get_elem? s.views id ≡ some v
      → is_pass v.standing ≡ 1 → r.now.away ≡ 0 → v.known.seen ≡ r.now.log
  alone_whole s r id v at pass alone = let h = r.whole in dite (ℕ_discrete h.seat id)
      (λ same. let e : h.view ≡ v =
      some-injective h.view v (sym h.there ∙ (ap (get_elem? s.views) same ∙ at)) in
      ap (λ (u : V). u.known.seen) (sym e) ∙ h.whole)
      (λ other. let two = total_two pass_weight s.views h.seat id h.view v h.there at other in
      let all = r.passes in let p = h.pass in absurd (omega arith))

  -- the value has left the slot, and the pass has seen its whole list
  takes_turn : (s : St) (r : Rule s) (id : ℕ) (v : V) (t : ℕ) → get_elem? s.views id ≡ some v
      → v.standing ≡ Waiting t → t ≡ r.served → (x : K) → entries x ≡ r.now.log
      → Rule record {
        words = s.words;
        homes = set s.homes 0 none;
        views = set s.views id (turned v t (entries x));
      }
  takes_turn s r id v t at is turn x all =
      let w : V = turned v t (entries x) in
      let mine = subst (Fits caller_of r.now v.known r.served r.waiting) is (r.each id v at) in
      let pass_before : is_pass v.standing ≡ 1 = ap is_pass is in
      let wait_before : waits v.standing ≡ 1 = ap waits is in
      let passes = total_set pass_weight s.views id v w at in
      let waiting = total_set wait_weight s.views id v w at in
      let all_passes = r.passes in let all_wait = r.waits in
      record {
        now = r.now;
        served = r.served;
        waiting = r.waiting;
        words = r.words;
        home = λ out.
            absurd (let clash : true ≡ false = out id w (set_there s.views id v w at) in cc);
        each = each_set (λ (d : V). Fits caller_of r.now d.known r.served r.waiting d.standing)
            s.views id w (
              knows_all caller_of r.now v.known (entries x) all mine.0,
              pass_all caller_of r.now v.known (entries x) all r.kept mine.1,
              turn,
              all,
            )
            (λ j d _ there. r.each j d there);
        numbers = apart_set number_of s.views id v w at r.numbers
            (λ n e. inl (ap (number_if v.known.caller) is ∙ e));
        tickets = apart_set ticket_of s.views id v w at r.tickets (λ n e. inl (ap ticket is ∙ e));
        whole = whole_here r.now.log s.views id v w at refl all;
        passes = omega arith;
        waits = omega arith;
        counted = r.counted;
        many = r.many;
        given = r.given;
        old = r.old;
        kept = r.kept;
      }

  -- the turn that was found is that of a ticket that waits, which is the next one
  at_turn : (s : St) (r : Rule s) (id : ℕ) (v : V) (t : ℕ) → get_elem? s.views id ≡ some v
      → v.standing ≡ Waiting t → get_or s.words 1 0 ≡ t % 2 ^ 64 → t ≡ r.served
  at_turn s r id v t at is found =
      let mine = subst (Fits caller_of r.now v.known r.served r.waiting) is (r.each id v at) in
      let few = waits_few s.views in let passes = r.passes in let waiting = r.waits in
      let away = r.counted in let many = r.many in
      let low = mine.2 in let high = mine.3 in
      let word : get_or s.words 1 0 ≡ r.served % 2 ^ 64 =
      ap (λ (ws : List ℕ). get_or ws 1 0) r.words in
      sym (one_turn r.served t (2 ^ 64) low (omega arith) (sym word ∙ found))

  pub looks : (slots id : ℕ) (v : V) (t : ℕ) → v.standing ≡ Waiting t
      → Allows Rule slots id (v, []) 1 (λ n. n)
      (Looks entries base_of caller_of (step slots 1 0 0 none) (v, []))
  looks slots id v t is s r _ at _ = dite (ℕ_discrete (get_or s.words 1 0) (t % 2 ^ 64))
      (λ hit.
      let turn : t ≡ r.served = at_turn s r id v t at is hit in
      let h = r.home (none_at_turn s r id v t at is turn) in
      let x : K = h.value in
      let w : V = turned v t (entries x) in
      let mine = subst (Fits caller_of r.now v.known r.served r.waiting) is (r.each id v at) in
      let knows = knows_all caller_of r.now v.known (entries x) h.list mine.0 in
      let pass = pass_all caller_of r.now v.known (entries x) h.list r.kept mine.1 in
      let before : M = (v, []) in
      let after : M = (w, (0, Some x) ∷ []) in
      let told : HasTurn entries base_of caller_of before t after = record {
        value = x;
        slot = refl;
        view = refl;
        base = h.base ∙ sym mine.0.base;
        seen = subst (IsPrefix v.known.seen) (sym h.list) mine.0.seen;
        alone = λ root none_away. h.list
            ∙ sym (alone_whole s r id v at (ap is_pass is) (sym (mine.1.away root) ∙ none_away));
        sound = shows_sound caller_of r.now (record v.known { seen = entries x }) (Holding t)
            r.counted r.given knows pass;
      } in (
        w,
        takes 0 (Some x),
        ap (λ hs. get_elem? hs 0) h.slot,
        subst (λ (ws : List ℕ).
            Rule record { words = ws; homes = set s.homes 0 none; views = set s.views id w })
            (sym (set-get_or s.words 1 0)) (takes_turn s r id v t at is turn x h.list),
        (λ u other. let same : t ≡ u = cc (is, other) in
            subst (λ (n : ℕ).
            (get_or s.words 1 0 ≡ n % 2 ^ 64 → HasTurn entries base_of caller_of before n after)
            × (get_or s.words 1 0 ≢ n % 2 ^ 64 → after ≡ before)) same
            ((λ _. told), (λ miss. absurd (miss hit)))),
      ))
      (λ miss. (
        v,
        keeps,
        tt,
        unmoved s 1 id v [] at r,
        (λ u other. let same : t ≡ u = cc (is, other) in
            ((λ hit. absurd (miss (hit ∙ ap (λ (n : ℕ). n % 2 ^ 64) (sym same)))), (λ _. refl))),
      ))

  -- a pass that has no ticket learns that what it saw begins with both lists of which it took the
  -- longer
  pub compares : (slots id : ℕ) (v : V) (c : Held) → v.standing ≡ Free
      → Allows Rule slots id (v, c) 1 (λ n. n)
      (Compares entries base_of caller_of (step slots 1 0 0 none) (v, c))
  compares slots id v c is s r _ at _ =
      let mine = subst (Fits caller_of r.now v.known r.served r.waiting) is (r.each id v at) in (
        v,
        keeps,
        tt,
        unmoved s 1 id v c at r,
        record {
          same = refl;
          first = mine.0.first;
          second = mine.0.second;
          sound = shows_sound caller_of r.now v.known v.standing r.counted r.given mine.0 mine.1;
        },
      )

  -- another seat, after the turn of the pass that held it was served
  after_served : (s : St) (r : Rule s) (id : ℕ) (v : V) (t : ℕ) → get_elem? s.views id ≡ some v
      → v.standing ≡ Holding t → (j : ℕ) (d : V) → j ≢ id → get_elem? s.views j ≡ some d
      → Fits caller_of r.now d.known (r.served + 1) (r.waiting - 1) d.standing
  after_served s r id v t at is j d other there =
      let mine = subst (Fits caller_of r.now v.known r.served r.waiting) is (r.each id v at) in
      let one : waits v.standing ≤ total wait_weight s.views =
      total_one wait_weight s.views id v at in
      let all_wait = r.waits in
      let wait_before : waits v.standing ≡ 1 = ap waits is in
      later_served caller_of r.now d.known r.served r.waiting d.standing (omega arith)
      (λ same. other (r.tickets j id d v r.served there at same (ap ticket is ∙ ap some mine.2)))
      (r.each j d there)

  -- no pass holds the turn of another
  none_else : (s : St) (r : Rule s) (id : ℕ) (v : V) (t : ℕ) → get_elem? s.views id ≡ some v
      → v.standing ≡ Holding t → (j : ℕ) (d : V) → j ≢ id → get_elem? s.views j ≡ some d
      → holds_turn d.standing ≡ false
  none_else s r id v t at is j d other there =
      let mine = subst (Fits caller_of r.now v.known r.served r.waiting) is (r.each id v at) in
      not_holding d.standing (λ u holds.
      let fits = subst (Fits caller_of r.now d.known r.served r.waiting) holds (r.each j d there) in
      other (r.tickets j id d v t there at (ap ticket holds ∙ ap some (fits.2 ∙ sym mine.2))
      (ap ticket is)))

  -- the words after a turn was served
  words_served : (s : St) (r : Rule s) → 0 < r.waiting
      → set s.words 1 ((get_or s.words 1 0 + 1) % 2 ^ 64)
      ≡ (((r.served + 1) + (r.waiting - 1)) % 2 ^ 64) ∷ ((r.served + 1) % 2 ^ 64) ∷ []
  words_served s r some_wait = ap (λ (ws : List ℕ). set ws 1 ((get_or ws 1 0 + 1) % 2 ^ 64)) r.words
      ∙ (ap (λ (n : ℕ). ((r.served + r.waiting) % 2 ^ 64) ∷ n ∷ [])
      (mod-add-mod r.served (2 ^ 64) 1)
      ∙ ap (λ (n : ℕ). (n % 2 ^ 64) ∷ ((r.served + 1) % 2 ^ 64) ∷ []) (omega arith))

  pub serves : (slots id : ℕ) (v : V) (t : ℕ) (x : K) → slots ≡ 1 → v.standing ≡ Holding t
      → base_of x ≡ v.known.base → entries x ≡ v.known.seen
      → Allows Rule slots id (v, (0, Some x) ∷ []) 1 (λ n. (n + 1) % 2 ^ 64)
      (Serves entries base_of caller_of (step slots 1 1 0 none) (v, (0, Some x) ∷ []))
  serves slots id v t x one_slot is base list s r count at _ =
      let w : V = served v in
      let mine = subst (Fits caller_of r.now v.known r.served r.waiting) is (r.each id v at) in
      let pass_before : is_pass v.standing ≡ 1 = ap is_pass is in
      let wait_before : waits v.standing ≡ 1 = ap waits is in
      let passes = total_set pass_weight s.views id v w at in
      let waiting = total_set wait_weight s.views id v w at in
      let all_passes = r.passes in let all_wait = r.waits in
      let one : waits v.standing ≤ total wait_weight s.views =
      total_one wait_weight s.views id v at in
      let some_wait : 0 < r.waiting = omega arith in (
        w,
        gives,
        tt,
        record {
          now = r.now;
          served = r.served + 1;
          waiting = r.waiting - 1;
          words = words_served s r some_wait;
          home = λ _. record {
            value = x;
            slot = only_slot s.homes (some (Some x)) (count ∙ one_slot);
            list = list ∙ mine.3;
            base = base ∙ mine.0.base;
          };
          each = each_set
              (λ (d : V). Fits caller_of r.now d.known (r.served + 1) (r.waiting - 1) d.standing)
              s.views id w (mine.0, mine.1) (after_served s r id v t at is);
          numbers = apart_set number_of s.views id v w at r.numbers
              (λ n e. inl (ap (number_if v.known.caller) is ∙ e));
          tickets = apart_set ticket_of s.views id v w at r.tickets
              (λ n e. absurd (some-ne-none n (sym e)));
          whole = whole_set r.now.log s.views id v w at (λ _. refl) (λ e. e) r.whole;
          passes = omega arith;
          waits = omega arith;
          counted = r.counted;
          many = r.many;
          given = r.given;
          old = r.old;
          kept = r.kept;
        },
        refl,
      )

  pub serves_entry : (slots id : ℕ) (v : V) (t : ℕ) (x : K) (e : E) → slots ≡ 1
      → v.standing ≡ Holding t → base_of x ≡ v.known.base → entries x ≡ v.known.seen ++ e ∷ []
      → caller_of e ≡ v.known.caller
      → Allows Rule slots id (v, (0, Some x) ∷ []) 1 (λ n. (n + 1) % 2 ^ 64)
      (ServesEntry entries base_of caller_of (step slots 1 1 0 none) (v, (0, Some x) ∷ []))
  serves_entry slots id v t x e one_slot is base list own s r count at _ =
      let w : V = served_with caller_of v (entries x) in
      let log : List E = r.now.log ++ e ∷ [] in
      let now : Now E B = record r.now { log = log } in
      let mine = subst (Fits caller_of r.now v.known r.served r.waiting) is (r.each id v at) in
      let all : entries x ≡ log = list ∙ ap (λ (l : List E). l ++ e ∷ []) mine.3 in
      let pass_before : is_pass v.standing ≡ 1 = ap is_pass is in
      let wait_before : waits v.standing ≡ 1 = ap waits is in
      let passes = total_set pass_weight s.views id v w at in
      let waiting = total_set wait_weight s.views id v w at in
      let all_passes = r.passes in let all_wait = r.waits in
      let one : waits v.standing ≤ total wait_weight s.views =
      total_one wait_weight s.views id v at in
      let some_wait : 0 < r.waiting = omega arith in
      let begins : IsPrefix v.known.seen (entries x) = (e ∷ [], sym list) in
      let given : All (λ a. caller_of a < r.now.next) log =
      All-append (λ a. caller_of a < r.now.next) r.now.log (e ∷ []) r.given
      (All-one (λ a. caller_of a < r.now.next) e
      (subst (λ (n : ℕ). n < r.now.next) (sym own) mine.1.given)) in
      let kept : All (λ f. entries_by caller_of f.caller log ≡ f.mine) r.now.ended =
      All-both (λ (f : Ended E). f.caller ≢ v.known.caller)
      (λ f. entries_by caller_of f.caller r.now.log ≡ f.mine)
      (λ f. entries_by caller_of f.caller log ≡ f.mine)
      (λ f fresh same. by_other caller_of f.caller r.now.log e (λ clash. fresh (sym clash ∙ own))
      ∙ same) r.now.ended mine.1.fresh r.kept in
      let knows : Knows caller_of now w.known = record {
        base = mine.0.base;
        seen = subst (λ (l : List E). IsPrefix l log) (sym all) (prefix_self log);
        first = prefix_trans v.known.first v.known.seen (entries x) mine.0.first begins;
        second = prefix_trans v.known.second v.known.seen (entries x) mine.0.second begins;
      } in
      let pass : KnowsPass caller_of now w.known = record {
        given = mine.1.given;
        mine = refl;
        all = ap (entries_by caller_of v.known.caller) (sym all);
        fresh = mine.1.fresh;
        next = mine.1.next;
        away = mine.1.away;
        ended = mine.1.ended;
        kept = λ _. subst
            (λ (l : List E). All (λ f. entries_by caller_of f.caller l ≡ f.mine) r.now.ended)
            (sym all) kept;
      } in (
        w,
        gives,
        tt,
        record {
          now = now;
          served = r.served + 1;
          waiting = r.waiting - 1;
          words = words_served s r some_wait;
          home = λ _. record {
            value = x;
            slot = only_slot s.homes (some (Some x)) (count ∙ one_slot);
            list = all;
            base = base ∙ mine.0.base;
          };
          each = each_set
              (λ (d : V). Fits caller_of now d.known (r.served + 1) (r.waiting - 1) d.standing)
              s.views id w (knows, pass)
              (λ j d other there.
              later_entry caller_of r.now d.known (r.served + 1) (r.waiting - 1) d.standing e
              (none_else s r id v t at is j d other there)
              (λ other_pass same.
              other_caller s.views id j v d r.numbers at there other pass_before other_pass
              (sym same ∙ own))
              (after_served s r id v t at is j d other there));
          numbers = apart_set number_of s.views id v w at r.numbers
              (λ n e. inl (ap (number_if v.known.caller) is ∙ e));
          tickets = apart_set ticket_of s.views id v w at r.tickets
              (λ n e. absurd (some-ne-none n (sym e)));
          whole = whole_here log s.views id v w at refl all;
          passes = omega arith;
          waits = omega arith;
          counted = r.counted;
          many = r.many;
          given = given;
          old = r.old;
          kept = kept;
        },
        record {
          seat = λ y same. let value : x ≡ y = same_held x y ((0, Some x) ∷ []) refl same in
              let after : M = (w, []) in
              subst (λ (z : K). after ≡ (served_with caller_of v (entries z), [])) value refl;
          sound = shows_sound caller_of now w.known Free r.counted given knows pass;
        },
      )

  -- the same of a seat as a step finds it
  pub draws_at : (slots id : ℕ) (m : M) → m.0.standing ≡ Free
      → Allows Rule slots id m 0 (λ n. (n + 1) % 2 ^ 64)
      (Draws entries base_of caller_of (step slots 0 1 0 none) m)
  draws_at slots id m is = draws slots id m.0 m.1 is

  pub looks_at : (slots id ticket : ℕ) (m : M) → IsWaiting ticket m.0.standing → m.1 ≡ []
      → Allows Rule slots id m 1 (λ n. n)
      (Looks entries base_of caller_of (step slots 1 0 0 none) m)
  looks_at slots id ticket m w empty =
      let At : Held → Type 0 =
      λ c. Allows Rule slots id (m.0, c) 1 (λ n. n)
      (Looks entries base_of caller_of (step slots 1 0 0 none) (m.0, c)) in
      subst At (sym empty) (looks slots id m.0 w.0 w.1)

  pub compares_at : (slots id : ℕ) (m : M) → m.0.standing ≡ Free
      → Allows Rule slots id m 1 (λ n. n)
      (Compares entries base_of caller_of (step slots 1 0 0 none) m)
  compares_at slots id m is = compares slots id m.0 m.1 is

  pub serves_at : (slots id : ℕ) (m : M) (t : ℕ) (x : K) → slots ≡ 1 → m.0.standing ≡ Holding t
      → m.1 ≡ (0, Some x) ∷ [] → base_of x ≡ m.0.known.base → entries x ≡ m.0.known.seen
      → Allows Rule slots id m 1 (λ n. (n + 1) % 2 ^ 64)
      (Serves entries base_of caller_of (step slots 1 1 0 none) m)
  serves_at slots id m t x one is held base list =
      let At : Held → Type 0 =
      λ c. Allows Rule slots id (m.0, c) 1 (λ n. (n + 1) % 2 ^ 64)
      (Serves entries base_of caller_of (step slots 1 1 0 none) (m.0, c)) in
      subst At (sym held) (serves slots id m.0 t x one is base list)

  pub serves_entry_at : (slots id : ℕ) (m : M) (t : ℕ) (x : K) → slots ≡ 1
      → m.0.standing ≡ Holding t → m.1 ≡ (0, Some x) ∷ [] → base_of x ≡ m.0.known.base
      → AddsOne caller_of m.0.known.caller m.0.known.seen (entries x)
      → Allows Rule slots id m 1 (λ n. (n + 1) % 2 ^ 64)
      (ServesEntry entries base_of caller_of (step slots 1 1 0 none) m)
  serves_entry_at slots id m t x one is held base adds =
      let At : Held → Type 0 =
      λ c. Allows Rule slots id (m.0, c) 1 (λ n. (n + 1) % 2 ^ 64)
      (ServesEntry entries base_of caller_of (step slots 1 1 0 none) (m.0, c)) in
      subst At (sym held) (serves_entry slots id m.0 t x adds.entry one is base adds.list adds.own)

  -- a new table keeps the rule
  pub opens : (x : K) → entries x ≡ []
      → Rule (opening (0 ∷ 0 ∷ []) (Some x ∷ []) (root_view (base_of x)))
  opens x empty = let root : V = root_view (base_of x) in
      let now : Now E B = record { log = []; base = base_of x; next = 1; away = 0; ended = [] } in
      record {
        now = now;
        served = 0;
        waiting = 0;
        words = refl;
        home = λ _. record { value = x; slot = refl; list = empty; base = refl };
        each = λ j d at.
            subst (λ (u : V). Fits caller_of now u.known 0 0 u.standing) (only_view root j d at) (
              record {
                base = refl;
                seen = prefix_self [];
                first = prefix_self [];
                second = prefix_self [];
              },
              record {
                given = omega arith;
                mine = refl;
                all = refl;
                fresh = All-none _;
                next = λ _. refl;
                away = λ _. refl;
                ended = λ _. refl;
                kept = λ _. All-none _;
              },
            );
        numbers = λ i j v w n a b _ _. only_place root i v a ∙ sym (only_place root j w b);
        tickets = λ i j v w n a b _ _. only_place root i v a ∙ sym (only_place root j w b);
        whole = record { seat = 0; view = root; there = refl; pass = refl; whole = refl };
        passes = refl;
        waits = refl;
        counted = refl;
        many = omega arith;
        given = All-none _;
        old = All-none _;
        kept = All-none _;
      }
