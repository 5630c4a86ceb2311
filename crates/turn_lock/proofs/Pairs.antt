-- The steps of two seats keep the rule: splits and joins. And what a closed table has.
use Rattle.std.proofs.Common.{◌≡◌, ℕ, ◌+◌, ◌-◌, ◌<◌, ◌≤◌, ◌≢◌, ◌^◌, List, [], ◌∷◌, ◌++◌, set, refl}
use Rattle.std.proofs.Common.{ap, sym, subst, ◌∙◌, inl, inr, ⊎_elim, ◌⊎◌, arith, Option, Some, None}
use Rattle.std.proofs.Common.{length-append}
use Rattle.std.specs.List.{All}
use Rattle.std.proofs.lemmas.List.Elements.{All-append}
use mathlib.Core.List.{IsPrefix}
use mathlib.Core.Logic.{dite}
use mathlib.Core.Option.{some, some-injective, some-ne-none}
use native.Mathlib.Decide.{ℕ_discrete}
use lib.ListN.{get_elem?}
use Rattle.atomic_table.specs.Table.{State, Splits, Joins, Final, Seen}
use Rattle.atomic_table.proofs.Lists.{at_longer, at_set, set_again, set_else}
use Rattle.turn_lock.specs.Lists.{entries_by, longer}
use Rattle.turn_lock.specs.Views.{holds_turn}
use Rattle.turn_lock.specs.Steps.{split_root, new_pass, copied, spent, taken, met, joined}
use Rattle.turn_lock.specs.Rule.{is_pass, number_if, number_of, ticket_of, pass_weight, wait_weight}
use Rattle.turn_lock.specs.Rule.{waits, Now, Knows, KnowsPass, Fits, HasWhole, NoneHolds, IsKept}
use Rattle.turn_lock.specs.declared.view.Ended.{Ended}
use Rattle.turn_lock.specs.declared.view.Known.{Known}
use Rattle.turn_lock.specs.declared.view.View.{View}
use Rattle.turn_lock.specs.declared.view.Standing.{Standing}
use Rattle.turn_lock.specs.declared.view.Standing.TheVariants.{Free, Waiting, Holding, Copy, Spent}
use Rattle.turn_lock.proofs.Lists.{longer_is, prefix_nil, prefix_both, All-map, All-one, All-both}
use Rattle.turn_lock.proofs.Lists.{All-prefix, by_between, by_none, total_set, total_snoc}
use Rattle.turn_lock.proofs.Lists.{total_two, apart_set, apart_snoc, each_set, each_snoc, set_there}
use Rattle.turn_lock.proofs.Seats.{not_holding, other_caller, none_before, whole_set}
use Rattle.turn_lock.proofs.Turns.{alone_whole}

module _ {E B : Type 0} (caller_of : E → ℕ) (now : Now E B) (k : Known E B) where
  -- the number of a pass was given
  pub number_below : (served waiting : ℕ) (st : Standing) (n : ℕ)
      → Fits caller_of now k served waiting st → number_if k.caller st ≡ some n → n < now.next
  number_below served waiting Free n f is =
      subst (λ (c : ℕ). c < now.next) (some-injective k.caller n is) f.1.given
  number_below served waiting (Waiting t) n f is =
      subst (λ (c : ℕ). c < now.next) (some-injective k.caller n is) f.1.given
  number_below served waiting (Holding t) n f is =
      subst (λ (c : ℕ). c < now.next) (some-injective k.caller n is) f.1.given
  number_below served waiting Copy n f is = absurd (some-ne-none n (sym is))
  number_below served waiting Spent n f is = absurd (some-ne-none n (sym is))

  -- what the root knows changes, and the list stays
  abbrev rooted : ℕ → ℕ → List (Ended E) → Now E B
  rooted next away ended =
      record { log = now.log; base = now.base; next = next; away = away; ended = ended }

  knows_rooted : (next away : ℕ) (ended : List (Ended E)) → Knows caller_of now k
      → Knows caller_of (rooted next away ended) k
  knows_rooted next away ended f =
      record { base = f.base; seen = f.seen; first = f.first; second = f.second }

  pass_rooted : (next away : ℕ) (ended : List (Ended E)) → now.next ≤ next → k.caller ≢ 0
      → All (λ f. f.caller ≢ k.caller) ended → KnowsPass caller_of now k
      → KnowsPass caller_of (rooted next away ended) k
  pass_rooted next away ended more other fresh f = let given = f.given in record {
    given = omega arith;
    mine = f.mine;
    all = f.all;
    fresh = fresh;
    next = λ root. absurd (other root);
    away = λ root. absurd (other root);
    ended = λ root. absurd (other root);
    kept = λ root. absurd (other root);
  }

  -- another than the root still fits
  pub later_rooted : (served waiting next away : ℕ) (ended : List (Ended E)) (st : Standing)
      → now.next ≤ next → (is_pass st ≡ 1 → k.caller ≢ 0)
      → (is_pass st ≡ 1 → KnowsPass caller_of now k → All (λ f. f.caller ≢ k.caller) ended)
      → Fits caller_of now k served waiting st
      → Fits caller_of (rooted next away ended) k served waiting st
  later_rooted served waiting next away ended Free more other fresh f = (
    knows_rooted next away ended f.0,
    pass_rooted next away ended more (other refl) (fresh refl f.1) f.1,
  )
  later_rooted served waiting next away ended (Waiting t) more other fresh f = (
    knows_rooted next away ended f.0,
    pass_rooted next away ended more (other refl) (fresh refl f.1) f.1,
    f.2,
    f.3,
  )
  later_rooted served waiting next away ended (Holding t) more other fresh f = (
    knows_rooted next away ended f.0,
    pass_rooted next away ended more (other refl) (fresh refl f.1) f.1,
    f.2,
    f.3,
  )
  later_rooted served waiting next away ended Copy more other fresh f =
      knows_rooted next away ended f
  later_rooted served waiting next away ended Spent more other fresh f = tt

module _ {E B : Type 0} where
  -- a seat that comes changes nothing for the others
  pub whole_snoc : (log : List E) (vs : List (View E B)) (w : View E B) → HasWhole log vs
      → HasWhole log (vs ++ w ∷ [])
  whole_snoc log vs w h = record {
    seat = h.seat;
    view = h.view;
    there = at_longer vs (w ∷ []) h.seat h.view h.there;
    pass = h.pass;
    whole = h.whole;
  }

  pub none_snoc : (vs : List (View E B)) (w : View E B) → NoneHolds (vs ++ w ∷ []) → NoneHolds vs
  none_snoc vs w out j d there = out j d (at_longer vs (w ∷ []) j d there)

  -- a pass has seen the whole list after a seat was spent, where one that took over has it if the
  -- seat had
  pub whole_spent : (log : List E) (vs : List (View E B)) (i j : ℕ) (b w u : View E B)
      → get_elem? vs i ≡ some b → i ≢ j → is_pass b.standing ≡ 1 → get_elem? vs j ≡ some w
      → (w.known.seen ≡ log → b.known.seen ≡ log)
      → HasWhole log vs → HasWhole log (set vs j u)
  whole_spent log vs i j b w u at other pass there seen h = dite (ℕ_discrete h.seat j)
      (λ same. let e : h.view ≡ w =
      some-injective h.view w (sym h.there ∙ (ap (get_elem? vs) same ∙ there)) in record {
        seat = i;
        view = b;
        there = set_else vs j i u other ∙ at;
        pass = pass;
        whole = seen (ap (λ (x : View E B). x.known.seen) (sym e) ∙ h.whole);
      })
      (λ apart. record {
        seat = h.seat;
        view = h.view;
        there = set_else vs j h.seat u apart ∙ h.there;
        pass = h.pass;
        whole = h.whole;
      })

module _ {K E B : Type 0} (entries : K → List E) (base_of : K → B) (caller_of : E → ℕ) where
  abbrev V : Type 0
  V = View E B

  abbrev St : Type 0
  St = State (Option K) V

  abbrev Rule : St → Type 0
  Rule = IsKept entries base_of caller_of

  -- the root gives a number
  pub splits : (id : ℕ) (v : V) → v.standing ≡ Free → v.known.caller ≡ 0 → v.known.next < 2 ^ 32
      → Splits Rule id v (split_root v) (new_pass v)
  splits id v is root few s r at =
      let left : V = split_root v in
      let right : V = new_pass v in
      let now = r.now in
      let after : Now E B = record {
        log = now.log;
        base = now.base;
        next = now.next + 1;
        away = now.away + 1;
        ended = now.ended;
      } in
      let mine = subst (Fits caller_of now v.known r.served r.waiting) is (r.each id v at) in
      let knows = mine.0 in let pass = mine.1 in
      let next = pass.next root in
      let one : is_pass v.standing ≡ 1 = ap is_pass is in
      let seen_given : All (λ e. caller_of e < v.known.next) v.known.seen =
      subst (λ (n : ℕ). All (λ e. caller_of e < n) v.known.seen) (sym next)
      (All-prefix (λ e. caller_of e < now.next) v.known.seen now.log knows.seen r.given) in
      let log_given : All (λ e. caller_of e < v.known.next) now.log =
      subst (λ (n : ℕ). All (λ e. caller_of e < n) now.log) (sym next) r.given in
      let counted = r.counted in
      let many = r.many in
      let passes = total_set pass_weight s.views id v left at in
      let waiting = total_set wait_weight s.views id v left at in
      let more_passes = total_snoc pass_weight (set s.views id left) right in
      let more_waiting = total_snoc wait_weight (set s.views id left) right in
      let all_passes = r.passes in let all_wait = r.waits in
      let left_fits : Fits caller_of after left.known r.served r.waiting Free = (
        record { base = knows.base; seen = knows.seen; first = knows.first; second = knows.second },
        record {
          given = let given = pass.given in omega arith;
          mine = pass.mine;
          all = pass.all;
          fresh = pass.fresh;
          next = λ _. ap (λ (n : ℕ). n + 1) next;
          away = λ _. ap (λ (n : ℕ). n + 1) (pass.away root);
          ended = pass.ended;
          kept = pass.kept;
        },
      ) in
      let right_fits : Fits caller_of after right.known r.served r.waiting Free = (
        record {
          base = knows.base;
          seen = knows.seen;
          first = prefix_nil v.known.seen;
          second = prefix_nil v.known.seen;
        },
        record {
          given = omega arith;
          mine = by_none caller_of v.known.next v.known.seen seen_given;
          all = by_none caller_of v.known.next now.log log_given;
          fresh = All-map (λ f. f.caller < now.next) (λ f. f.caller ≢ v.known.next)
              (λ f below same. omega arith) now.ended r.old;
          next = λ zero. absurd (omega arith);
          away = λ zero. absurd (omega arith);
          ended = λ zero. absurd (omega arith);
          kept = λ zero. absurd (omega arith);
        },
      ) in
      record {
        now = after;
        served = r.served;
        waiting = r.waiting;
        words = r.words;
        home = λ out. let h =
            r.home (none_before s.views id v left at (ap holds_turn is)
            (none_snoc (set s.views id left) right out)) in record {
              value = h.value;
              slot = h.slot;
              list = h.list;
              base = h.base;
            };
        each = each_snoc (λ (d : V). Fits caller_of after d.known r.served r.waiting d.standing)
            (set s.views id left) right
            (each_set (λ (d : V). Fits caller_of after d.known r.served r.waiting d.standing)
            s.views id left
            (subst (Fits caller_of after left.known r.served r.waiting) (sym is) left_fits)
            (λ j d other there.
            later_rooted caller_of now d.known r.served r.waiting (now.next + 1) (now.away + 1)
            now.ended d.standing (omega arith)
            (λ p zero. other_caller s.views id j v d r.numbers at there other one p
            (zero ∙ sym root)) (λ _ f. f.fresh) (r.each j d there)))
            right_fits;
        numbers = apart_snoc number_of (set s.views id left) right
            (apart_set number_of s.views id v left at r.numbers (λ n e. inl e))
            (λ n e. each_set (λ (d : V). number_of d ≢ some n) s.views id left
            (λ clash. let c : v.known.caller ≡ n =
            some-injective v.known.caller n (sym (ap (number_if v.known.caller) is) ∙ clash) in
            let here : v.known.next ≡ n = some-injective v.known.next n e in omega arith)
            (λ j d _ there clash. let below : n < now.next =
            number_below caller_of now d.known r.served r.waiting d.standing n (r.each j d there)
            clash in let here : v.known.next ≡ n = some-injective v.known.next n e in omega arith));
        tickets = apart_snoc ticket_of (set s.views id left) right
            (apart_set ticket_of s.views id v left at r.tickets (λ n e. inl e))
            (λ n e. absurd (some-ne-none n (sym e)));
        whole = whole_snoc now.log (set s.views id left) right
            (whole_set now.log s.views id v left at (λ p. p) (λ e. e) r.whole);
        passes = omega arith;
        waits = omega arith;
        counted = omega arith;
        many = omega arith;
        given = All-map (λ e. caller_of e < now.next) (λ e. caller_of e < now.next + 1)
            (λ e below. omega arith) now.log r.given;
        old = All-map (λ (f : Ended E). f.caller < now.next) (λ f. f.caller < now.next + 1)
            (λ f below. omega arith) now.ended r.old;
        kept = r.kept;
      }

  -- a copy is made of what a pass has seen
  pub copies : (id : ℕ) (v : V) → v.standing ≡ Free → Splits Rule id v v (copied v)
  copies id v is s r at =
      let right : V = copied v in
      let mine = subst (Fits caller_of r.now v.known r.served r.waiting) is (r.each id v at) in
      let knows = mine.0 in
      let more_passes = total_snoc pass_weight s.views right in
      let more_waiting = total_snoc wait_weight s.views right in
      let all_passes = r.passes in let all_wait = r.waits in
      subst (λ (vs : List V).
      Rule record { words = s.words; homes = s.homes; views = vs ++ right ∷ [] })
      (sym (set_again s.views id v at)) record {
        now = r.now;
        served = r.served;
        waiting = r.waiting;
        words = r.words;
        home = λ out. r.home (none_snoc s.views right out);
        each = each_snoc (λ (d : V). Fits caller_of r.now d.known r.served r.waiting d.standing)
            s.views right r.each
            record {
              base = knows.base;
              seen = knows.seen;
              first = prefix_nil v.known.seen;
              second = prefix_nil v.known.seen;
            };
        numbers = apart_snoc number_of s.views right r.numbers
            (λ n e. absurd (some-ne-none n (sym e)));
        tickets = apart_snoc ticket_of s.views right r.tickets
            (λ n e. absurd (some-ne-none n (sym e)));
        whole = whole_snoc r.now.log s.views right r.whole;
        passes = omega arith;
        waits = omega arith;
        counted = r.counted;
        many = r.many;
        given = r.given;
        old = r.old;
        kept = r.kept;
      }

  -- where two seats change, what holds of both and of the others holds of each
  each_pair : (F : V → Type 0) (vs : List V) (i j : ℕ) (b u : V) → F b → F u
      → ((n : ℕ) (d : V) → n ≢ i → n ≢ j → get_elem? vs n ≡ some d → F d)
      → (n : ℕ) (d : V) → get_elem? (set (set vs i b) j u) n ≡ some d → F d
  each_pair F vs i j b u first second others = each_set F (set vs i b) j u second
      (λ n d apart there.
      ⊎_elim (λ (t : (n ≡ i) × (b ≡ d)). subst F t.1 first)
      (λ (t : (n ≢ i) × (get_elem? vs n ≡ some d)). others n d t.0 apart t.1)
      (at_set vs i n b d there))

  -- the pass that takes the longer of two lists
  longer_knows : (now : Now E B) (k l : Known E B) → Knows caller_of now k → IsPrefix l.seen now.log
      → Knows caller_of now (taken k l)
  longer_knows now k l f p = let is = longer_is now.log k.seen l.seen f.seen p in record {
    base = f.base;
    seen = is.whole;
    first = is.this;
    second = is.that;
  }

  -- a pass that takes a longer list keeps its own entries, and those of the passes that were joined
  longer_mine : (now : Now E B) (k l : Known E B) → Knows caller_of now k → IsPrefix l.seen now.log
      → (c : ℕ) (mine : List E)
      → entries_by caller_of c k.seen ≡ mine → entries_by caller_of c now.log ≡ mine
      → entries_by caller_of c (longer k.seen l.seen) ≡ mine
  longer_mine now k l f p c mine low high = let is = longer_is now.log k.seen l.seen f.seen p in
      by_between caller_of c k.seen (longer k.seen l.seen) now.log mine is.this is.whole low high

  -- the longer list is the whole one, where one of the two is
  longer_whole : (now : Now E B) (k l : Known E B) → Knows caller_of now k → IsPrefix l.seen now.log
      → (k.seen ≡ now.log) ⊎ (l.seen ≡ now.log) → longer k.seen l.seen ≡ now.log
  longer_whole now k l f p one =
      let is = longer_is now.log k.seen l.seen f.seen p in
      let z : List E = longer k.seen l.seen in
      prefix_both z now.log is.whole
      (⊎_elim (λ (e : k.seen ≡ now.log). subst (λ (x : List E). IsPrefix x z) e is.this)
      (λ (e : l.seen ≡ now.log). subst (λ (x : List E). IsPrefix x z) e is.that) one)

  -- a pass meets a copy of what another has seen
  pub meets : (id other : ℕ) (v w : V) (base : B) → v.standing ≡ Free → w.standing ≡ Copy
      → Joins Rule id v other w (met v w) (spent base)
  meets id other v w base is copy s r at apart there =
      let now = r.now in
      let both : V = met v w in
      let gone : V = spent base in
      let there' : get_elem? s.views other ≡ some w =
      sym (set_else s.views id other both apart) ∙ there in
      let mine = subst (Fits caller_of now v.known r.served r.waiting) is (r.each id v at) in
      let its = subst (Fits caller_of now w.known r.served r.waiting) copy
      (r.each other w there') in
      let knows = mine.0 in let pass = mine.1 in
      let one : is_pass v.standing ≡ 1 = ap is_pass is in
      let none_there : is_pass w.standing ≡ 0 = ap is_pass copy in
      let not_waiting : waits w.standing ≡ 0 = ap waits copy in
      let vs : List V = set s.views id both in
      let passes = total_set pass_weight s.views id v both at in
      let waiting = total_set wait_weight s.views id v both at in
      let passes' = total_set pass_weight vs other w gone there in
      let waiting' = total_set wait_weight vs other w gone there in
      let all_passes = r.passes in let all_wait = r.waits in
      let fits : Fits caller_of now both.known r.served r.waiting Free = (
        longer_knows now v.known w.known knows its.seen,
        record {
          given = pass.given;
          mine = longer_mine now v.known w.known knows its.seen v.known.caller v.known.mine
              pass.mine pass.all;
          all = pass.all;
          fresh = pass.fresh;
          next = pass.next;
          away = pass.away;
          ended = pass.ended;
          kept = λ root.
              All-both (λ (f : Ended E). entries_by caller_of f.caller v.known.seen ≡ f.mine)
              (λ f. entries_by caller_of f.caller now.log ≡ f.mine)
              (λ f. entries_by caller_of f.caller both.known.seen ≡ f.mine)
              (λ f low high.
              longer_mine now v.known w.known knows its.seen f.caller f.mine low high) now.ended
              (pass.kept root) r.kept;
        },
      ) in
      record {
        now = now;
        served = r.served;
        waiting = r.waiting;
        words = r.words;
        home = λ out.
            r.home (none_before s.views id v both at (ap holds_turn is)
            (none_before vs other w gone there (ap holds_turn copy) out));
        each = each_pair (λ (d : V). Fits caller_of now d.known r.served r.waiting d.standing)
            s.views id other both gone
            (subst (Fits caller_of now both.known r.served r.waiting) (sym is) fits) tt
            (λ n d _ _ here. r.each n d here);
        numbers = apart_set number_of vs other w gone there
            (apart_set number_of s.views id v both at r.numbers (λ n e. inl e))
            (λ n e. absurd (some-ne-none n (sym e)));
        tickets = apart_set ticket_of vs other w gone there
            (apart_set ticket_of s.views id v both at r.tickets (λ n e. inl e))
            (λ n e. absurd (some-ne-none n (sym e)));
        whole = whole_spent now.log vs id other both w gone (set_there s.views id v both at)
            (λ e. apart (sym e)) one there
            (λ e. longer_whole now v.known w.known knows its.seen (inr e))
            (whole_set now.log s.views id v both at (λ p. p)
            (λ e. longer_whole now v.known w.known knows its.seen (inl e)) r.whole);
        passes = omega arith;
        waits = omega arith;
        counted = r.counted;
        many = r.many;
        given = r.given;
        old = r.old;
        kept = r.kept;
      }

  -- the root takes a pass back
  pub joins : (id other : ℕ) (v w : V) (base : B) → v.standing ≡ Free → v.known.caller ≡ 0
      → w.standing ≡ Free → Joins Rule id v other w (joined v w) (spent base)
  joins id other v w base is root free s r at apart there =
      let now = r.now in
      let both : V = joined v w in
      let gone : V = spent base in
      let f : Ended E = record { caller = w.known.caller; mine = w.known.mine } in
      let after : Now E B = record {
        log = now.log;
        base = now.base;
        next = now.next;
        away = now.away - 1;
        ended = now.ended ++ f ∷ [];
      } in
      let there' : get_elem? s.views other ≡ some w =
      sym (set_else s.views id other both apart) ∙ there in
      let mine = subst (Fits caller_of now v.known r.served r.waiting) is (r.each id v at) in
      let its = subst (Fits caller_of now w.known r.served r.waiting) free
      (r.each other w there') in
      let knows = mine.0 in let pass = mine.1 in
      let its_knows = its.0 in let its_pass = its.1 in
      let one : is_pass v.standing ≡ 1 = ap is_pass is in
      let one' : is_pass w.standing ≡ 1 = ap is_pass free in
      let not_waiting : waits w.standing ≡ 0 = ap waits free in
      let vs : List V = set s.views id both in
      let passes = total_set pass_weight s.views id v both at in
      let waiting = total_set wait_weight s.views id v both at in
      let passes' = total_set pass_weight vs other w gone there in
      let waiting' = total_set wait_weight vs other w gone there in
      let two = total_two pass_weight s.views id other v w at there' (λ e. apart (sym e)) in
      let all_passes = r.passes in let all_wait = r.waits in
      let counted = r.counted in let longer_by_one = length-append now.ended (f ∷ []) in
      let fresh : (c : ℕ) → w.known.caller ≢ c → All (λ (g : Ended E). g.caller ≢ c) now.ended
      → All (λ (g : Ended E). g.caller ≢ c) (now.ended ++ f ∷ []) =
      λ c ne old. All-append (λ (g : Ended E). g.caller ≢ c) now.ended (f ∷ []) old
      (All-one (λ (g : Ended E). g.caller ≢ c) f ne) in
      let fits : Fits caller_of after both.known r.served r.waiting Free = (
        (let k = longer_knows now v.known w.known knows its_knows.seen in
            record { base = k.base; seen = k.seen; first = k.first; second = k.second }),
        record {
          given = pass.given;
          mine = longer_mine now v.known w.known knows its_knows.seen v.known.caller v.known.mine
              pass.mine pass.all;
          all = pass.all;
          fresh = fresh v.known.caller
              (other_caller s.views id other v w r.numbers at there' apart one one') pass.fresh;
          next = pass.next;
          away = λ _. ap (λ (n : ℕ). n - 1) (pass.away root);
          ended = λ _. ap (λ (l : List (Ended E)). l ++ f ∷ []) (pass.ended root);
          kept = λ _. All-append
              (λ (g : Ended E). entries_by caller_of g.caller both.known.seen ≡ g.mine) now.ended
              (f ∷ [])
              (All-both (λ (g : Ended E). entries_by caller_of g.caller v.known.seen ≡ g.mine)
              (λ g. entries_by caller_of g.caller now.log ≡ g.mine)
              (λ g. entries_by caller_of g.caller both.known.seen ≡ g.mine)
              (λ g low high.
              longer_mine now v.known w.known knows its_knows.seen g.caller g.mine low high)
              now.ended (pass.kept root) r.kept)
              (All-one (λ (g : Ended E). entries_by caller_of g.caller both.known.seen ≡ g.mine) f
              (let is' = longer_is now.log v.known.seen w.known.seen knows.seen its_knows.seen in
              by_between caller_of w.known.caller w.known.seen (longer v.known.seen w.known.seen)
              now.log w.known.mine is'.that is'.whole its_pass.mine its_pass.all));
        },
      ) in
      record {
        now = after;
        served = r.served;
        waiting = r.waiting;
        words = r.words;
        home = λ out. let h =
            r.home (none_before s.views id v both at (ap holds_turn is)
            (none_before vs other w gone there (ap holds_turn free) out)) in record {
              value = h.value;
              slot = h.slot;
              list = h.list;
              base = h.base;
            };
        each = each_pair (λ (d : V). Fits caller_of after d.known r.served r.waiting d.standing)
            s.views id other both gone
            (subst (Fits caller_of after both.known r.served r.waiting) (sym is) fits) tt
            (λ n d not_root not_it here.
            later_rooted caller_of now d.known r.served r.waiting now.next (now.away - 1)
            (now.ended ++ f ∷ []) d.standing (omega arith)
            (λ p zero. other_caller s.views id n v d r.numbers at here not_root one p
            (zero ∙ sym root))
            (λ p g. fresh d.known.caller
            (λ same. other_caller s.views other n w d r.numbers there' here not_it one' p
            (sym same)) g.fresh) (r.each n d here));
        numbers = apart_set number_of vs other w gone there
            (apart_set number_of s.views id v both at r.numbers (λ n e. inl e))
            (λ n e. absurd (some-ne-none n (sym e)));
        tickets = apart_set ticket_of vs other w gone there
            (apart_set ticket_of s.views id v both at r.tickets (λ n e. inl e))
            (λ n e. absurd (some-ne-none n (sym e)));
        whole = whole_spent now.log vs id other both w gone (set_there s.views id v both at)
            (λ e. apart (sym e)) one there
            (λ e. longer_whole now v.known w.known knows its_knows.seen (inr e))
            (whole_set now.log s.views id v both at (λ p. p)
            (λ e. longer_whole now v.known w.known knows its_knows.seen (inl e)) r.whole);
        passes = omega arith;
        waits = omega arith;
        counted = omega arith;
        many = r.many;
        given = r.given;
        old = All-append (λ (g : Ended E). g.caller < now.next) now.ended (f ∷ []) r.old
            (All-one (λ (g : Ended E). g.caller < now.next) f its_pass.given);
        kept = All-append (λ (g : Ended E). entries_by caller_of g.caller now.log ≡ g.mine)
            now.ended (f ∷ []) r.kept
            (All-one (λ (g : Ended E). entries_by caller_of g.caller now.log ≡ g.mine) f
            its_pass.all);
      }

  -- while the root alone is left and holds no turn, none does
  none_left : (s : St) (r : Rule s) (id : ℕ) (v : V) → get_elem? s.views id ≡ some v
      → v.standing ≡ Free → r.now.away ≡ 0 → NoneHolds s.views
  none_left s r id v at is alone j d there =
      not_holding d.standing (λ t holds. dite (ℕ_discrete j id)
      (λ same. let e : v ≡ d =
      some-injective v d (sym at ∙ (ap (get_elem? s.views) (sym same) ∙ there)) in
      let clash : Free ≡ Holding t = sym is ∙ (ap (λ (u : V). u.standing) e ∙ holds) in absurd cc)
      (λ other. let two = total_two pass_weight s.views j id d v there at other in
      let all = r.passes in let one : is_pass v.standing ≡ 1 = ap is_pass is in
      let one' : is_pass d.standing ≡ 1 = ap is_pass holds in absurd (omega arith)))

  -- what the slot has once the table is closed, where the root alone is left
  pub record IsLeft (k : Known E B) (found : Option K) : Type 0 where
    pub value : K
    pub is : found ≡ Some value
    pub list : entries value ≡ k.seen
    pub base : base_of value ≡ k.base

  pub closes : (id : ℕ) (v : V) (ws : List ℕ) (xs : List (Option K)) (found : Option K)
      → v.standing ≡ Free → v.known.caller ≡ 0 → v.known.away ≡ 0 → Final (Seen Rule id v) ws xs
      → get_elem? xs 0 ≡ some found → IsLeft v.known found
  closes id v ws xs found is root none_away final there =
      let s = final.0 in
      let r = final.1.0 in
      let at = final.1.1 in
      let mine = subst (Fits caller_of r.now v.known r.served r.waiting) is (r.each id v at) in
      let alone : r.now.away ≡ 0 = sym (mine.1.away root) ∙ none_away in
      let h = r.home (none_left s r id v at is alone) in
      let slot : get_elem? xs 0 ≡ some (Some h.value) =
      final.4 0 (Some h.value) (ap (λ hs. get_elem? hs 0) h.slot) in record {
        value = h.value;
        is = some-injective found (Some h.value) (sym there ∙ slot);
        list = h.list
            ∙ sym (alone_whole entries base_of caller_of s r id v at (ap is_pass is) alone);
        base = h.base ∙ sym mine.0.base;
      }

  pub left_some : (k : Known E B) (found : Option K) → IsLeft k found → found ≢ None
  left_some k found left nothing = let is = left.is in absurd cc

  pub left_entries : (k : Known E B) (found : Option K) (x : K) → IsLeft k found → found ≡ Some x
      → entries x ≡ k.seen
  left_entries k found x left is = let same : left.value ≡ x = cc (left.is, is) in
      ap entries (sym same) ∙ left.list

  pub left_base : (k : Known E B) (found : Option K) (x : K) → IsLeft k found → found ≡ Some x
      → base_of x ≡ k.base
  left_base k found x left is = let same : left.value ≡ x = cc (left.is, is) in
      ap base_of (sym same) ∙ left.base
