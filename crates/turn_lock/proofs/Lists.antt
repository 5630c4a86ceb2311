-- Fronts of lists, a caller's entries in them, sums over them and numbers that differ.
use Rattle.std.proofs.Common.{◌≡◌, ℕ, zero, suc, ◌+◌, ◌<◌, ◌≤◌, ◌≢◌, ◌==◌, ◌⊎◌, Bool, true, false}
use Rattle.std.proofs.Common.{List, [], ◌∷◌, ◌++◌, length, set, refl, ap, sym, subst, ◌∙◌, arith}
use Rattle.std.proofs.Common.{append_assoc, length-append, ⊎_elim, inl, inr}
use Rattle.std.specs.List.{All, filter}
use Rattle.std.proofs.lemmas.List.{append-nil}
use Rattle.std.proofs.lemmas.List.Elements.{filter-append}
use Rattle.std.proofs.lemmas.Bool.Decides.{nat_tests}
use mathlib.Core.List.{IsPrefix}
use mathlib.Core.Option.{Option, some, some-injective, some-ne-none}
use lib.ListN.{get_elem?}
use Rattle.atomic_table.proofs.Lists.{at_set}
use Rattle.turn_lock.specs.Lists.{entries_by, longer, total, Apart}

module _ {A : Type 0} where
  -- each list begins with itself
  pub prefix_self : (xs : List A) → IsPrefix xs xs
  prefix_self xs = ([], append-nil xs)

  pub prefix_nil : (xs : List A) → IsPrefix [] xs
  prefix_nil xs = (xs, refl)

  pub prefix_trans : (xs ys zs : List A) → IsPrefix xs ys → IsPrefix ys zs → IsPrefix xs zs
  prefix_trans xs ys zs p q =
      (p.0 ++ q.0, sym (append_assoc xs p.0 q.0) ∙ (ap (λ w. w ++ q.0) p.1 ∙ q.1))

  pub prefix_snoc : (xs ys : List A) (a : A) → IsPrefix xs ys → IsPrefix xs (ys ++ a ∷ [])
  prefix_snoc xs ys a p = prefix_trans xs ys (ys ++ a ∷ []) p (a ∷ [], refl)

  -- of two fronts of one list the shorter begins the longer
  pub prefix_shorter : (xs ys zs : List A) → IsPrefix xs zs → IsPrefix ys zs → length xs ≤ length ys
      → IsPrefix xs ys
  prefix_shorter [] ys zs p q le = (ys, refl)
  prefix_shorter (x ∷ xs) [] zs p q le = absurd (omega arith)
  prefix_shorter (x ∷ xs) (y ∷ ys) [] p q le = absurd (cc (p.1))
  prefix_shorter (x ∷ xs) (y ∷ ys) (z ∷ zs) p q le =
      let heads : x ≡ y = cc (p.1, q.1) in
      let rest = prefix_shorter xs ys zs (p.0, cc (p.1)) (q.0, cc (q.1)) (omega arith) in
      (rest.0, cc (heads, rest.1))

  -- a front as long as the whole is the whole
  pub prefix_whole : (xs ys : List A) → IsPrefix xs ys → length ys ≤ length xs → xs ≡ ys
  prefix_whole [] [] p le = refl
  prefix_whole [] (y ∷ ys) p le = absurd (omega arith)
  prefix_whole (x ∷ xs) [] p le = absurd (cc (p.1))
  prefix_whole (x ∷ xs) (y ∷ ys) p le =
      let rest = prefix_whole xs ys (p.0, cc (p.1)) (omega arith) in cc (p.1, rest)

  pub prefix_length : (xs ys : List A) → IsPrefix xs ys → length xs ≤ length ys
  prefix_length xs ys p = omega (arith, sym (ap length p.1) ∙ length-append xs p.0)

  -- the longer of two fronts of one list is one of them, and both begin it
  pub record IsLonger (log xs ys zs : List A) : Type 0 where
    pub this : IsPrefix xs zs
    pub that : IsPrefix ys zs
    pub whole : IsPrefix zs log

  longer_by : (log xs ys : List A) → IsPrefix xs log → IsPrefix ys log → (b : Bool)
      → Rattle.std.specs.Prelude.nat_le (length ys) (length xs) ≡ b
      → IsLonger log xs ys (Rattle.std.specs.Prelude.if◌then◌else◌ b xs ys)
  longer_by log xs ys p q true is = record {
    this = prefix_self xs;
    that = prefix_shorter ys xs log q p (grind (arith, nat_tests));
    whole = p;
  }
  longer_by log xs ys p q false is = record {
    this = prefix_shorter xs ys log p q (grind (arith, nat_tests));
    that = prefix_self ys;
    whole = q;
  }

  pub longer_is : (log xs ys : List A) → IsPrefix xs log → IsPrefix ys log
      → IsLonger log xs ys (longer xs ys)
  longer_is log xs ys p q =
      longer_by log xs ys p q (Rattle.std.specs.Prelude.nat_le (length ys) (length xs)) refl

  -- where one of them is the whole, so is the longer
  pub prefix_both : (xs ys : List A) → IsPrefix xs ys → IsPrefix ys xs → xs ≡ ys
  prefix_both xs ys p q = prefix_whole xs ys p (prefix_length ys xs q)

  pub All-head : (P : A → Type 0) (x : A) (xs : List A) → All P (x ∷ xs) → P x
  All-head P x xs all = all 0 x (omega arith)

  pub All-tail : (P : A → Type 0) (x : A) (xs : List A) → All P (x ∷ xs) → All P xs
  All-tail P x xs all = λ k d less. all (suc k) d (omega arith)

  pub All-map : (P Q : A → Type 0) → ((x : A) → P x → Q x) → (xs : List A) → All P xs → All Q xs
  All-map P Q more xs all = λ k d less. more _ (all k d less)

  pub All-one : (P : A → Type 0) (x : A) → P x → All P (x ∷ [])
  All-one P x here zero d less = here
  All-one P x here (suc k) d less = absurd (omega arith)

module _ {E : Type 0} (caller_of : E → ℕ) where
  abbrev by : ℕ → List E → List E
  by = entries_by caller_of

  pub by_append : (c : ℕ) (xs ys : List E) → by c (xs ++ ys) ≡ by c xs ++ by c ys
  by_append c xs ys = filter-append (λ e. caller_of e == c) xs ys

  none_left : (xs ys zs : List E) → (xs ++ ys) ++ zs ≡ xs → ys ≡ []
  none_left xs [] zs e = refl
  none_left xs (y ∷ ys) zs e = let n = ap length e in let l = length-append (xs ++ y ∷ ys) zs in
      let m = length-append xs (y ∷ ys) in absurd (omega arith)

  -- a list between two that have the same entries of a caller has them too
  pub by_between : (c : ℕ) (xs ys zs mine : List E) → IsPrefix xs ys → IsPrefix ys zs
      → by c xs ≡ mine → by c zs ≡ mine → by c ys ≡ mine
  by_between c xs ys zs mine p q low high =
      let front : by c xs ++ by c p.0 ≡ by c ys = sym (by_append c xs p.0) ∙ ap (by c) p.1 in
      let whole : (by c xs ++ by c p.0) ++ by c q.0 ≡ by c xs =
      ap (λ w. w ++ by c q.0) front
      ∙ (sym (by_append c ys q.0) ∙ (ap (by c) q.1 ∙ (high ∙ sym low))) in
      let none : by c p.0 ≡ [] = none_left (by c xs) (by c p.0) (by c q.0) whole in
      sym front ∙ (ap (λ w. by c xs ++ w) none ∙ (append-nil (by c xs) ∙ low))

  by_one_other : (c : ℕ) (e : E) → caller_of e ≢ c → by c (e ∷ []) ≡ []
  by_one_other c e other = grind (arith, nat_tests)

  pub by_other : (c : ℕ) (xs : List E) (e : E) → caller_of e ≢ c → by c (xs ++ e ∷ []) ≡ by c xs
  by_other c xs e other =
      by_append c xs (e ∷ [])
      ∙ (ap (λ w. by c xs ++ w) (by_one_other c e other) ∙ append-nil (by c xs))

  -- a number past all that were given made nothing
  pub by_none : (n : ℕ) (xs : List E) → All (λ e. caller_of e < n) xs → by n xs ≡ []
  by_none n [] all = refl
  by_none n (x ∷ xs) all =
      let here : caller_of x < n = All-head (λ e. caller_of e < n) x xs all in
      by_append n (x ∷ []) xs
      ∙ (ap (λ w. w ++ by n xs) (by_one_other n x (omega arith))
      ∙ by_none n xs (All-tail (λ e. caller_of e < n) x xs all))

module _ {V : Type 0} where
  pub total_set : (f : V → ℕ) (vs : List V) (i : ℕ) (v w : V) → get_elem? vs i ≡ some v
      → total f (set vs i w) + f v ≡ total f vs + f w
  total_set f [] i v w at = absurd (some-ne-none v (sym at))
  total_set f (x ∷ xs) zero v w at = let e : f x ≡ f v = ap f (some-injective x v at) in omega arith
  total_set f (x ∷ xs) (suc i) v w at = let rest = total_set f xs i v w at in omega arith

  pub total_snoc : (f : V → ℕ) (vs : List V) (w : V) → total f (vs ++ w ∷ []) ≡ total f vs + f w
  total_snoc f [] w = omega arith
  total_snoc f (x ∷ xs) w = let rest = total_snoc f xs w in omega arith

  pub total_le : (f g : V → ℕ) → ((v : V) → f v ≤ g v) → (vs : List V) → total f vs ≤ total g vs
  total_le f g le [] = omega arith
  total_le f g le (x ∷ xs) = let rest = total_le f g le xs in let here = le x in omega arith

  pub total_one : (f : V → ℕ) (vs : List V) (i : ℕ) (v : V) → get_elem? vs i ≡ some v
      → f v ≤ total f vs
  total_one f [] i v at = absurd (some-ne-none v (sym at))
  total_one f (x ∷ xs) zero v at = let e : f x ≡ f v = ap f (some-injective x v at) in omega arith
  total_one f (x ∷ xs) (suc i) v at = let rest = total_one f xs i v at in omega arith

  -- two places weigh no more than all
  pub total_two : (f : V → ℕ) (vs : List V) (i j : ℕ) (v w : V) → get_elem? vs i ≡ some v
      → get_elem? vs j ≡ some w → i ≢ j → f v + f w ≤ total f vs
  total_two f [] i j v w at there other = absurd (some-ne-none v (sym at))
  total_two f (x ∷ xs) zero zero v w at there other = absurd (other refl)
  total_two f (x ∷ xs) zero (suc j) v w at there other = let e : f x ≡ f v =
      ap f (some-injective x v at) in let rest = total_one f xs j w there in omega arith
  total_two f (x ∷ xs) (suc i) zero v w at there other = let e : f x ≡ f w =
      ap f (some-injective x w there) in let rest = total_one f xs i v at in omega arith
  total_two f (x ∷ xs) (suc i) (suc j) v w at there other = let rest =
      total_two f xs i j v w at there (λ e. other (ap suc e)) in omega arith

  -- numbers stay apart where one element changes, and its number is the old one or one that no
  -- other has
  pub apart_set : (number : V → Option ℕ) (vs : List V) (i : ℕ) (v w : V) → get_elem? vs i ≡ some v
      → Apart number vs
      → ((n : ℕ) → number w ≡ some n
      → (number v ≡ some n)
      ⊎ ((j : ℕ) (u : V) → j ≢ i → get_elem? vs j ≡ some u → number u ≢ some n))
      → Apart number (set vs i w)
  apart_set number vs i v w at apart new j k a b n ja kb an bn =
      ⊎_elim
      (λ (s : (j ≡ i) × (w ≡ a)). ⊎_elim
      (λ (t : (k ≡ i) × (w ≡ b)). s.0 ∙ sym t.0)
      (λ (t : (k ≢ i) × (get_elem? vs k ≡ some b)). absurd (⊎_elim
      (λ (same : number v ≡ some n). t.0 (sym (apart i k v b n at t.1 same bn)))
      (λ (fresh : (m : ℕ) (u : V) → m ≢ i → get_elem? vs m ≡ some u → number u ≢ some n).
      fresh k b t.0 t.1 bn)
      (new n (ap number s.1 ∙ an))))
      (at_set vs i k w b kb))
      (λ (s : (j ≢ i) × (get_elem? vs j ≡ some a)). ⊎_elim
      (λ (t : (k ≡ i) × (w ≡ b)). absurd (⊎_elim
      (λ (same : number v ≡ some n). s.0 (apart j i a v n s.1 at an same))
      (λ (fresh : (m : ℕ) (u : V) → m ≢ i → get_elem? vs m ≡ some u → number u ≢ some n).
      fresh j a s.0 s.1 an)
      (new n (ap number t.1 ∙ bn))))
      (λ (t : (k ≢ i) × (get_elem? vs k ≡ some b)). apart j k a b n s.1 t.1 an bn)
      (at_set vs i k w b kb))
      (at_set vs i j w a ja)

module _ {A : Type 0} where
  pub All-both : (P Q R : A → Type 0) → ((x : A) → P x → Q x → R x) → (xs : List A) → All P xs
      → All Q xs → All R xs
  All-both P Q R both xs p q = λ k d less. both _ (p k d less) (q k d less)

  pub All-front : (P : A → Type 0) (xs ys : List A) → All P (xs ++ ys) → All P xs
  All-front P [] ys all k d less = absurd (omega arith)
  All-front P (x ∷ xs) ys all zero d less = All-head P x (xs ++ ys) all
  All-front P (x ∷ xs) ys all (suc k) d less =
      All-front P xs ys (All-tail P x (xs ++ ys) all) k d (omega arith)

  -- what holds of each element holds of each of a front
  pub All-prefix : (P : A → Type 0) (xs ys : List A) → IsPrefix xs ys → All P ys → All P xs
  All-prefix P xs ys p all = All-front P xs p.0 (subst (All P) (sym p.1) all)

  pub set_there : (vs : List A) (i : ℕ) (v w : A) → get_elem? vs i ≡ some v
      → get_elem? (set vs i w) i ≡ some w
  set_there [] i v w at = absurd (some-ne-none v (sym at))
  set_there (x ∷ xs) zero v w at = refl
  set_there (x ∷ xs) (suc i) v w at = set_there xs i v w at

  -- where one element changes, what holds of it and of the others holds of each
  pub each_set : (F : A → Type 0) (vs : List A) (i : ℕ) (w : A) → F w
      → ((j : ℕ) (d : A) → j ≢ i → get_elem? vs j ≡ some d → F d)
      → (j : ℕ) (d : A) → get_elem? (set vs i w) j ≡ some d → F d
  each_set F vs i w mine others j d at = ⊎_elim (λ (t : (j ≡ i) × (w ≡ d)). subst F t.1 mine)
      (λ (t : (j ≢ i) × (get_elem? vs j ≡ some d)). others j d t.0 t.1) (at_set vs i j w d at)

  pub only_slot : (hs : List A) (a : A) → length hs ≡ 1 → set hs 0 a ≡ a ∷ []
  only_slot [] a one = absurd (omega arith)
  only_slot (x ∷ []) a one = refl
  only_slot (x ∷ y ∷ xs) a one = absurd (omega arith)

  pub All-none : (P : A → Type 0) → All P []
  All-none P k d less = absurd (omega arith)

  pub only_place : (a : A) (i : ℕ) (b : A) → get_elem? (a ∷ []) i ≡ some b → i ≡ 0
  only_place a zero b at = refl
  only_place a (suc i) b at = absurd (some-ne-none b (sym at))

  pub only_view : (a : A) (i : ℕ) (b : A) → get_elem? (a ∷ []) i ≡ some b → a ≡ b
  only_view a zero b at = some-injective a b at
  only_view a (suc i) b at = absurd (some-ne-none b (sym at))

  -- what stands in a list with one element more
  pub at_end : (vs : List A) (j : ℕ) (w d : A) → get_elem? (vs ++ w ∷ []) j ≡ some d
      → (get_elem? vs j ≡ some d) ⊎ ((j ≡ length vs) × (w ≡ d))
  at_end [] zero w d at = inr (refl, some-injective w d at)
  at_end [] (suc j) w d at = absurd (some-ne-none d (sym at))
  at_end (x ∷ xs) zero w d at = inl at
  at_end (x ∷ xs) (suc j) w d at =
      ⊎_elim (λ (old : get_elem? xs j ≡ some d). inl old)
      (λ (t : (j ≡ length xs) × (w ≡ d)). inr (ap suc t.0, t.1)) (at_end xs j w d at)

  pub each_snoc : (F : A → Type 0) (vs : List A) (w : A)
      → ((j : ℕ) (d : A) → get_elem? vs j ≡ some d → F d) → F w → (j : ℕ) (d : A)
      → get_elem? (vs ++ w ∷ []) j ≡ some d → F d
  each_snoc F vs w old new j d at =
      ⊎_elim (λ (there : get_elem? vs j ≡ some d). old j d there)
      (λ (t : (j ≡ length vs) × (w ≡ d)). subst F t.1 new) (at_end vs j w d at)

  -- numbers stay apart where an element comes whose number no other has
  pub apart_snoc : (number : A → Option ℕ) (vs : List A) (w : A) → Apart number vs
      → ((n : ℕ) → number w ≡ some n → (j : ℕ) (u : A) → get_elem? vs j ≡ some u
      → number u ≢ some n) → Apart number (vs ++ w ∷ [])
  apart_snoc number vs w apart fresh i j a b n ia jb an bn =
      ⊎_elim
      (λ (s : get_elem? vs i ≡ some a). ⊎_elim
      (λ (t : get_elem? vs j ≡ some b). apart i j a b n s t an bn)
      (λ (t : (j ≡ length vs) × (w ≡ b)). absurd (fresh n (ap number t.1 ∙ bn) i a s an))
      (at_end vs j w b jb))
      (λ (s : (i ≡ length vs) × (w ≡ a)). ⊎_elim
      (λ (t : get_elem? vs j ≡ some b). absurd (fresh n (ap number s.1 ∙ an) j b t bn))
      (λ (t : (j ≡ length vs) × (w ≡ b)). s.0 ∙ sym t.0)
      (at_end vs j w b jb))
      (at_end vs i w a ia)
