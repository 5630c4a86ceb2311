-- Ties lead from one section to another exactly where the two are connected, so the share is that
-- of connected sections.
use Rattle.std.proofs.Common.{◌≡◌, ◌∙◌, ℕ, zero, suc, ◌<◌, List, [], ◌∷◌, length, get_or, Bool}
use Rattle.std.proofs.Common.{true, false, cond, ◌&&◌, ◌||◌, ◌==◌, Option, Some, None, slice_get}
use Rattle.std.proofs.Common.{IsSomeAnd, inl, inr, refl, sym, ap, subst, arith}
use Rattle.std.specs.Prelude.{nat_lt}
use Rattle.std.specs.List.{list_any, zip}
use Rattle.std.proofs.lemmas.Bool.{false≢true, and_from, and_parts, cases_eq, eq-eqb}
use Rattle.std.proofs.lemmas.Bool.{eqb-true}
use Rattle.std.proofs.lemmas.Bool.{lt-ltb, ltb-true, or_cases, or_left, or_right}
use Rattle.std.proofs.lemmas.Option.{get_or_from_slice_get, none-some}
use Rattle.plant_model.specs.declared.parts.Tie.{Tie}
use Rattle.plant_model.specs.declared.plant.Parts.{Parts}
use Rattle.plant_model.specs.declared.status.Standing.{Standing}
use Rattle.bus_topology.specs.Islands.{AreConnected, AreJoined, HasEnds, IsLive}
use Rattle.bus_topology.specs.Shares.{IsShare, TestsConnection, share_on}
use Rattle.bus_topology.proofs.Connections.{AreConnected-trans, connected_from_joined}
use Rattle.bus_topology.proofs.Connections.{connected_with_itself, live_from_connected}
use Rattle.bus_topology.proofs.Connections.{same_for_connected}
use Rattle.redundancy_groups.specs.Connections.{are_joined, is_closed_between, is_live, leads}
use Rattle.redundancy_groups.specs.Connections.{leads_to}
use Rattle.redundancy_groups.specs.Surviving.{share_at}

kept_from : (xs : List Bool) (n : ℕ) → get_or xs n false ≡ true → slice_get xs n ≡ Some true
kept_from [] n h = absurd (false≢true h)
kept_from (x ∷ xs) zero h = ap Some h
kept_from (x ∷ xs) (suc n) h = kept_from xs n h

-- ---- ties with two ends

ends_from : (a b : ℕ) (t : Tie) →
    (t.first == a && t.second == b || t.first == b && t.second == a) ≡ true → HasEnds a b t
ends_from a b t h =
    elim (or_cases (t.first == a && t.second == b) (t.first == b && t.second == a) h) [
      | inl one ↦
          (let ends = and_parts (t.first == a) (t.second == b) one in
          inl (eqb-true t.first a ends.0, eqb-true t.second b ends.1))
      | inr other ↦
          (let ends = and_parts (t.first == b) (t.second == a) other in
          inr (eqb-true t.first b ends.0, eqb-true t.second a ends.1))
    ]

ends_test : (a b : ℕ) (t : Tie) → HasEnds a b t →
    (t.first == a && t.second == b || t.first == b && t.second == a) ≡ true
ends_test a b t (inl ends) =
    or_left _ _ (and_from _ _ (eq-eqb t.first a ends.0) (eq-eqb t.second b ends.1))
ends_test a b t (inr ends) =
    or_right _ _ (and_from _ _ (eq-eqb t.first b ends.0) (eq-eqb t.second a ends.1))

-- the tie at a place is closed and has these ends
abbrev pub IsClosedAt : ℕ → ℕ → List Tie → List Bool → ℕ → Type 0
IsClosedAt a b ties closed place = IsSomeAnd (slice_get ties place) (HasEnds a b)
    × (slice_get closed place ≡ Some true)

some_closed : (a b : ℕ) (ties : List Tie) (closed : List Bool) →
    list_any (is_closed_between a b) (zip ties closed) ≡ true →
    (place : ℕ) × IsClosedAt a b ties closed place
some_closed a b [] closed h = absurd (false≢true h)
some_closed a b (t ∷ ts) [] h = absurd (false≢true h)
some_closed a b (t ∷ ts) (c ∷ cs) h =
    elim (or_cases (is_closed_between a b (t, c))
    (list_any (is_closed_between a b) (zip ts cs)) h) [
      | inl here ↦ (let both = and_parts c _ here in (0, (ends_from a b t both.1, ap Some both.0)))
      | inr later ↦ (let rest = some_closed a b ts cs later in (suc rest.0, rest.1))
    ]

closed_test : (a b : ℕ) (ties : List Tie) (closed : List Bool) (place : ℕ) →
    IsClosedAt a b ties closed place → list_any (is_closed_between a b) (zip ties closed) ≡ true
closed_test a b [] closed place h = absurd h.0
closed_test a b (t ∷ ts) [] place h = absurd (none-some true h.1)
closed_test a b (t ∷ ts) (c ∷ cs) zero h =
    or_left _ _
    (and_from c _ (get_or_from_slice_get (c ∷ cs) 0 true false h.1) (ends_test a b t h.0))
closed_test a b (t ∷ ts) (c ∷ cs) (suc place) h = or_right _ _ (closed_test a b ts cs place h)

ends_turned : (a b : ℕ) (tie : Option Tie) → IsSomeAnd tie (HasEnds a b) →
    IsSomeAnd tie (HasEnds b a)
ends_turned a b None ends = ends
ends_turned a b (Some tie) (inl ends) = inr ends
ends_turned a b (Some tie) (inr ends) = inl ends

same_test : (x y : Bool) → (x ≡ true → y ≡ true) → (y ≡ true → x ≡ true) → x ≡ y
same_test true y there back = sym (there refl)
same_test false true there back = back refl
same_test false false there back = refl

abbrev as_number : Bool → ℕ
as_number b = cond b 1 0

true_number : (b : Bool) → 1 ≡ as_number b → b ≡ true
true_number true h = refl
true_number false h = absurd (omega arith)

module _ (p : Parts) (s : Standing) where
  live_from : (n : ℕ) → is_live p s n ≡ true → IsLive p s n
  live_from n h =
      let both = and_parts (nat_lt n (length p.sections.items)) (get_or s.live n false) h in
      record {
        there = ltb-true n (length p.sections.items) both.0;
        kept = kept_from s.live n both.1;
      }

  live_test : (n : ℕ) → IsLive p s n → is_live p s n ≡ true
  live_test n live =
      and_from _ _ (lt-ltb n (length p.sections.items) live.there)
      (get_or_from_slice_get s.live n true false live.kept)

  joined_from : (a b : ℕ) → are_joined p s a b ≡ true → AreJoined p s a b
  joined_from a b h =
      let any = list_any (is_closed_between a b) (zip p.ties.items s.closed) in
      let parts = and_parts (is_live p s a && is_live p s b) any h in
      let live = and_parts (is_live p s a) (is_live p s b) parts.0 in
      let at = some_closed a b p.ties.items s.closed parts.1 in (
        at.0,
        record {
          ends = at.1.0;
          closed = at.1.1;
          first = live_from a live.0;
          second = live_from b live.1;
        },
      )

  joined_test : (a b : ℕ) → AreJoined p s a b → are_joined p s a b ≡ true
  joined_test a b j =
      and_from _ _ (and_from _ _ (live_test a j.1.first) (live_test b j.1.second))
      (closed_test a b p.ties.items s.closed j.0 (j.1.ends, j.1.closed))

  joined_turned : (a b : ℕ) → AreJoined p s a b → AreJoined p s b a
  joined_turned a b j = (
    j.0,
    record {
      ends = ends_turned a b _ j.1.ends;
      closed = j.1.closed;
      first = j.1.second;
      second = j.1.first;
    },
  )

  -- ---- ways along ties

  connected_from : (n a b : ℕ) → leads p s n a b ≡ true → AreConnected p s a b
  connected_from zero a b h = elim (or_cases (a == b && is_live p s a) (are_joined p s a b) h) [
    | inl same ↦
        (let both = and_parts (a == b) (is_live p s a) same in
        subst (AreConnected p s a) (eqb-true a b both.0)
        (connected_with_itself p s a (live_from a both.1)))
    | inr joined ↦ connected_from_joined p s a b (joined_from a b joined)
  ]
  connected_from (suc n) a b h =
      elim (or_cases (leads p s n a b) (leads p s n a n && leads p s n n b) h) [
        | inl fewer ↦ connected_from n a b fewer
        | inr through ↦
            (let both = and_parts (leads p s n a n) (leads p s n n b) through in
            AreConnected-trans p s a n b (connected_from n a n both.0)
            (connected_from n n b both.1))
      ]

  leads_straight : (n a b : ℕ) → leads p s zero a b ≡ true → leads p s n a b ≡ true
  leads_straight zero a b h = h
  leads_straight (suc n) a b h = or_left _ _ (leads_straight n a b h)

  leads_to_last : (n a : ℕ) → leads p s (suc n) a n ≡ true → leads p s n a n ≡ true
  leads_to_last n a h = elim (or_cases (leads p s n a n) (leads p s n a n && leads p s n n n) h) [
    | inl fewer ↦ fewer
    | inr through ↦ (let both = and_parts (leads p s n a n) (leads p s n n n) through in both.0)
  ]

  leads_from_last : (n b : ℕ) → leads p s (suc n) n b ≡ true → leads p s n n b ≡ true
  leads_from_last n b h = elim (or_cases (leads p s n n b) (leads p s n n n && leads p s n n b) h) [
    | inl fewer ↦ fewer
    | inr through ↦ (let both = and_parts (leads p s n n n) (leads p s n n b) through in both.1)
  ]

  -- a way to a section among the first so many, and one on from it, are a way
  leads_through : (n a c b : ℕ) → c < n → leads p s n a c ≡ true → leads p s n c b ≡ true →
      leads p s n a b ≡ true
  leads_through zero a c b below h k = absurd (omega arith)
  leads_through (suc n) a c b below h k = elim (cases_eq c n) [
    | inl last ↦
        or_right _ _ (and_from _ _
        (leads_to_last n a (subst (λ (x : ℕ). leads p s (suc n) a x ≡ true) last h))
        (leads_from_last n b (subst (λ (x : ℕ). leads p s (suc n) x b ≡ true) last k)))
    | inr other ↦
        (let inner : c < n = omega arith in
        elim (or_cases (leads p s n a c) (leads p s n a n && leads p s n n c) h) [
          | inl before ↦ elim (or_cases (leads p s n c b) (leads p s n c n && leads p s n n b) k) [
            | inl after ↦ or_left _ _ (leads_through n a c b inner before after)
            | inr after ↦
                (let both = and_parts (leads p s n c n) (leads p s n n b) after in
                or_right _ _ (and_from _ _ (leads_through n a c n inner before both.0) both.1))
          ]
          | inr before ↦
              (let first = and_parts (leads p s n a n) (leads p s n n c) before in
              elim (or_cases (leads p s n c b) (leads p s n c n && leads p s n n b) k) [
                | inl after ↦
                    or_right _ _ (and_from _ _ first.0 (leads_through n n c b inner first.1 after))
                | inr after ↦
                    (let both = and_parts (leads p s n c n) (leads p s n n b) after in
                    or_right _ _ (and_from _ _ first.0 both.1))
              ])
        ])
  ]

  leads_on : (a c d : ℕ) → AreJoined p s c d → leads_to p s a c ≡ true → leads_to p s a d ≡ true
  leads_on a c d j h =
      leads_through (length p.sections.items) a c d j.1.first.there h
      (leads_straight (length p.sections.items) c d (or_right _ _ (joined_test c d j)))

  leads_alike : (a c d : ℕ) → AreJoined p s c d → leads_to p s a c ≡ leads_to p s a d
  leads_alike a c d j = same_test _ _ (leads_on a c d j) (leads_on a d c (joined_turned c d j))

  connected_test : (a b : ℕ) → AreConnected p s a b → leads_to p s a b ≡ true
  connected_test a b h =
      let live = live_from_connected p s a b h in
      let own : leads_to p s a a ≡ true =
      leads_straight (length p.sections.items) a a
      (or_left _ _ (and_from _ _ (eq-eqb a a refl) (live_test a live))) in
      let same =
      same_for_connected p s (λ n. as_number (leads_to p s a n))
      (λ c d j. ap as_number (leads_alike a c d j)) a b h in
      true_number (leads_to p s a b) (ap as_number (sym own) ∙ same)

  -- the test passes exactly the connected sections
  pub leads_tests : (a : ℕ) → TestsConnection p s a (leads_to p s a)
  leads_tests a b =
      (λ passes. connected_from (length p.sections.items) a b passes, λ h. connected_test a b h)

  -- so the share is the one of the definition
  pub share_is : (section share : ℕ) → IsShare p s section share → share ≡ share_at p s section
  share_is section share h =
      let same : (n : ℕ) → h.0 n ≡ leads_to p s section n =
      λ n. same_test _ _ (λ passes. connected_test section n ((h.1 n).0 passes))
      (λ passes. (h.1 n).1 (connected_from (length p.sections.items) section n passes)) in
      let tests : h.0 ≡ leads_to p s section = λ i. λ n. same n i in
      h.2 ∙ ap (share_on p s) tests
