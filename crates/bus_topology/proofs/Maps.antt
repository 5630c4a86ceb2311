-- The map of islands, as ties are taken in turn.
use Rattle.std.proofs.Common.{◌≡◌, ◌≢◌, ◌∙◌, ℕ, ◌+◌, ◌<◌, ◌≤◌, ◌⊎◌, min, max, Bool, true, false}
use Rattle.std.proofs.Common.{List, length, map, get_or, slice_get, Option, Some, None, IsSomeAnd}
use Rattle.std.proofs.Common.{inl, inr, refl, sym, ap, subst, arith}
use Rattle.std.proofs.Math.ListN.{get_or-map}
use Rattle.std.proofs.lemmas.Bool.{cases_lt, cases_eq}
use Rattle.std.proofs.lemmas.Bool.Decides.{nat_tests}
use Rattle.std.proofs.lemmas.List.{get_or_default, length-map}
use Rattle.std.proofs.lemmas.Option.{none-some, same_Some, slice_get_within}
use Rattle.plant_model.specs.declared.limits.TheConstants.{MOST_SECTIONS}
use Rattle.plant_model.specs.declared.parts.Tie.{Tie}
use Rattle.plant_model.specs.declared.plant.Parts.{Parts}
use Rattle.plant_model.specs.declared.status.Standing.{Standing}
use Rattle.bus_topology.specs.Islands.{IsLive, HasEnds, Joins, AreConnected, IsIslandMap}
use Rattle.bus_topology.specs.Islands.{IsMapSoFar, exchanged}
use Rattle.bus_topology.proofs.Connections.{connected_from_joined, AreConnected-sym}
use Rattle.bus_topology.proofs.Connections.{AreConnected-trans, live_from_connected}
use Rattle.bus_topology.proofs.Connections.{same_for_connected}

live_cases : (p : Parts) (s : Standing) (n : ℕ) (kept : Option Bool) → slice_get s.live n ≡ kept →
    (n < length p.sections.items) ⊎ (length p.sections.items ≤ n) → IsLive p s n ⊎ ¬ IsLive p s n
live_cases p s n (Some true) is (inl there) = inl (record { there = there; kept = is })
live_cases p s n (Some false) is there = inr (λ live. let e = sym is ∙ live.kept in cc)
live_cases p s n None is there = inr (λ live. none-some true (sym is ∙ live.kept))
live_cases p s n kept is (inr past) = inr (λ live. let there = live.there in omega arith)

some_tie : (P : Tie → Type 0) (tie : Option Tie) → IsSomeAnd tie P → (t : Tie) × (tie ≡ Some t)
    × P t
some_tie P (Some t) h = (t, refl, h)
some_tie P None h = elim h [ ]

-- the exchanged number at a place
get_or-exchanged : (old new : ℕ) (of : List ℕ) (n : ℕ) → n < length of →
    get_or (map (exchanged old new) of) n 0 ≡ exchanged old new (get_or of n 0)
get_or-exchanged old new of n within =
    get_or_default (map (exchanged old new) of) n 0 (exchanged old new 0) (rw length-map within)
    ∙ get_or-map (exchanged old new) of n 0

exchanged_at : (old new n : ℕ) → n ≡ old → exchanged old new n ≡ new
exchanged_at old new n is = grind (arith, nat_tests)

exchanged_other : (old new n : ℕ) → n ≢ old → exchanged old new n ≡ n
exchanged_other old new n is = grind (arith, nat_tests)

-- the greater of two numbers is exchanged for the lesser, so both become the lesser
lesser_for_first : (a b : ℕ) → exchanged (max a b) (min a b) a ≡ min a b
lesser_for_first a b = grind (arith, nat_tests)

lesser_for_second : (a b : ℕ) → exchanged (max a b) (min a b) b ≡ min a b
lesser_for_second a b = grind (arith, nat_tests)

module _ (p : Parts) (s : Standing) where
  -- a section is live, or it isn't
  pub live_or_not : (n : ℕ) → IsLive p s n ⊎ ¬ IsLive p s n
  live_or_not n = live_cases p s n (slice_get s.live n) refl (cases_lt n (length p.sections.items))

  -- the tie that joins two sections
  tie_of : (place a b : ℕ) → Joins p s place a b →
      (tie : Tie) × (slice_get p.ties.items place ≡ Some tie) × HasEnds a b tie
  tie_of place a b j = some_tie (HasEnds a b) (slice_get p.ties.items place) j.ends

  -- a tie that is closed between live sections joins them
  pub joins_its_ends : (place : ℕ) (tie : Tie) → slice_get p.ties.items place ≡ Some tie →
      slice_get s.closed place ≡ Some true → IsLive p s tie.first → IsLive p s tie.second →
      Joins p s place tie.first tie.second
  joins_its_ends place tie is closed first second = record {
    ends = subst (λ o. IsSomeAnd o (HasEnds tie.first tie.second)) (sym is) (inl (refl, refl));
    closed = closed;
    first = first;
    second = second;
  }

  live_at_ends : (tie : Tie) (a b : ℕ) → HasEnds a b tie → IsLive p s a → IsLive p s b →
      IsLive p s tie.first × IsLive p s tie.second
  live_at_ends tie a b (inl ends) a_live b_live =
      (subst (IsLive p s) (sym ends.0) a_live, subst (IsLive p s) (sym ends.1) b_live)
  live_at_ends tie a b (inr ends) a_live b_live =
      (subst (IsLive p s) (sym ends.0) b_live, subst (IsLive p s) (sym ends.1) a_live)

  -- a tie that joins any sections has its two ends live
  pub live_ends : (place : ℕ) (tie : Tie) (a b : ℕ) → slice_get p.ties.items place ≡ Some tie →
      Joins p s place a b → IsLive p s tie.first × IsLive p s tie.second
  live_ends place tie a b is j =
      let other = tie_of place a b j in
      live_at_ends tie a b (subst (HasEnds a b) (sym (same_Some _ _ (sym is ∙ other.1))) other.2)
      j.first j.second

  place_within : (place a b : ℕ) → Joins p s place a b → place < length p.ties.items
  place_within place a b j = let tie = tie_of place a b j in
      slice_get_within p.ties.items place tie.0 tie.1

  -- when all ties are taken, each section has its island's number
  pub map_when_taken : (of : List ℕ) → IsMapSoFar p s (length p.ties.items) of → IsIslandMap p s of
  map_when_taken of m = record {
    place = m.place;
    live = λ section live. record {
      connected = m.connected section live;
      least = λ other h.
          (let same : get_or of section 0 ≡ get_or of other 0 =
          same_for_connected p s (λ n. get_or of n 0)
          (λ a b j. m.merged j.0 a b (place_within j.0 a b j.1) j.1) section other h in
          let low : get_or of other 0 ≤ other =
          m.low other
          (live_from_connected p s other section (AreConnected-sym p s section other h)) in
          omega arith);
    };
    other = m.other;
  }

  -- the first so many ties and one more
  merged_more : (of : List ℕ) (taken : ℕ) →
      ((place a b : ℕ) → place < taken → Joins p s place a b → get_or of a 0 ≡ get_or of b 0) →
      ((a b : ℕ) → Joins p s taken a b → get_or of a 0 ≡ get_or of b 0) → (place a b : ℕ) →
      place < taken + 1 → Joins p s place a b → get_or of a 0 ≡ get_or of b 0
  merged_more of taken before here place a b below j =
      elim (cases_eq place taken) [
        | inl is ↦ here a b (subst (λ n. Joins p s n a b) is j)
        | inr is ↦ before place a b (omega arith) j
      ]

  -- a tie that joins no sections of different numbers changes nothing
  pub map_kept : (of : List ℕ) (taken : ℕ) → IsMapSoFar p s taken of →
      ((a b : ℕ) → Joins p s taken a b → get_or of a 0 ≡ get_or of b 0) →
      IsMapSoFar p s (taken + 1) of
  map_kept of taken m here = record {
    place = m.place;
    connected = m.connected;
    low = m.low;
    other = m.other;
    merged = merged_more of taken m.merged here;
  }

  -- a place whose number is that of an island has a live section
  live_from_number : (of : List ℕ) (taken n : ℕ) → IsMapSoFar p s taken of → n < MOST_SECTIONS →
      get_or of n 0 ≢ MOST_SECTIONS → IsLive p s n
  live_from_number of taken n m within some =
      elim (live_or_not n) [ inl live ↦ live | inr dead ↦ absurd (some (m.other n within dead)) ]

  -- the two ends are a tie's, in either order
  same_for_ends : (f : ℕ → ℕ) (tie : Tie) (a b : ℕ) → HasEnds a b tie → f tie.first ≡ f tie.second →
      f a ≡ f b
  same_for_ends f tie a b (inl ends) same = ap f (sym ends.0) ∙ same ∙ ap f ends.1
  same_for_ends f tie a b (inr ends) same = ap f (sym ends.1) ∙ sym same ∙ ap f ends.0

-- the map when the tie has merged the islands of its sections
abbrev pub merged_map : List ℕ → Tie → List ℕ
merged_map of tie =
    let first = get_or of tie.first 0 in
    let second = get_or of tie.second 0 in
    map (exchanged (max first second) (min first second)) of

greater_and_lesser : (R : ℕ → ℕ → Type 0) (a b : ℕ) → R a b → R b a → R (max a b) (min a b)
greater_and_lesser R a b there back =
    elim (cases_lt a b) [
      | inl below ↦
          (let greater : max a b ≡ b = omega arith in
          let lesser : min a b ≡ a = omega arith in
          rw (greater, lesser) back)
      | inr above ↦
          (let greater : max a b ≡ a = omega arith in
          let lesser : min a b ≡ b = omega arith in
          rw (greater, lesser) there)
    ]

-- a tie that joins its two sections merges their islands
module _ (p : Parts) (s : Standing) (of : List ℕ) (taken : ℕ) (tie : Tie)
    (long : length of ≡ MOST_SECTIONS) (m : IsMapSoFar p s taken of)
    (is_tie : slice_get p.ties.items taken ≡ Some tie)
    (j : Joins p s taken tie.first tie.second) where
  merged_at : (n : ℕ) → n < MOST_SECTIONS →
      get_or (merged_map of tie) n 0 ≡ exchanged
      (max (get_or of tie.first 0) (get_or of tie.second 0))
      (min (get_or of tie.first 0) (get_or of tie.second 0)) (get_or of n 0)
  merged_at n within = get_or-exchanged _ _ of n (omega arith)

  live_within : (n : ℕ) → IsLive p s n → n < MOST_SECTIONS
  live_within n live = let within = m.place n live in omega arith

  numbers_connected : AreConnected p s (get_or of tie.first 0) (get_or of tie.second 0)
  numbers_connected =
      AreConnected-trans p s _ tie.first _
      (AreConnected-sym p s tie.first _ (m.connected tie.first j.first))
      (AreConnected-trans p s tie.first tie.second _
      (connected_from_joined p s tie.first tie.second (taken, j))
      (m.connected tie.second j.second))

  merged_connected : (n : ℕ) → IsLive p s n → AreConnected p s n (get_or (merged_map of tie) n 0)
  merged_connected n live =
      let first = get_or of tie.first 0 in
      let second = get_or of tie.second 0 in
      elim (cases_eq (get_or of n 0) (max first second)) [
        | inl is ↦
            (let back =
            greater_and_lesser (AreConnected p s) first second numbers_connected
            (AreConnected-sym p s first second numbers_connected) in
            let to_greater = subst (AreConnected p s n) is (m.connected n live) in
            subst (AreConnected p s n)
            (sym (merged_at n (live_within n live) ∙ exchanged_at _ _ _ is))
            (AreConnected-trans p s n _ _ to_greater back))
        | inr is ↦
            subst (AreConnected p s n)
            (sym (merged_at n (live_within n live) ∙ exchanged_other _ _ _ is))
            (m.connected n live)
      ]

  merged_low : (n : ℕ) → IsLive p s n → get_or (merged_map of tie) n 0 ≤ n
  merged_low n live =
      let low = m.low n live in
      elim (cases_eq (get_or of n 0) (max (get_or of tie.first 0) (get_or of tie.second 0))) [
        | inl is ↦ rw (merged_at n (live_within n live) ∙ exchanged_at _ _ _ is) (omega arith)
        | inr is ↦ rw (merged_at n (live_within n live) ∙ exchanged_other _ _ _ is) low
      ]

  merged_other : (n : ℕ) → n < MOST_SECTIONS → ¬ IsLive p s n →
      get_or (merged_map of tie) n 0 ≡ MOST_SECTIONS
  merged_other n within dead =
      let none = m.other n within dead in
      let first_low = m.low tie.first j.first in
      let second_low = m.low tie.second j.second in
      let first_within = live_within tie.first j.first in
      let second_within = live_within tie.second j.second in
      merged_at n within ∙ exchanged_other _ _ _ (omega arith) ∙ none

  same_after : (a b : ℕ) → IsLive p s a → IsLive p s b → get_or of a 0 ≡ get_or of b 0 →
      get_or (merged_map of tie) a 0 ≡ get_or (merged_map of tie) b 0
  same_after a b a_live b_live same =
      merged_at a (live_within a a_live) ∙ ap (exchanged _ _) same
      ∙ sym (merged_at b (live_within b b_live))

  ends_same : (a b : ℕ) → Joins p s taken a b →
      get_or (merged_map of tie) a 0 ≡ get_or (merged_map of tie) b 0
  ends_same a b k =
      let other = tie_of p s taken a b k in
      let is = same_Some _ _ (sym is_tie ∙ other.1) in
      let first = get_or of tie.first 0 in
      let second = get_or of tie.second 0 in
      same_for_ends p s (λ n. get_or (merged_map of tie) n 0) tie a b
      (subst (HasEnds a b) (sym is) other.2)
      (merged_at tie.first (live_within tie.first j.first) ∙ lesser_for_first first second
      ∙ sym (lesser_for_second first second)
      ∙ sym (merged_at tie.second (live_within tie.second j.second)))

  pub map_merged : IsMapSoFar p s (taken + 1) (merged_map of tie)
  map_merged = record {
    place = λ n live. rw length-map (m.place n live);
    connected = merged_connected;
    low = merged_low;
    other = merged_other;
    merged = merged_more p s (merged_map of tie) taken
        (λ place a b below k. same_after a b k.first k.second (m.merged place a b below k))
        ends_same;
  }
