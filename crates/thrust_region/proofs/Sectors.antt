-- Which runs there are: from each end of a sector to the next place at which one begins, which
-- comes before the next end.
use Rattle.std.proofs.Common.{◌≡◌, ◌∙◌, ap, sym, refl, inl, inr, ℕ, zero, suc, ◌+◌, ◌-◌, ◌%◌, ◌<◌}
use Rattle.std.proofs.Common.{◌≤◌, ◌≢◌, List, [], ◌∷◌, length, Bool, true, false, cond, ◌==◌, ◌&&◌}
use Rattle.std.proofs.Common.{◌||◌, ◌⊎◌, arith}
use Rattle.std.proofs.Math.Dec.{leb, ltb, eqb}
use Rattle.std.proofs.Math.Nat.{add-mod_right, mod-eq_of_lt}
use Rattle.std.proofs.lemmas.Bool.{and_from, and_parts, eq-eqb, eqb-true, lt-ltb, ltb-true}
use Rattle.std.proofs.lemmas.Bool.Decides.{nat_tests}
use Rattle.std.proofs.lemmas.List.Sums.{sum_by-cons}
use Rattle.std.specs.Prelude.{count_by}
use Rattle.std.specs.List.{list_all, list_any, range_with_len}
use Rattle.plant_model.specs.declared.thrust.Sector.{Sector}
use Rattle.plant_model.specs.Rings.{are_sectors, edges_between, is_covered_by, is_sector}
use Rattle.plant_model.specs.Rings.{place_after, places}
use Rattle.thrust_region.proofs.Runs.{after_inner, after_last, begins_at, ends_at, walk}

-- ---- an element of a list, by what tests say of it

pub record IsOneOf {A : Type 0} (xs : List A) (x : A) : Type 0 where
  pub all : (test : A → Bool) → list_all test xs ≡ true → test x ≡ true
  pub any : (test : A → Bool) → test x ≡ true → list_any test xs ≡ true

here : {A : Type 0} (x : A) (xs : List A) → IsOneOf (x ∷ xs) x
here x xs = record {
  all = λ test h. (and_parts (test x) (list_all test xs) h).0;
  any = λ test h. rw h refl;
}

later : {A : Type 0} (x y : A) (xs : List A) → IsOneOf xs y → IsOneOf (x ∷ xs) y
later x y xs one = record {
  all = λ test h. one.all test (and_parts (test x) (list_all test xs) h).1;
  any = λ test h. either (test x) (list_any test xs) (one.any test h);
}
  where
    either : (a b : Bool) → b ≡ true → (a || b) ≡ true
    either true b h = refl
    either false b h = h

pub found : {A : Type 0} (test : A → Bool) (xs : List A) → list_any test xs ≡ true → (x : A)
    × (test x ≡ true) × IsOneOf xs x
found test [] h = cc
found {A} test (x ∷ xs) h = by_test (test x) refl h (found test xs)
  where
    by_test : (b : Bool) → test x ≡ b → (b || list_any test xs) ≡ true
        → (list_any test xs ≡ true → (y : A) × (test y ≡ true) × IsOneOf xs y) → (y : A)
        × (test y ≡ true) × IsOneOf (x ∷ xs) y
    by_test true is h others = (x, is, here x xs)
    by_test false is h others = let o = others h in (o.0, o.1, later x o.0 xs o.2)

count_one : {A : Type 0} (q b : A → Bool) (xs : List A) → ((x : A) → q x ≡ true → b x ≡ true)
    → list_any q xs ≡ true → 1 ≤ count_by b xs
count_one q b [] each h = cc
count_one {A} q b (x ∷ xs) each h =
    rw (sum_by-cons (λ (y : A). cond (b y) 1 0) x xs)
    (by_test (q x) (b x) (each x) h (count_one q b xs each))
  where
    by_test : (p r : Bool) → (p ≡ true → r ≡ true) → (p || list_any q xs) ≡ true
        → (list_any q xs ≡ true → 1 ≤ count_by b xs) → 1 ≤ cond r 1 0 + count_by b xs
    by_test p true each h others = omega arith
    by_test true false each h others = cc (each refl)
    by_test false false each h others = let o = others h in omega arith

-- two elements that differ are two
pub count_two : {A : Type 0} (q r b : A → Bool) (xs : List A) → ((x : A) → q x ≡ true → b x ≡ true)
    → ((x : A) → r x ≡ true → b x ≡ true) → ((x : A) → q x ≡ true → r x ≡ true → ⊥) →
    list_any q xs ≡ true → list_any r xs ≡ true → 2 ≤ count_by b xs
count_two q r b [] each each_r apart h k = cc
count_two {A} q r b (x ∷ xs) each each_r apart h k =
    rw (sum_by-cons (λ (y : A). cond (b y) 1 0) x xs)
    (by_test (q x) (r x) (b x) (each x) (each_r x) (apart x) h k (count_one q b xs each)
    (count_one r b xs each_r) (count_two q r b xs each each_r apart))
  where
    by_test : (p s t : Bool) → (p ≡ true → t ≡ true) → (s ≡ true → t ≡ true)
        → (p ≡ true → s ≡ true → ⊥) → (p || list_any q xs) ≡ true → (s || list_any r xs) ≡ true →
        (list_any q xs ≡ true → 1 ≤ count_by b xs) → (list_any r xs ≡ true → 1 ≤ count_by b xs)
        → (list_any q xs ≡ true → list_any r xs ≡ true → 2 ≤ count_by b xs) →
        2 ≤ cond t 1 0 + count_by b xs
    by_test true true t e f apart h k a b both = absurd (apart refl refl)
    by_test true false true e f apart h k a b both = let o = b k in omega arith
    by_test true false false e f apart h k a b both = cc (e refl)
    by_test false true true e f apart h k a b both = let o = a h in omega arith
    by_test false true false e f apart h k a b both = cc (f refl)
    by_test false false t e f apart h k a b both = let o = both h k in omega arith

pub all-range : (test : ℕ → Bool) (a n i : ℕ) → list_all test (range_with_len a n) ≡ true → a ≤ i
    → i < a + n → test i ≡ true
all-range test a zero i h low high = absurd (omega arith)
all-range test a (suc n) i h low high =
    let parts = and_parts (test a) (list_all test (range_with_len (a + 1) n)) h in
    by_test (eqb a i) refl parts.0
    (λ (k : a + 1 ≤ i). all-range test (a + 1) n i parts.1 k (omega arith))
  where
    by_test : (b : Bool) → eqb a i ≡ b → test a ≡ true → (a + 1 ≤ i → test i ≡ true) → test i ≡ true
    by_test true same first others = rw (← eqb-true a i same) first
    by_test false other first others = others (grind (arith, nat_tests))

-- ---- edges between places

abbrev pub EdgesAre : ℕ → ℕ → ℕ → Type 0
EdgesAre n from to = ((from ≤ to) × (edges_between n from to + from ≡ to))
    ⊎ ((to < from) × (edges_between n from to + from ≡ to + n))

pub edges_are : (n from to : ℕ) → from < n → to < n → EdgesAre n from to
edges_are n from to there here = by_test (ltb to from) refl
  where
    by_test : (b : Bool) → ltb to from ≡ b → EdgesAre n from to
    by_test true below =
        let less : to < from = ltb-true to from below in
        let is : edges_between n from to ≡ to + n - from = mod-eq_of_lt (omega arith) in
        inr (less, omega arith)
    by_test false above =
        let more : from ≤ to = grind (arith, nat_tests) in
        let sum : to + n - from ≡ (to - from) + n = omega arith in
        let is : edges_between n from to ≡ to - from = ap (λ (k : ℕ). k % n) sum
        ∙ add-mod_right (to - from) n ∙ mod-eq_of_lt (omega arith) in
        inl (more, omega arith)

-- ---- how long a walk is

-- a walk is no longer than to a place at which it stops
pub walk_length : (stops : ℕ → Bool) (n steps more place last : ℕ) → steps < more → place < n
    → last < n → (place + steps ≡ last) ⊎ (place + steps ≡ last + n) → stops last ≡ true
    → length (walk stops n more place) ≤ steps + 1
walk_length stops n steps zero place last fits there end at stop = absurd (omega arith)
walk_length stops n zero (suc more) place last fits there end at stop =
    let same : place ≡ last = omega arith in
    rw (same, stop) (omega arith)
walk_length stops n (suc steps) (suc more) place last fits there end at stop =
    by_test (stops place) (by_next (ltb (place + 1) n) refl
    (walk_length stops n steps more (place_after n place) last (omega arith)))
  where
    by_test : (b : Bool) → length (walk stops n more (place_after n place)) ≤ steps + 1
        → length (place ∷ cond b [] (walk stops n more (place_after n place))) ≤ suc steps + 1
    by_test true others = omega arith
    by_test false others = omega arith

    by_next : (b : Bool) → ltb (place + 1) n ≡ b →
        (place_after n place < n → last < n → (place_after n place + steps ≡ last)
        ⊎ (place_after n place + steps ≡ last + n) → stops last ≡ true
        → length (walk stops n more (place_after n place)) ≤ steps + 1) →
        length (walk stops n more (place_after n place)) ≤ steps + 1
    by_next true is others =
        let next : place_after n place ≡ place + 1 = after_inner n place (ltb-true (place + 1) n is)
        in
        let below : place + 1 < n = ltb-true (place + 1) n is in
        others (omega arith) end (elim at [ inl e ↦ inl (omega arith) | inr e ↦ inr (omega arith) ])
        stop
    by_next false is others =
        let all : place + 1 ≡ n = grind (arith, nat_tests) in
        let next : place_after n place ≡ 0 = after_last n place all in
        others (omega arith) end (inl (elim at [ inl e ↦ omega arith | inr e ↦ omega arith ])) stop

-- ---- runs end before the next end of a sector

-- the edge ends at the place
pub EdgeIsBefore : ℕ → ℕ → ℕ → Type 0
EdgeIsBefore n edge place = ((edge + 1 ≡ place) × (place < n)) ⊎ ((place ≡ 0) × (edge + 1 ≡ n))

pub edge_is_before : (n place : ℕ) → place < n → (edge : ℕ) × EdgeIsBefore n edge place
unfolding EdgeIsBefore
edge_is_before n zero there = (n - 1, inr (refl, omega arith))
edge_is_before n (suc place) there = (place, inl (omega arith, there))

-- a sector covers the edge before its end
pub covers_last : (n edge from to : ℕ) → from < n → to < n → from ≢ to → EdgeIsBefore n edge to
    → edges_between n from edge < edges_between n from to
unfolding EdgeIsBefore
covers_last n edge from to h k apart before =
    elim before [
      | inl b ↦ by_cases (edges_are n from edge h (omega arith)) (edges_are n from to h k) b.0
      | inr b ↦ by_cases_round (edges_are n from edge h (omega arith)) (edges_are n from to h k) b.0
          b.1
    ]
  where
    by_cases : EdgesAre n from edge → EdgesAre n from to → edge + 1 ≡ to
        → edges_between n from edge < edges_between n from to
    by_cases (inl a) (inl b) e = omega arith
    by_cases (inl a) (inr b) e = omega arith
    by_cases (inr a) (inl b) e = omega arith
    by_cases (inr a) (inr b) e = omega arith

    by_cases_round : EdgesAre n from edge → EdgesAre n from to → to ≡ 0 → edge + 1 ≡ n
        → edges_between n from edge < edges_between n from to
    by_cases_round (inl a) (inl b) e f = omega arith
    by_cases_round (inl a) (inr b) e f = omega arith
    by_cases_round (inr a) (inl b) e f = omega arith
    by_cases_round (inr a) (inr b) e f = omega arith

-- one edge more to the place after
pub edges_step : (n from edge place : ℕ) → from < n → EdgeIsBefore n edge place
    → 0 < edges_between n from place → edges_between n from edge + 1 ≡ edges_between n from place
unfolding EdgeIsBefore
edges_step n from edge place h before some =
    by_cases (edges_are n from edge h (elim before [ inl e ↦ omega arith | inr e ↦ omega arith ]))
    (edges_are n from place h (elim before [ inl e ↦ omega arith | inr e ↦ omega arith ]))
    before
  where
    by_cases : EdgesAre n from edge → EdgesAre n from place → EdgeIsBefore n edge place
        → edges_between n from edge + 1 ≡ edges_between n from place
    by_cases (inl a) (inl b) (inl c) = omega arith
    by_cases (inl a) (inl b) (inr c) = omega arith
    by_cases (inl a) (inr b) (inl c) = omega arith
    by_cases (inl a) (inr b) (inr c) = omega arith
    by_cases (inr a) (inl b) (inl c) = omega arith
    by_cases (inr a) (inl b) (inr c) = omega arith
    by_cases (inr a) (inr b) (inl c) = omega arith
    by_cases (inr a) (inr b) (inr c) = omega arith

pub edge_to_next : (n place : ℕ) → place < n → EdgeIsBefore n place (place_after n place)
unfolding EdgeIsBefore
edge_to_next n place there = by_test (ltb (place + 1) n) refl
  where
    by_test : (b : Bool) → ltb (place + 1) n ≡ b → EdgeIsBefore n place (place_after n place)
    by_test true is =
        let below = ltb-true (place + 1) n is in
        let next = after_inner n place below in
        inl (omega arith, omega arith)
    by_test false is =
        let last : place + 1 ≡ n = grind (arith, nat_tests) in
        inr (after_last n place last, last)

-- no edge is between a place and itself
pub edges_none : (n from place : ℕ) → from < n → place < n → edges_between n from place ≡ 0 → from
    ≡ place
edges_none n from place h k none = by_cases (edges_are n from place h k)
  where
    by_cases : EdgesAre n from place → from ≡ place
    by_cases (inl a) = omega arith
    by_cases (inr a) = omega arith

pub self_none : (n from place : ℕ) → from < n → place < n → from ≡ place
    → edges_between n from place ≡ 0
self_none n from place h k same = by_cases (edges_are n from place h k)
  where
    by_cases : EdgesAre n from place → edges_between n from place ≡ 0
    by_cases (inl a) = omega arith
    by_cases (inr a) = omega arith

pub others_some : (n from to : ℕ) → from < n → to < n → from ≢ to → 0 < edges_between n from to
others_some n from to h k apart = by_cases (edges_are n from to h k)
  where
    by_cases : EdgesAre n from to → 0 < edges_between n from to
    by_cases (inl a) = omega arith
    by_cases (inr a) = omega arith

pub edges_below : (n from to : ℕ) → from < n → to < n → edges_between n from to < n
edges_below n from to h k = by_cases (edges_are n from to h k)
  where
    by_cases : EdgesAre n from to → edges_between n from to < n
    by_cases (inl a) = omega arith
    by_cases (inr a) = omega arith

-- places to which as many edges lead are one
pub same_edges : (n from a b : ℕ) → from < n → a < n → b < n → edges_between n from a
    ≡ edges_between n from b → a ≡ b
same_edges n from a b h k l same = by_cases (edges_are n from a h k) (edges_are n from b h l)
  where
    by_cases : EdgesAre n from a → EdgesAre n from b → a ≡ b
    by_cases (inl c) (inl d) = omega arith
    by_cases (inl c) (inr d) = omega arith
    by_cases (inr c) (inl d) = omega arith
    by_cases (inr c) (inr d) = omega arith

-- the edge before a place is as far as it can be
pub edges_last : (n edge place : ℕ) → place < n → edge < n → EdgeIsBefore n edge place
    → edges_between n place edge + 1 ≡ n
unfolding EdgeIsBefore
edges_last n edge place h k before = by_cases (edges_are n place edge h k) before
  where
    by_cases : EdgesAre n place edge → EdgeIsBefore n edge place → edges_between n place edge + 1
        ≡ n
    by_cases (inl c) (inl d) = omega arith
    by_cases (inl c) (inr d) = omega arith
    by_cases (inr c) (inl d) = omega arith
    by_cases (inr c) (inr d) = omega arith

-- and the edge that is so far is the one before it
pub last_edge : (n edge place : ℕ) → place < n → edge < n → edges_between n place edge + 1 ≡ n
    → EdgeIsBefore n edge place
unfolding EdgeIsBefore
last_edge n edge place h k far = by_cases (edges_are n place edge h k)
  where
    by_cases : EdgesAre n place edge → EdgeIsBefore n edge place
    by_cases (inl c) = inr (omega arith, omega arith)
    by_cases (inr c) = inl (omega arith, omega arith)

-- ---- sectors of a ring

sectors_fit : (n : ℕ) (sectors : List Sector) → are_sectors n sectors ≡ true
    → list_all (is_sector n) sectors ≡ true
sectors_fit n sectors valid = grind (arith, nat_tests)

covered_once : (n : ℕ) (sectors : List Sector) → are_sectors n sectors ≡ true
    → list_all (λ edge. leb (count_by (is_covered_by n edge) sectors) 1) (places n) ≡ true
covered_once n sectors valid = grind (arith, nat_tests)

-- the places of a sector
pub record IsSector (n : ℕ) (s : Sector) : Type 0 where
  pub from : s.from < n
  pub to : s.to < n
  pub apart : s.from ≢ s.to

pub sector_is : (n : ℕ) (s : Sector) → is_sector n s ≡ true → IsSector n s
sector_is n s h = record {
  from = grind (arith, nat_tests);
  to = grind (arith, nat_tests);
  apart =
      grind (arith, nat_tests);
}

pub sector_of : (n : ℕ) (sectors : List Sector) (s : Sector) → are_sectors n sectors ≡ true
    → IsOneOf sectors s → IsSector n s
sector_of n sectors s valid one =
    sector_is n s (one.all (is_sector n) (sectors_fit n sectors valid))

-- sectors that cover one edge are alike, whatever number of them is compared
pub same_sector : (key : Sector → ℕ) (n : ℕ) (sectors : List Sector) (edge : ℕ) (a b : Sector)
    → are_sectors n sectors ≡ true → edge < n → IsOneOf sectors a → IsOneOf sectors b →
    is_covered_by n edge a ≡ true → is_covered_by n edge b ≡ true → key a ≢ key b → ⊥
same_sector key n sectors edge a b valid there one two h k apart =
    let once : leb (count_by (is_covered_by n edge) sectors) 1 ≡ true =
    all-range (λ e. leb (count_by (is_covered_by n e) sectors) 1) 0 n edge
    (covered_once n sectors valid) (omega arith) (omega arith) in
    let few : count_by (is_covered_by n edge) sectors ≤ 1 = grind (arith, nat_tests) in
    let many : 2 ≤ count_by (is_covered_by n edge) sectors =
    count_two (λ s. eqb (key s) (key a) && is_covered_by n edge s)
    (λ s. eqb (key s) (key b) && is_covered_by n edge s) (is_covered_by n edge) sectors
    (λ s e. (and_parts (eqb (key s) (key a)) (is_covered_by n edge s) e).1)
    (λ s e. (and_parts (eqb (key s) (key b)) (is_covered_by n edge s) e).1)
    (λ s e f. apart (sym (eqb-true (key s) (key a)
    (and_parts (eqb (key s) (key a)) (is_covered_by n edge s) e).0)
    ∙ eqb-true (key s) (key b) (and_parts (eqb (key s) (key b)) (is_covered_by n edge s) f).0))
    (one.any (λ s. eqb (key s) (key a) && is_covered_by n edge s)
    (and_from (eqb (key a) (key a)) (is_covered_by n edge a) (eq-eqb (key a) (key a) refl) h))
    (two.any (λ s. eqb (key s) (key b) && is_covered_by n edge s)
    (and_from (eqb (key b) (key b)) (is_covered_by n edge b) (eq-eqb (key b) (key b) refl) k))
    in
    omega arith

-- a sector from outside the places from one end on to the next covers the edge before the first of
-- them
covers_before : (n edge place next from : ℕ) → from < n → next < n → place < next
    → EdgeIsBefore n edge place → (from < place) ⊎ (next < from)
    → edges_between n from edge < edges_between n from next
unfolding EdgeIsBefore
covers_before n edge place next from h k less before outside =
    by_cases (edges_are n from edge h (elim before [ inl e ↦ omega arith | inr e ↦ omega arith ]))
    (edges_are n from next h k) before outside
  where
    by_cases : EdgesAre n from edge → EdgesAre n from next → EdgeIsBefore n edge place
        → (from < place) ⊎ (next < from) → edges_between n from edge < edges_between n from next
    by_cases (inl a) (inl b) (inl c) (inl d) = omega arith
    by_cases (inl a) (inl b) (inl c) (inr d) = omega arith
    by_cases (inl a) (inl b) (inr c) (inl d) = omega arith
    by_cases (inl a) (inl b) (inr c) (inr d) = omega arith
    by_cases (inl a) (inr b) (inl c) (inl d) = omega arith
    by_cases (inl a) (inr b) (inl c) (inr d) = omega arith
    by_cases (inl a) (inr b) (inr c) (inl d) = omega arith
    by_cases (inl a) (inr b) (inr c) (inr d) = omega arith
    by_cases (inr a) (inl b) (inl c) (inl d) = omega arith
    by_cases (inr a) (inl b) (inl c) (inr d) = omega arith
    by_cases (inr a) (inl b) (inr c) (inl d) = omega arith
    by_cases (inr a) (inl b) (inr c) (inr d) = omega arith
    by_cases (inr a) (inr b) (inl c) (inl d) = omega arith
    by_cases (inr a) (inr b) (inl c) (inr d) = omega arith
    by_cases (inr a) (inr b) (inr c) (inl d) = omega arith
    by_cases (inr a) (inr b) (inr c) (inr d) = omega arith

-- a sector that ends first, from a place between that end and another end
covers_round : (n edge place first from : ℕ) → from < n → first < n → place < n → first < from
    → from < place → EdgeIsBefore n edge place
    → edges_between n from edge < edges_between n from first
unfolding EdgeIsBefore
covers_round n edge place first from h k l after before_place before =
    by_cases (edges_are n from edge h (elim before [ inl e ↦ omega arith | inr e ↦ omega arith ]))
    (edges_are n from first h k) before
  where
    by_cases : EdgesAre n from edge → EdgesAre n from first → EdgeIsBefore n edge place
        → edges_between n from edge < edges_between n from first
    by_cases (inl a) (inl b) (inl c) = omega arith
    by_cases (inl a) (inl b) (inr c) = omega arith
    by_cases (inl a) (inr b) (inl c) = omega arith
    by_cases (inl a) (inr b) (inr c) = omega arith
    by_cases (inr a) (inl b) (inl c) = omega arith
    by_cases (inr a) (inl b) (inr c) = omega arith
    by_cases (inr a) (inr b) (inl c) = omega arith
    by_cases (inr a) (inr b) (inr c) = omega arith

-- a sector of a ring that ends at the place
pub record EndsHere (n : ℕ) (sectors : List Sector) (place : ℕ) : Type 0 where
  pub sector : Sector
  pub ends : sector.to ≡ place
  pub one : IsOneOf sectors sector
  pub is : IsSector n sector

module _ (n : ℕ) (sectors : List Sector) (valid : are_sectors n sectors ≡ true) where
  pub ending : (place : ℕ) → ends_at sectors place ≡ true → EndsHere n sectors place
  ending place ends =
      let f = found (λ s. s.to == place) sectors ends in
      record {
        sector = f.0;
        ends = eqb-true f.0.to place f.1;
        one = f.2;
        is =
            sector_of n sectors f.0 valid f.2;
      }

  begins : (s : Sector) → IsOneOf sectors s → begins_at sectors s.from ≡ true
  begins s one = one.any (λ r. r.from == s.from) (eq-eqb s.from s.from refl)

  -- a sector that ends elsewhere doesn't cover the edge before the end of one
  pub not_covered : (edge place next : ℕ) → EdgeIsBefore n edge place → place < n → place ≢ next
      → (a : EndsHere n sectors place) (b : EndsHere n sectors next) →
      edges_between n b.sector.from edge < edges_between n b.sector.from next → ⊥
  unfolding EdgeIsBefore
  not_covered edge place next before there apart a b covers =
      let below : edge < n = elim before [ inl e ↦ omega arith | inr e ↦ omega arith ] in
      let own : edges_between n a.sector.from edge < edges_between n a.sector.from a.sector.to =
      covers_last n edge a.sector.from a.sector.to a.is.from a.is.to a.is.apart
      (rw a.ends before) in
      let other : edges_between n b.sector.from edge < edges_between n b.sector.from b.sector.to =
      rw b.ends covers in
      same_sector (λ s. s.to) n sectors edge a.sector b.sector valid below a.one b.one
      (lt-ltb (edges_between n a.sector.from edge) (edges_between n a.sector.from a.sector.to) own)
      (lt-ltb (edges_between n b.sector.from edge) (edges_between n b.sector.from b.sector.to)
      other)
      (λ e. apart (sym a.ends ∙ e ∙ b.ends))

  run_between : (place next steps : ℕ) → steps < n → place < n → (b : EndsHere n sectors next)
      → (place + steps ≡ b.sector.from) ⊎ (place + steps ≡ b.sector.from + n)
      → length (walk (begins_at sectors) n n place) ≤ steps + 1
  run_between place next steps fits there b at =
      walk_length (begins_at sectors) n steps n place b.sector.from fits there b.is.from at
      (begins b.sector b.one)

  -- a run ends before the next place at which a sector ends
  pub run_to_next : (place next : ℕ) → place < next → next < n → ends_at sectors place ≡ true
      → ends_at sectors next ≡ true → place + length (walk (begins_at sectors) n n place) ≤ next
  run_to_next place next less there here_ends next_ends =
      by_tests (ltb (ending next next_ends).sector.from place)
      (ltb (ending next next_ends).sector.from next) refl refl
    where
      by_tests : (p q : Bool) → ltb (ending next next_ends).sector.from place ≡ p
          → ltb (ending next next_ends).sector.from next ≡ q
          → place + length (walk (begins_at sectors) n n place) ≤ next
      by_tests false true g h =
          let b = ending next next_ends in
          let low : place ≤ b.sector.from = grind (arith, nat_tests) in
          let high : b.sector.from < next = ltb-true b.sector.from next h in
          let is = b.is.from in
          let run = run_between place next (b.sector.from - place) (omega arith) (omega arith) b
          (inl (omega arith)) in
          omega arith
      by_tests true q g h =
          let b = ending next next_ends in
          let e = edge_is_before n place (omega arith) in
          absurd (not_covered e.0 place next e.1 (omega arith) (omega arith)
          (ending place here_ends) b (covers_before n e.0 place next b.sector.from b.is.from
          there less e.1 (inl (ltb-true b.sector.from place g))))
      by_tests false false g h =
          let b = ending next next_ends in
          let e = edge_is_before n place (omega arith) in
          let above : next ≤ b.sector.from = grind (arith, nat_tests) in
          let apart = b.is.apart in
          let ends = b.ends in
          let over : next < b.sector.from = omega arith in
          absurd (not_covered e.0 place next e.1 (omega arith) (omega arith)
          (ending place here_ends) b (covers_before n e.0 place next b.sector.from b.is.from
          there less e.1 (inr over)))

  -- and the last run before the first such place
  pub run_to_first : (place first : ℕ) → first ≤ place → place < n → ends_at sectors place ≡ true
      → ends_at sectors first ≡ true
      → place + length (walk (begins_at sectors) n n place) ≤ n + first
  run_to_first place first less there here_ends first_ends =
      by_tests (ltb (ending first first_ends).sector.from place)
      (ltb (ending first first_ends).sector.from first) refl refl
    where
      by_tests : (p q : Bool) → ltb (ending first first_ends).sector.from place ≡ p
          → ltb (ending first first_ends).sector.from first ≡ q
          → place + length (walk (begins_at sectors) n n place) ≤ n + first
      by_tests false q g h =
          let b = ending first first_ends in
          let low : place ≤ b.sector.from = grind (arith, nat_tests) in
          let is = b.is.from in
          let run = run_between place first (b.sector.from - place) (omega arith) there b
          (inl (omega arith)) in
          omega arith
      by_tests true true g h =
          let b = ending first first_ends in
          let before : b.sector.from < first = ltb-true b.sector.from first h in
          let run = run_between place first (b.sector.from + n - place) (omega arith) there b
          (inr (omega arith)) in
          omega arith
      by_tests true false g h =
          let b = ending first first_ends in
          let e = edge_is_before n place there in
          let above : first ≤ b.sector.from = grind (arith, nat_tests) in
          let below : b.sector.from < place = ltb-true b.sector.from place g in
          let apart = b.is.apart in
          let ends = b.ends in
          let over : first < b.sector.from = omega arith in
          absurd (not_covered e.0 place first e.1 there (omega arith) (ending place here_ends) b
          (covers_round n e.0 place first b.sector.from b.is.from (omega arith) there over below
          e.1))
