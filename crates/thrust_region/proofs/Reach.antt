-- Each edge that no sector covers, and each end of a sector, is in a run.
use Rattle.std.proofs.Common.{◌≡◌, ◌∙◌, ap, sym, refl, inl, inr, ℕ, zero, suc, ◌+◌, ◌-◌, ◌<◌, ◌≤◌}
use Rattle.std.proofs.Common.{◌⊎◌, List, length, drop, subst, Bool, true, false, arith}
use Rattle.std.proofs.Math.Dec.{eqb, ltb}
use Rattle.std.proofs.lemmas.Bool.{eq-eqb, eqb-true, lt-ltb, ltb-true}
use Rattle.std.proofs.lemmas.Bool.Decides.{nat_tests}
use Rattle.std.proofs.lemmas.List.{drop-drop}
use Rattle.plant_model.specs.declared.thrust.Point.{Point}
use Rattle.plant_model.specs.declared.thrust.Sector.{Sector}
use Rattle.plant_model.specs.Rings.{are_sectors, edges_between, place_after}
use Rattle.thrust_region.proofs.Parts.{IsOpen}
use Rattle.thrust_region.proofs.Runs.{after_inner, after_last, begins_at, ends_at, walk}
use Rattle.thrust_region.proofs.Sectors.{covers_last, found, self_none, others_some, edges_below}
use Rattle.thrust_region.proofs.Sectors.{edges_last, last_edge, same_edges, edge_to_next, edges_are}
use Rattle.thrust_region.proofs.Sectors.{edges_none, edges_step, same_sector, sector_of}
use Rattle.thrust_region.proofs.Sectors.{EdgeIsBefore, EdgesAre, IsOneOf}

-- so many places on
abbrev pub steps_on : ℕ → ℕ → ℕ → ℕ
steps_on n place zero = place
steps_on n place (suc k) = place_after n (steps_on n place k)

abbrev pub StepsAre : ℕ → ℕ → ℕ → Type 0
StepsAre n place k = ((place + k < n) × (steps_on n place k ≡ place + k))
    ⊎ ((n ≤ place + k) × (steps_on n place k + n ≡ place + k))

pub steps_are : (n place k : ℕ) → place < n → k ≤ n → StepsAre n place k
steps_are n place zero there few = inl (omega arith, omega arith)
steps_are n place (suc k) there few = by_cases (steps_are n place k there (omega arith))
  where
    by_cases : StepsAre n place k → StepsAre n place (suc k)
    by_cases (inl a) = by_test (ltb (place + suc k) n) refl a
      where
        by_test : (b : Bool) → ltb (place + suc k) n ≡ b → (place + k < n)
            × (steps_on n place k ≡ place + k) → StepsAre n place (suc k)
        by_test true h a =
            let below : place + suc k < n = ltb-true (place + suc k) n h in
            let is = a.1 in
            let next : place_after n (steps_on n place k)
            ≡ steps_on n place k + 1 = after_inner n (steps_on n place k) (omega arith) in
            inl (below, omega arith)
        by_test false h a =
            let above : n ≤ place + suc k = grind (arith, nat_tests) in
            let is = a.1 in
            let inside = a.0 in
            let next : place_after n (steps_on n place k)
            ≡ 0 = after_last n (steps_on n place k) (omega arith) in
            inr (above, omega arith)
    by_cases (inr a) =
        let is = a.1 in
        let past = a.0 in
        let next : place_after n (steps_on n place k)
        ≡ steps_on n place k + 1 = after_inner n (steps_on n place k) (omega arith) in
        inr (omega arith, omega arith)

pub steps_below : (n place k : ℕ) → place < n → k ≤ n → steps_on n place k < n
steps_below n place k there few = by_cases (steps_are n place k there few)
  where
    by_cases : StepsAre n place k → steps_on n place k < n
    by_cases (inl a) = omega arith
    by_cases (inr a) = omega arith

-- as many places on as there are edges between two places
pub steps_reach : (n from to : ℕ) → from < n → to < n → (edges_between n from to < n)
    × (steps_on n from (edges_between n from to) ≡ to)
steps_reach n from to h k = by_cases (edges_are n from to h k)
    (steps_are n from (edges_between n from to) h (few (edges_are n from to h k)))
  where
    few : EdgesAre n from to → edges_between n from to ≤ n
    few (inl a) = omega arith
    few (inr a) = omega arith

    by_cases : EdgesAre n from to → StepsAre n from (edges_between n from to)
        → (edges_between n from to < n) × (steps_on n from (edges_between n from to) ≡ to)
    by_cases (inl a) (inl b) = (omega arith, omega arith)
    by_cases (inl a) (inr b) = (omega arith, omega arith)
    by_cases (inr a) (inl b) = (omega arith, omega arith)
    by_cases (inr a) (inr b) = (omega arith, omega arith)

-- a whole round leads back
pub steps_round : (n place : ℕ) → place < n → steps_on n place n ≡ place
steps_round n place there = by_cases (steps_are n place n there (omega arith))
  where
    by_cases : StepsAre n place n → steps_on n place n ≡ place
    by_cases (inl a) = omega arith
    by_cases (inr a) = omega arith

-- ---- runs

-- a run goes on from some end of a sector to the place
pub record IsReached (n : ℕ) (sectors : List Sector) (place most : ℕ) : Type 0 where
  pub start : ℕ
  pub there : start < n
  pub ends : ends_at sectors start ≡ true
  pub steps : ℕ
  pub few : steps ≤ most
  pub is : drop steps (walk (begins_at sectors) n n start)
      ≡ walk (begins_at sectors) n (n - steps) place

-- one place more of a walk that doesn't stop
walk_on : (stops : ℕ → Bool) (n steps place : ℕ) (list : List ℕ) → steps < n → stops place ≡ false
    → drop steps list ≡ walk stops n (n - steps) place → drop (steps + 1) list
    ≡ walk stops n (n - (steps + 1)) (place_after n place)
walk_on stops n steps place list more goes is =
    sym (drop-drop 1 steps list) ∙ ap (drop 1) is ∙ on
  where
    on : drop 1 (walk stops n (n - steps) place)
        ≡ walk stops n (n - (steps + 1)) (place_after n place)
    on =
        let m : n - steps ≡ suc (n - (steps + 1)) = omega arith in
        rw (m, goes) refl

-- a walk that never stops
pub walk_never : (n more place k : ℕ) → k ≤ more → drop k (walk (λ p. false) n more place)
    ≡ walk (λ p. false) n (more - k) (steps_on n place k)
walk_never n more place zero few = ap (λ (m : ℕ). walk (λ p. false) n m place) (omega arith)
walk_never n more place (suc k) few =
    let m : more - k ≡ suc (more - suc k) = omega arith in
    let count : k + 1 ≡ suc k = omega arith in
    ap (λ (j : ℕ). drop j (walk (λ p. false) n more place)) (sym count)
    ∙ sym (drop-drop 1 k (walk (λ p. false) n more place))
    ∙ ap (drop 1) (walk_never n more place k (omega arith)
    ∙ ap (λ (j : ℕ). walk (λ p. false) n j (steps_on n place k)) m)

module _ (ring : List Point) (sectors : List Sector)
    (valid : are_sectors (length ring) sectors ≡ true) where
  -- an open edge doesn't begin a sector
  pub open_goes : (edge : ℕ) → edge < length ring → IsOpen ring sectors edge
      → begins_at sectors edge ≡ false
  open_goes edge there open_ = by_test (begins_at sectors edge) refl
    where
      by_test : (b : Bool) → begins_at sectors edge ≡ b → b ≡ false
      by_test false is = refl
      by_test true is =
          let f = found (λ s. eqb s.from edge) sectors is in
          let same : f.0.from ≡ edge = eqb-true f.0.from edge f.1 in
          let sector = sector_of (length ring) sectors f.0 valid f.2 in
          let none : edges_between (length ring) f.0.from edge
          ≡ 0 = self_none (length ring) f.0.from edge sector.from there same in
          let some : 0 < edges_between (length ring) f.0.from f.0.to =
          others_some (length ring) f.0.from f.0.to sector.from sector.to sector.apart in
          absurd (open_ f.0 f.2 (omega arith))

  end_is : (s : Sector) (place : ℕ) → IsOneOf sectors s → s.to ≡ place → ends_at sectors place
      ≡ true
  end_is s place one same = one.any (λ r. eqb r.to place) (eq-eqb s.to place same)

  -- before an open edge from a place that is no sector's end is an open edge
  open_before : (edge place : ℕ) → edge < length ring → place < length ring
      → EdgeIsBefore (length ring) edge place → IsOpen ring sectors place → ends_at sectors place
      ≡ false → IsOpen ring sectors edge
  open_before edge place there here before open_ no_end s one covers =
      let sector = sector_of (length ring) sectors s valid one in
      let some = others_some (length ring) s.from s.to sector.from sector.to sector.apart in
      by_test (ltb 0 (edges_between (length ring) s.from place))
      (ltb (edges_between (length ring) s.from place) (edges_between (length ring) s.from s.to))
      refl refl
    where
      by_test : (b d : Bool) → ltb 0 (edges_between (length ring) s.from place) ≡ b
          → ltb (edges_between (length ring) s.from place) (edges_between (length ring) s.from s.to)
          ≡ d → ⊥
      by_test b true h k = open_ s one
          (ltb-true (edges_between (length ring) s.from place)
          (edges_between (length ring) s.from s.to) k)
      by_test false false h k =
          let sector = sector_of (length ring) sectors s valid one in
          let some = others_some (length ring) s.from s.to sector.from sector.to sector.apart in
          let none : edges_between (length ring) s.from place ≡ 0 = grind (arith, nat_tests) in
          let past : edges_between (length ring) s.from s.to ≤ edges_between (length ring) s.from
          place = grind (arith, nat_tests) in
          omega arith
      by_test true false h k =
          let sector = sector_of (length ring) sectors s valid one in
          let step = edges_step (length ring) s.from edge place sector.from before
          (ltb-true 0 (edges_between (length ring) s.from place) h) in
          let past : edges_between (length ring) s.from s.to ≤ edges_between (length ring) s.from
          place = grind (arith, nat_tests) in
          let same : s.to ≡ place = same_edges (length ring) s.from s.to place sector.from sector.to
          here (omega arith) in
          let ends = end_is s place one same in
          cc

  at_once : (place most : ℕ) → place < length ring → ends_at sectors place ≡ true
      → IsReached (length ring) sectors place most
  at_once place most there ends = record {
    start = place;
    there = there;
    ends = ends;
    steps = 0;
    few = omega arith;
    is = ap (λ (m : ℕ). walk (begins_at sectors) (length ring) m place) (omega arith);
  }

  one_on : (place most : ℕ) → place < length ring → IsOpen ring sectors place → most < length ring
      → IsReached (length ring) sectors place most
      → IsReached (length ring) sectors (place_after (length ring) place) (most + 1)
  one_on place most there open_ small r = record {
    start = r.start;
    there = r.there;
    ends = r.ends;
    steps = r.steps + 1;
    few = (let few = r.few in omega arith);
    is = (let few = r.few in walk_on (begins_at sectors) (length ring) r.steps place
        (walk (begins_at sectors) (length ring) (length ring) r.start) (omega arith)
        (open_goes place there open_) r.is);
  }

  reached : (first k : ℕ) → first < length ring → ends_at sectors first ≡ true → k < length ring
      → IsOpen ring sectors (steps_on (length ring) first k)
      → IsReached (length ring) sectors (steps_on (length ring) first k) k
  reached first zero there ends small open_ = at_once first 0 there ends
  reached first (suc k) there ends small open_ =
      by_test (ends_at sectors (steps_on (length ring) first (suc k))) refl
      (reached first k there ends (omega arith))
    where
      here : steps_on (length ring) first k < length ring
      here = steps_below (length ring) first k there (omega arith)

      by_test : (b : Bool) → ends_at sectors (steps_on (length ring) first (suc k)) ≡ b →
          (IsOpen ring sectors (steps_on (length ring) first k)
          → IsReached (length ring) sectors (steps_on (length ring) first k) k) →
          IsReached (length ring) sectors (steps_on (length ring) first (suc k)) (suc k)
      by_test true is others = at_once (steps_on (length ring) first (suc k)) (suc k)
          (steps_below (length ring) first (suc k) there (omega arith)) is
      by_test false is others =
          let inside = here in
          let count : k + 1 ≡ suc k = omega arith in
          let open_too : IsOpen ring sectors (steps_on (length ring) first k) =
          open_before (steps_on (length ring) first k) (steps_on (length ring) first (suc k)) inside
          (steps_below (length ring) first (suc k) there (omega arith))
          (edge_to_next (length ring) (steps_on (length ring) first k) inside) open_ is in
          subst (IsReached (length ring) sectors (steps_on (length ring) first (suc k))) count
          (one_on (steps_on (length ring) first k) k inside open_too (omega arith)
          (others open_too))

  -- a run goes along each open edge
  pub edge_reached : (edge : ℕ) (s : Sector) → edge < length ring → IsOneOf sectors s
      → IsOpen ring sectors edge → (most : ℕ) × (most + 1 < length ring)
      × IsReached (length ring) sectors edge most
  edge_reached edge s there one open_ =
      let sector = sector_of (length ring) sectors s valid one in
      let reach = steps_reach (length ring) s.to edge sector.to there in
      let few : edges_between (length ring) s.to edge < length ring = reach.0 in
      let is : steps_on (length ring) s.to (edges_between (length ring) s.to edge) ≡ edge = reach.1
      in (
        edges_between (length ring) s.to edge,
        by_test (ltb (edges_between (length ring) s.to edge + 1) (length ring)) refl,
        subst (λ (place : ℕ). IsReached (length ring) sectors place
            (edges_between (length ring) s.to edge)) is
            (reached s.to (edges_between (length ring) s.to edge) sector.to (end_is s s.to one refl)
            few (subst (IsOpen ring sectors) (sym is) open_)),
      )
    where
      by_test : (b : Bool) → ltb (edges_between (length ring) s.to edge + 1) (length ring) ≡ b
          → edges_between (length ring) s.to edge + 1 < length ring
      by_test true h = ltb-true (edges_between (length ring) s.to edge + 1) (length ring) h
      by_test false h =
          let sector = sector_of (length ring) sectors s valid one in
          let below = edges_below (length ring) s.to edge sector.to there in
          let most : length ring ≤ edges_between (length ring) s.to edge + 1 =
          grind (arith, nat_tests) in
          let before : EdgeIsBefore (length ring) edge s.to =
          last_edge (length ring) edge s.to sector.to there (omega arith) in
          absurd (open_ s one (covers_last (length ring) edge s.from s.to sector.from sector.to
          sector.apart before))

  -- the edge before the beginning of a sector that is no end is open
  open_to_begin : (edge place : ℕ) (s : Sector) → edge < length ring → place < length ring
      → EdgeIsBefore (length ring) edge place → IsOneOf sectors s → s.from ≡ place
      → ends_at sectors place ≡ false → IsOpen ring sectors edge
  open_to_begin edge place s there here before one begins no_end r two covers =
      by_test (ltb 0 (edges_between (length ring) r.from place))
      (ltb (edges_between (length ring) r.from place) (edges_between (length ring) r.from r.to))
      refl refl
    where
      by_test : (b d : Bool) → ltb 0 (edges_between (length ring) r.from place) ≡ b
          → ltb (edges_between (length ring) r.from place) (edges_between (length ring) r.from r.to)
          ≡ d → ⊥
      by_test true true h k =
          let a = sector_of (length ring) sectors s valid one in
          let some = others_some (length ring) s.from s.to a.from a.to a.apart in
          let none = self_none (length ring) s.from place a.from here begins in
          let far = ltb-true 0 (edges_between (length ring) r.from place) h in
          let b = sector_of (length ring) sectors r valid two in
          same_sector (λ t. t.from) (length ring) sectors place s r valid here one two
          (lt-ltb (edges_between (length ring) s.from place)
          (edges_between (length ring) s.from s.to) (omega arith)) k
          (λ same. let zero_too = self_none (length ring) r.from place b.from here
          (sym same ∙ begins) in omega arith)
      by_test true false h k =
          let sector = sector_of (length ring) sectors r valid two in
          let step = edges_step (length ring) r.from edge place sector.from before
          (ltb-true 0 (edges_between (length ring) r.from place) h) in
          let past : edges_between (length ring) r.from r.to ≤ edges_between (length ring) r.from
          place = grind (arith, nat_tests) in
          let same : r.to ≡ place = same_edges (length ring) r.from r.to place sector.from sector.to
          here (omega arith) in
          let ends = end_is r place two same in
          cc
      by_test false d h k =
          let sector = sector_of (length ring) sectors r valid two in
          let none : edges_between (length ring) r.from place ≡ 0 = grind (arith, nat_tests) in
          let same : r.from ≡ place = edges_none (length ring) r.from place sector.from here none in
          let last : edges_between (length ring) place edge + 1
          ≡ length ring = edges_last (length ring) edge place here there before in
          let last_too : edges_between (length ring) r.from edge + 1 ≡ length ring = rw same last in
          let below = edges_below (length ring) r.from r.to sector.from sector.to in
          omega arith

  -- a run ends where a sector begins
  pub begin_reached : (s : Sector) → IsOneOf sectors s → (most : ℕ) × (most < length ring)
      × IsReached (length ring) sectors s.from most
  begin_reached s one = by_test (ends_at sectors s.from) refl
    where
      by_steps : (k : ℕ) → k < length ring → steps_on (length ring) s.to k ≡ s.from
          → ends_at sectors s.from ≡ false → (most : ℕ) × (most < length ring)
          × IsReached (length ring) sectors s.from most
      by_steps zero small is no_end = let sector = sector_of (length ring) sectors s valid one
          in absurd (sector.apart (sym is))
      by_steps (suc k) small is no_end =
          let sector = sector_of (length ring) sectors s valid one in
          let edge : ℕ = steps_on (length ring) s.to k in
          let there : edge < length ring = steps_below (length ring) s.to k sector.to (omega arith)
          in
          let before : EdgeIsBefore (length ring) edge s.from =
          subst (EdgeIsBefore (length ring) edge) is (edge_to_next (length ring) edge there) in
          let open_ : IsOpen ring sectors edge =
          open_to_begin edge s.from s there sector.from before one refl no_end in (
            k + 1,
            omega arith,
            subst (λ (place : ℕ). IsReached (length ring) sectors place (k + 1))
                is (one_on edge k there open_ (omega arith)
                (reached s.to k sector.to (end_is s s.to one refl) (omega arith) open_)),
          )

      by_test : (b : Bool) → ends_at sectors s.from ≡ b → (most : ℕ) × (most < length ring)
          × IsReached (length ring) sectors s.from most
      by_test true ends = let sector = sector_of (length ring) sectors s valid one
          in let from = sector.from in (0, omega arith, at_once s.from 0 sector.from ends)
      by_test false no_end =
          let sector = sector_of (length ring) sectors s valid one in
          let reach = steps_reach (length ring) s.to s.from sector.to sector.from in
          by_steps (edges_between (length ring) s.to s.from) reach.0 reach.1 no_end

  -- and begins where a sector ends
  pub end_reached : (s : Sector) → IsOneOf sectors s → IsReached (length ring) sectors s.to 0
  end_reached s one = at_once s.to 0 (sector_of (length ring) sectors s valid one).to
      (end_is s s.to one refl)
