-- Runs and their wedges keep to places and edges that no sector takes.
use Rattle.std.proofs.Common.{◌≡◌, sym, refl, ℕ, zero, suc, ◌-◌, ◌<◌, ◌≢◌, pos, int_le, List, []}
use Rattle.std.proofs.Common.{◌∷◌, length, map, take, drop, Bool, true, false, cond, subst, arith}
use Rattle.std.proofs.Math.Dec.{eqb, ltb}
use Rattle.std.proofs.lemmas.Bool.{eq-eqb, eqb-true, ltb-true}
use Rattle.std.proofs.lemmas.Bool.Decides.{nat_tests}
use Rattle.std.proofs.lemmas.List.{length-drop}
use Rattle.std.specs.List.{take_while}
use Rattle.plant_model.specs.declared.thrust.Point.{Point}
use Rattle.plant_model.specs.declared.thrust.Sector.{Sector}
use Rattle.plant_model.specs.Rings.{are_sectors, cross, edges_between, first_wedge, place_after}
use Rattle.plant_model.specs.Rings.{point_at, wedges, IsInner}
use Rattle.thrust_region.proofs.Lists.{Each, Each-take, Each-take_while}
use Rattle.thrust_region.proofs.Runs.{begins_at, ends_at, walk}
use Rattle.thrust_region.proofs.Sectors.{edge_is_before, edge_to_next, edges_none, edges_step}
use Rattle.thrust_region.proofs.Sectors.{ending, not_covered, sector_of, IsOneOf}
use Rattle.thrust_region.proofs.Wedges.{front_more, turns_from_itself}

module _ (ring : List Point) (sectors : List Sector) where
  -- no sector has the place inside
  abbrev pub IsFree : ℕ → Type 0
  IsFree place = (s : Sector) → IsOneOf sectors s → IsInner (length ring) s place → ⊥

  -- no sector covers the edge
  abbrev pub IsOpen : ℕ → Type 0
  IsOpen edge = (s : Sector) → IsOneOf sectors s
      → edges_between (length ring) s.from edge < edges_between (length ring) s.from s.to → ⊥

  pub record IsFreePoint (p : Point) : Type 0 where
    pub place : ℕ
    pub there : place < length ring
    pub is : p ≡ point_at ring place
    pub free : IsFree place

  pub record IsOpenEdge (p q : Point) : Type 0 where
    pub edge : ℕ
    pub there : edge < length ring
    pub from : p ≡ point_at ring edge
    pub to : q ≡ point_at ring (place_after (length ring) edge)
    pub open_ : IsOpen edge

  abbrev pub LinksTo : Point → List Point → Type 0
  LinksTo p [] = Unit {0}
  LinksTo p (q ∷ qs) = IsOpenEdge p q

  -- points at free places, each joined to the next by an open edge
  abbrev pub AreLinked : List Point → Type 0
  AreLinked [] = Unit {0}
  AreLinked (p ∷ ps) = IsFreePoint p × LinksTo p ps × AreLinked ps

  AreLinked-drop : (k : ℕ) (ps : List Point) → AreLinked ps → AreLinked (drop k ps)
  AreLinked-drop zero ps linked = linked
  AreLinked-drop (suc k) [] linked = tt
  AreLinked-drop (suc k) (p ∷ ps) linked = AreLinked-drop k ps linked.2

  LinksTo-take : (k : ℕ) (p : Point) (ps : List Point) → LinksTo p ps → LinksTo p (take k ps)
  LinksTo-take zero p ps link = tt
  LinksTo-take (suc k) p [] link = tt
  LinksTo-take (suc k) p (q ∷ qs) link = link

  AreLinked-take : (k : ℕ) (ps : List Point) → AreLinked ps → AreLinked (take k ps)
  AreLinked-take zero ps linked = tt
  AreLinked-take (suc k) [] linked = tt
  AreLinked-take (suc k) (p ∷ ps) linked =
      (linked.0, LinksTo-take k p ps linked.1, AreLinked-take k ps linked.2)

  -- linked points, none of them more than half a turn from the first
  abbrev pub IsWedge : List Point → Type 0
  IsWedge [] = ⊥
  IsWedge (p ∷ ps) = AreLinked (p ∷ ps) × Each (λ r. int_le (pos 0) (cross p r) ≡ true) (p ∷ ps)

  first_is_wedge : (p : Point) (ps : List Point) → AreLinked (p ∷ ps)
      → IsWedge (first_wedge (p ∷ ps))
  first_is_wedge p ps linked =
      let f : Point → Bool = λ r. int_le (pos 0) (cross p r) in
      let is : first_wedge (p ∷ ps) ≡ p ∷ take 7 (take_while f ps) =
      front_more f 7 p ps (turns_from_itself p) in
      let all : AreLinked (first_wedge (p ∷ ps)) =
      AreLinked-take 8 (take_while f (p ∷ ps)) (AreLinked-take _ (p ∷ ps) linked) in
      let wide : Each (λ r. int_le (pos 0) (cross p r) ≡ true) (first_wedge (p ∷ ps)) =
      Each-take (λ r. int_le (pos 0) (cross p r) ≡ true) 8 (take_while f (p ∷ ps))
      (Each-take_while f (p ∷ ps)) in
      subst IsWedge (sym is) (
        subst AreLinked is all,
        subst (λ (l : List Point). Each (λ r. int_le (pos 0) (cross p r) ≡ true) l) is wide,
      )

  pub wedges_are : (most : ℕ) (run : List Point) → AreLinked run → 0 < length run
      → Each IsWedge (wedges most run)
  wedges_are zero run linked some = tt
  wedges_are (suc most) [] linked some = absurd (omega arith)
  wedges_are (suc most) (p ∷ ps) linked some =
      by_test (ltb (length (first_wedge (p ∷ ps))) (length (p ∷ ps))) refl
      (first_is_wedge p ps linked)
      (wedges_are most (drop (length (first_wedge (p ∷ ps)) - 1) (p ∷ ps))
      (AreLinked-drop (length (first_wedge (p ∷ ps)) - 1) (p ∷ ps) linked))
    where
      by_test : (b : Bool) → ltb (length (first_wedge (p ∷ ps))) (length (p ∷ ps)) ≡ b
          → IsWedge (first_wedge (p ∷ ps)) →
          (0 < length (drop (length (first_wedge (p ∷ ps)) - 1) (p ∷ ps))
          → Each IsWedge (wedges most (drop (length (first_wedge (p ∷ ps)) - 1) (p ∷ ps)))) →
          Each IsWedge (cond b (first_wedge (p ∷ ps) ∷ wedges most
          (drop (length (first_wedge (p ∷ ps)) - 1) (p ∷ ps))) (first_wedge (p ∷ ps) ∷ []))
      by_test true is first others =
          let shorter = ltb-true (length (first_wedge (p ∷ ps))) (length (p ∷ ps)) is in
          let left = length-drop (length (first_wedge (p ∷ ps)) - 1) (p ∷ ps) in
          (first, others (omega arith))
      by_test false is first others = (first, tt)

  -- ---- walks

  module _ (valid : are_sectors (length ring) sectors ≡ true) where
    -- after an open edge stands a free place
    pub free_after : (edge : ℕ) → edge < length ring → IsOpen edge
        → IsFree (place_after (length ring) edge)
    free_after edge there open_ s one inner =
        let step = edges_step (length ring) s.from edge (place_after (length ring) edge)
        (sector_of (length ring) sectors s valid one).from
        (edge_to_next (length ring) edge there) inner.behind in
        let before = inner.before in
        open_ s one (omega arith)

    -- a sector that takes the edge from a free place begins there
    pub open_after : (place : ℕ) → place < length ring → IsFree place → begins_at sectors place
        ≡ false → IsOpen place
    open_after place there free goes s one covers =
        by_test (ltb 0 (edges_between (length ring) s.from place)) refl
      where
        by_test : (b : Bool) → ltb 0 (edges_between (length ring) s.from place) ≡ b → ⊥
        by_test true is = free s one (record {
          there = there;
          behind = ltb-true 0 (edges_between (length ring) s.from place) is;
          before = covers;
        })
        by_test false is =
            let none : edges_between (length ring) s.from place ≡ 0 = grind (arith, nat_tests) in
            let same : s.from ≡ place = edges_none (length ring) s.from place
            (sector_of (length ring) sectors s valid one).from there none in
            let starts : begins_at sectors place
            ≡ true = one.any (λ r. eqb r.from place) (eq-eqb s.from place same) in
            cc

    -- the end of a sector is a free place
    pub free_end : (place : ℕ) → place < length ring → ends_at sectors place ≡ true → IsFree place
    free_end place there ends s one inner = by_test (eqb s.to place) refl
      where
        by_test : (b : Bool) → eqb s.to place ≡ b → ⊥
        by_test true is =
            let same : s.to ≡ place = eqb-true s.to place is in
            let before : edges_between (length ring) s.from place < edges_between (length ring)
            s.from s.to = inner.before in
            let turned : edges_between (length ring) s.from place < edges_between (length ring)
            s.from place = subst (λ (k : ℕ). edges_between (length ring) s.from place <
            edges_between (length ring) s.from k) same before in
            omega arith
        by_test false is =
            let e = edge_is_before (length ring) place there in
            let is_sector = sector_of (length ring) sectors s valid one in
            let step = edges_step (length ring) s.from e.0 place is_sector.from e.1 inner.behind in
            let before = inner.before in
            let apart : place ≢ s.to = grind (arith, nat_tests) in
            not_covered (length ring) sectors valid e.0 place s.to e.1 there apart
            (ending (length ring) sectors valid place ends)
            (record { sector = s; ends = refl; one = one; is = is_sector }) (omega arith)

  module _ (stops : ℕ → Bool) (goes : (place : ℕ) → place < length ring → IsFree place → stops place
      ≡ false → IsOpen place) (frees : (edge : ℕ) → edge < length ring → IsOpen edge
      → IsFree (place_after (length ring) edge)) where
    pub walk_is_linked : (more place : ℕ) → place < length ring → IsFree place
        → AreLinked (map (point_at ring) (walk stops (length ring) more place))
    walk_is_linked zero place there free = tt
    walk_is_linked (suc zero) place there free = by_test (stops place)
      where
        by_test : (b : Bool) → AreLinked (point_at ring place ∷ map (point_at ring) (cond b [] []))
        by_test true = (record { place = place; there = there; is = refl; free = free }, tt, tt)
        by_test false = (record { place = place; there = there; is = refl; free = free }, tt, tt)
    walk_is_linked (suc (suc more)) place there free =
        by_test (stops place) refl (walk_is_linked (suc more) (place_after (length ring) place)
        (omega arith))
      where
        by_test : (b : Bool) → stops place ≡ b
            → (IsFree (place_after (length ring) place)
            → AreLinked (map (point_at ring)
            (walk stops (length ring) (suc more) (place_after (length ring) place)))) →
            AreLinked (point_at ring place ∷ map (point_at ring)
            (cond b [] (walk stops (length ring) (suc more) (place_after (length ring) place))))
        by_test true is others = (
          record { place = place; there = there; is = refl; free = free },
          tt,
          tt,
        )
        by_test false is others =
            let open_ = goes place there free is in (
              record { place = place; there = there; is = refl; free = free },
              record { edge = place; there = there; from = refl; to = refl; open_ = open_ },
              others (frees place there open_),
            )
