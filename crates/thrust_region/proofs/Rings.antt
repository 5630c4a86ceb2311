-- What rings of three points and more keep: each edge turns from one end to the other.
use Rattle.std.proofs.Common.{◌≡◌, refl, ℕ, zero, suc, ◌+◌, ◌<◌, ◌≤◌, ◌≢◌, ℤ, pos, ◌<ℤ◌, ◌≤ℤ◌}
use Rattle.std.proofs.Common.{int_le, int_lt, List, [], ◌∷◌, length, map, Bool, true, false, cond}
use Rattle.std.proofs.Common.{◌||◌, arith}
use Rattle.std.proofs.Math.Dec.{eqb, ltb}
use Rattle.std.proofs.lemmas.Bool.{and_parts, eqb-true, ltb-true}
use Rattle.std.proofs.lemmas.Bool.Decides.{nat_tests}
use Rattle.std.specs.List.{list_all}
use Rattle.int_ring.proofs.Laws.{linear}
use Rattle.int_ring.proofs.Ring.{ring, reads}
use Rattle.plant_model.specs.declared.limits.TheConstants.{MOST_RING_POINTS}
use Rattle.plant_model.specs.declared.thrust.Point.{Point}
use Rattle.plant_model.specs.Rings.{cross, is_border, is_ring, is_round, origin, place_after}
use Rattle.plant_model.specs.Rings.{places, point_at, side}
use Rattle.thrust_region.proofs.Runs.{after_inner, after_last, walk}
use Rattle.thrust_region.proofs.Sectors.{all-range}
use Rattle.thrust_region.proofs.Signs.{below_from_test, test_at_most}
use Rattle.thrust_region.proofs.WedgeCounts.{AreTurning}

pub ring_fits : (ring : List Point) → is_ring ring ≡ true → length ring ≤ MOST_RING_POINTS
ring_fits ring h = grind (arith, nat_tests)

pub ring_is_round : (ring : List Point) → is_ring ring ≡ true → length ring ≢ 2 → is_round ring
    ≡ true
ring_is_round ring h longer = grind (arith, nat_tests)

pub round_has_three : (ring : List Point) → is_round ring ≡ true → 3 ≤ length ring
round_has_three ring h = grind (arith, nat_tests)

pub edge_is_border : (ring : List Point) (edge : ℕ) → is_round ring ≡ true → edge < length ring
    → is_border ring edge ≡ true
edge_is_border ring edge h there =
    let borders : list_all (is_border ring) (places (length ring)) ≡ true = grind (arith, nat_tests)
    in
    all-range (is_border ring) 0 (length ring) edge borders (omega arith) (omega arith)

side_of_origin : (a b : Point) → side a b origin ≡ cross a b
side_of_origin a b = ring (a.x ∷ a.y ∷ b.x ∷ b.y ∷ []) (search reads depth 40) refl

pub edge_turns : (ring : List Point) (edge : ℕ) → is_round ring ≡ true → edge < length ring
    → pos 0 <ℤ cross (point_at ring edge) (point_at ring (place_after (length ring) edge))
edge_turns ring edge h there =
    let a = point_at ring edge in
    let b = point_at ring (place_after (length ring) edge) in
    let border : is_border ring edge ≡ true = edge_is_border ring edge h there in
    let left : int_lt (pos 0) (side a b origin)
    ≡ true = (and_parts (int_lt (pos 0) (side a b origin)) _ border).0 in
    rw (← side_of_origin a b) (below_from_test (pos 0) (side a b origin) left)

module _ (ring : List Point) (round : is_round ring ≡ true) (stops : ℕ → Bool) where
  pub edge_test : (edge : ℕ) → edge < length ring
      → int_le (pos 0) (cross (point_at ring edge) (point_at ring (place_after (length ring) edge)))
      ≡ true
  edge_test edge there =
      let turns = edge_turns ring edge round there in
      test_at_most (pos 0) (cross (point_at ring edge)
      (point_at ring (place_after (length ring) edge))) (omega (arith, linear))

  pub after_below : (place : ℕ) → place < length ring
      → place_after (length ring) place < length ring
  after_below place there = omega arith

  pub walk_turns : (more place : ℕ) → place < length ring
      → AreTurning (map (point_at ring) (walk stops (length ring) more place))
  walk_turns zero place there = tt
  walk_turns (suc zero) place there = by_test (stops place)
    where
      by_test : (b : Bool) → AreTurning (point_at ring place ∷ map (point_at ring) (cond b [] []))
      by_test true = (tt, tt)
      by_test false = (tt, tt)
  walk_turns (suc (suc more)) place there =
      by_test (stops place) (walk_turns (suc more) (place_after (length ring) place)
      (after_below place there))
    where
      by_test : (b : Bool) → AreTurning
          (map (point_at ring) (walk stops (length ring) (suc more)
          (place_after (length ring) place))) →
          AreTurning (point_at ring place ∷ map (point_at ring)
          (cond b [] (walk stops (length ring) (suc more) (place_after (length ring) place))))
      by_test true others = (tt, tt)
      by_test false others = (edge_test place there, others)

-- ---- each point of a ring is on the left of each edge, and strictly where it is no end of it

edge_from : (a b : Point) → side a b a ≡ pos 0
edge_from a b = ring (a.x ∷ a.y ∷ b.x ∷ b.y ∷ []) (search reads depth 40) refl

edge_to : (a b : Point) → side a b b ≡ pos 0
edge_to a b = ring (a.x ∷ a.y ∷ b.x ∷ b.y ∷ []) (search reads depth 40) refl

abbrev side_at : List Point → ℕ → ℕ → ℤ
side_at points edge place = side (point_at points edge)
    (point_at points (place_after (length points) edge)) (point_at points place)

module _ (points : List Point) (round : is_round points ≡ true) (edge place : ℕ)
    (there : edge < length points) (here : place < length points) where
  pub is_left : place ≢ edge → place ≢ place_after (length points) edge
      → pos 0 <ℤ side_at points edge place
  is_left apart apart_too =
      let border : is_border points edge ≡ true = edge_is_border points edge round there in
      let lefts = (and_parts (int_lt (pos 0)
      (side (point_at points edge) (point_at points (place_after (length points) edge)) origin))
      _ border).1 in
      let test : (eqb place edge || eqb place (place_after (length points) edge)
      || int_lt (pos 0) (side_at points edge place)) ≡ true =
      all-range (λ p. eqb p edge || eqb p (place_after (length points) edge)
      || int_lt (pos 0) (side_at points edge p)) 0 (length points) place lefts (omega arith)
      (omega arith) in
      let no : eqb place edge ≡ false = grind (arith, nat_tests) in
      let nor : eqb place (place_after (length points) edge) ≡ false = grind (arith, nat_tests) in
      below_from_test (pos 0) (side_at points edge place) (rw (no, nor) at test)

  pub at_least_left : pos 0 ≤ℤ side_at points edge place
  at_least_left = by_tests (eqb place edge) (eqb place (place_after (length points) edge)) refl refl
    where
      by_tests : (p q : Bool) → eqb place edge ≡ p → eqb place (place_after (length points) edge)
          ≡ q → pos 0 ≤ℤ side_at points edge place
      by_tests true q g h =
          let same : place ≡ edge = eqb-true place edge g in
          let zero_side = edge_from (point_at points edge)
          (point_at points (place_after (length points) edge)) in
          rw same (omega (arith, linear))
      by_tests false true g h =
          let same : place ≡ place_after (length points) edge =
          eqb-true place (place_after (length points) edge) h in
          let zero_side = edge_to (point_at points edge)
          (point_at points (place_after (length points) edge)) in
          rw same (omega (arith, linear))
      by_tests false false g h =
          let left = is_left (grind (arith, nat_tests)) (grind (arith, nat_tests)) in
          omega (arith, linear)

-- ---- places after one are others

pub next_is_other : (n place : ℕ) → 2 ≤ n → place < n → place_after n place ≢ place
next_is_other n place two there = by_test (ltb (place + 1) n) refl
  where
    by_test : (b : Bool) → ltb (place + 1) n ≡ b → place_after n place ≢ place
    by_test true is = let next = after_inner n place (ltb-true (place + 1) n is) in omega arith
    by_test false is =
        let last : place + 1 ≡ n = grind (arith, nat_tests) in
        let next = after_last n place last in
        omega arith

pub second_is_other : (n place : ℕ) → 3 ≤ n → place < n
    → place_after n (place_after n place) ≢ place
second_is_other n place three there = by_test (ltb (place + 1) n) (ltb (place + 2) n) refl refl
  where
    by_test : (b d : Bool) → ltb (place + 1) n ≡ b → ltb (place + 2) n ≡ d
        → place_after n (place_after n place) ≢ place
    by_test true true is on =
        let next : place_after n place ≡ place + 1 = after_inner n place (ltb-true (place + 1) n is)
        in
        let inside = ltb-true (place + 2) n on in
        let second : place_after n (place + 1)
        ≡ place + 1 + 1 = after_inner n (place + 1) (omega arith) in
        rw next (omega arith)
    by_test true false is on =
        let next : place_after n place ≡ place + 1 = after_inner n place (ltb-true (place + 1) n is)
        in
        let inside = ltb-true (place + 1) n is in
        let end : n ≤ place + 2 = grind (arith, nat_tests) in
        let second : place_after n (place + 1) ≡ 0 = after_last n (place + 1) (omega arith) in
        rw next (omega arith)
    by_test false d is on =
        let last : place + 1 ≡ n = grind (arith, nat_tests) in
        let next : place_after n place ≡ 0 = after_last n place last in
        let second : place_after n 0 ≡ 0 + 1 = after_inner n 0 (omega arith) in
        rw next (omega arith)
