-- A ring is cut into no more pieces than it has points.
use Rattle.std.proofs.Common.{◌≡◌, refl, ℕ, zero, suc, ◌+◌, ◌<◌, ◌≤◌, ◌≢◌, List, ◌∷◌, ◌++◌, length}
use Rattle.std.proofs.Common.{map, Bool, true, false, cond, length-append, below_more, arith}
use Rattle.std.specs.Prelude.{filter, flat_map}
use Rattle.std.specs.List.{range_with_len}
use Rattle.std.proofs.Math.Dec.{ltb}
use Rattle.std.proofs.lemmas.Bool.{ltb-true}
use Rattle.std.proofs.lemmas.Bool.Decides.{nat_tests}
use Rattle.std.proofs.lemmas.List.{length-map}
use Rattle.plant_model.specs.declared.thrust.Point.{Point}
use Rattle.plant_model.specs.declared.thrust.Sector.{Sector}
use Rattle.plant_model.specs.Rings.{are_sectors, is_ring, is_round, places, point_at, run_from}
use Rattle.plant_model.specs.Rings.{wedges, wedges_along}
use Rattle.thrust_region.proofs.Rings.{ring_is_round, walk_turns}
use Rattle.thrust_region.proofs.Runs.{begins_at, ends_at, run-walk, walk, walk_has_some}
use Rattle.thrust_region.proofs.Sectors.{run_to_first, run_to_next}
use Rattle.thrust_region.proofs.WedgeCounts.{wedges_few}

-- the least number below n that passes, or none
data Least (test : ℕ → Bool) (n : ℕ) : Type 0 where
  none : ((p : ℕ) → p < n → test p ≡ false) → Least test n
  least : (first : ℕ) → first < n → test first ≡ true → ((p : ℕ) → p < first → test p ≡ false)
      → Least test n

least_of : (test : ℕ → Bool) (n : ℕ) → Least test n
least_of test zero = none (λ p h. absurd (omega arith))
least_of test (suc n) = on (least_of test n)
  where
    on : Least test n → Least test (suc n)
    on (least first h is before) = least first (omega arith) is before
    on (none before) = by_test (test n) refl
      where
        by_test : (b : Bool) → test n ≡ b → Least test (suc n)
        by_test true is = least n (omega arith) is before
        by_test false is = none (λ p h. below_more (λ (k : ℕ). test k ≡ false) n before is p
            (omega arith))

-- lists that are made at some places of a range, each no longer than to the next such place,
-- together reach no further than the last
module _ {A : Type 0} (test : ℕ → Bool) (f : ℕ → List A) where
  pub together : (from count low bound : ℕ) →
      ((p q : ℕ) → p < q → q < from + count → test p ≡ true → test q ≡ true → p + length (f p) ≤ q)
      →
      ((p : ℕ) → from ≤ p → p < from + count → test p ≡ true → low ≤ p) →
      ((p : ℕ) → from ≤ p → p < from + count → test p ≡ true → p + length (f p) ≤ bound) →
      low ≤ bound →
      length (flat_map f (filter test (range_with_len from count))) + low ≤ bound
  together from zero low bound apart above below fits = omega arith
  together from (suc count) low bound apart above below fits =
      by_test (test from) refl
      (λ (l : ℕ) (high : l ≤ bound) (over : (p : ℕ) → from + 1 ≤ p → p < from + 1 + count → test p
      ≡ true → l ≤ p).
      together (from + 1) count l bound (λ p q h k. apart p q h (omega arith)) over
      (λ p h k. below p (omega arith) (omega arith)) high)
    where
      by_test : (b : Bool) → test from ≡ b →
          ((l : ℕ) → l ≤ bound → ((p : ℕ) → from + 1 ≤ p → p < from + 1 + count → test p ≡ true
          → l ≤ p) → length (flat_map f (filter test (range_with_len (from + 1) count))) + l ≤
          bound) →
          length (flat_map f (cond b (from ∷ filter test (range_with_len (from + 1) count))
          (filter test (range_with_len (from + 1) count)))) + low ≤ bound
      by_test true is others =
          let reach : from + length (f from) ≤ bound = below from (omega arith) (omega arith) is in
          let rest : length (flat_map f (filter test (range_with_len (from + 1) count))) +
          (from + length (f from)) ≤ bound =
          others (from + length (f from)) reach
          (λ p h k t. apart from p (omega arith) (omega arith) is t) in
          let first : low ≤ from = above from (omega arith) (omega arith) is in
          let sum : length (f from ++ flat_map f (filter test (range_with_len (from + 1) count)))
          ≡ length (f from) + length (flat_map f
          (filter test (range_with_len (from + 1) count))) =
          length-append (f from) (flat_map f (filter test (range_with_len (from + 1) count))) in
          omega arith
      by_test false is others = others low fits (λ p h k. above p (omega arith) (omega arith))

-- ---- the pieces of a ring

module _ (ring : List Point) (is : is_ring ring ≡ true) (longer : length ring ≢ 2) where
  round_is : is_round ring ≡ true
  round_is = ring_is_round ring is longer

  run_pieces : (sectors : List Sector) (place : ℕ) → place < length ring
      → length (wedges_along ring (run_from (length ring) sectors place)) ≤ length
      (walk (begins_at sectors) (length ring) (length ring) place)
  run_pieces sectors place there =
      let run : List ℕ = walk (begins_at sectors) (length ring) (length ring) place in
      let same : run_from (length ring) sectors place
      ≡ run = run-walk (begins_at sectors) (length ring) place there in
      let points : length (map (point_at ring) run) ≡ length run = length-map run (point_at ring) in
      let some : 0 < length run = walk_has_some (begins_at sectors) (length ring) (length ring)
      place (omega arith) in
      let few : length (wedges (length run) (map (point_at ring) run)) ≤ length
      (map (point_at ring) run) =
      wedges_few (length run) (map (point_at ring) run)
      (walk_turns ring round_is (begins_at sectors) (length ring) place there) (omega arith) in
      rw same (omega arith)

  pub runs_fit : (sectors : List Sector) → are_sectors (length ring) sectors ≡ true →
      length (flat_map (λ place. wedges_along ring (run_from (length ring) sectors place))
      (filter (ends_at sectors) (places (length ring)))) ≤ length ring
  runs_fit sectors valid = by_least (least_of (ends_at sectors) (length ring))
    where
      by_least : Least (ends_at sectors) (length ring)
          → length (flat_map (λ place. wedges_along ring (run_from (length ring) sectors place))
          (filter (ends_at sectors) (places (length ring)))) ≤ length ring
      by_least (none never) =
          let all = together (ends_at sectors)
          (λ place. wedges_along ring (run_from (length ring) sectors place)) 0 (length ring) 0
          0
          (λ p q h k s t. cc (never q (omega arith)))
          (λ p h k t. omega arith)
          (λ p h k t. cc (never p (omega arith)))
          (omega arith) in
          omega arith
      by_least (least first there ends before) =
          let all = together (ends_at sectors)
          (λ place. wedges_along ring (run_from (length ring) sectors place)) 0 (length ring)
          first (length ring + first)
          (λ p q h k s t. let few = run_pieces sectors p (omega arith)
          in let next = run_to_next (length ring) sectors valid p q h (omega arith) s t
          in omega arith)
          (λ p h k t. not_before p t)
          (λ p h k t. let few = run_pieces sectors p (omega arith)
          in let last = run_to_first (length ring) sectors valid p first (not_before p t)
          (omega arith) t ends in omega arith)
          (omega arith) in
          omega arith
        where
          not_before : (p : ℕ) → ends_at sectors p ≡ true → first ≤ p
          not_before p t = by_test (ltb p first) refl
            where
              by_test : (b : Bool) → ltb p first ≡ b → first ≤ p
              by_test true h = cc (before p (ltb-true p first h), t)
              by_test false h = grind (arith, nat_tests)
