-- The pieces of a ring, run by run.
use Rattle.std.proofs.Common.{◌≡◌, ◌∙◌, ap, ap₂, sym, refl, ℕ, suc, ◌+◌, ◌-◌, ◌<◌, ◌≤◌, ◌≢◌, List}
use Rattle.std.proofs.Common.{[], ◌∷◌, ◌++◌, length, map, true, false, length-append, append-nil}
use Rattle.std.proofs.Common.{arith}
use Rattle.std.specs.Prelude.{filter, flat_map}
use Rattle.std.specs.List.{range_with_len}
use Rattle.std.proofs.Math.Dec.{eqb}
use Rattle.std.proofs.lemmas.Bool.Decides.{nat_tests}
use Rattle.std.proofs.lemmas.List.{length-map, map-append}
use Rattle.std.proofs.lemmas.List.Folds.{flat_map-map}
use Rattle.std.proofs.lemmas.List.FromFn.{fill_by_all}
use Rattle.plant_model.specs.declared.limits.TheConstants.{MOST_PIECES}
use Rattle.plant_model.specs.declared.thrust.Point.{Point}
use Rattle.plant_model.specs.declared.thrust.Sector.{Sector}
use Rattle.plant_model.specs.Rings.{are_sectors, cut, is_ring, is_round, origin, places, point_at}
use Rattle.plant_model.specs.Rings.{run_from, runs, wedges, wedges_along}
use Rattle.thrust_region.proofs.Counts.{runs_fit}
use Rattle.thrust_region.proofs.Rings.{ring_fits, ring_is_round, round_has_three, walk_turns}
use Rattle.thrust_region.proofs.Runs.{begins_at, ends_at, point_at-get_or, round, round-split}
use Rattle.thrust_region.proofs.Runs.{run-walk, walk, walk-round, walk_has_some}
use Rattle.thrust_region.proofs.WedgeCounts.{AreTurning, wedges_below}

cut_is : (ring : List Point) (sectors : List Sector) → length ring ≢ 2 → cut ring sectors
    ≡ flat_map (wedges_along ring) (runs (length ring) sectors)
cut_is ring sectors longer =
    let test : eqb (length ring) 2 ≡ false = grind (arith, nat_tests) in
    rw test refl

-- ---- without sectors

points_at_places : (ring : List Point) → map (point_at ring) (places (length ring)) ≡ ring
points_at_places ring = sym (fill_by_all (point_at ring) ring (length ring) origin refl
    (λ k h. point_at-get_or ring k origin h))

whole_points : (ring : List Point) → map (point_at ring) (places (length ring) ++ 0 ∷ []) ≡ ring
    ++ point_at ring 0 ∷ []
whole_points ring = map-append (point_at ring) (places (length ring)) (0 ∷ [])
    ∙ ap (λ (l : List Point). l ++ point_at ring 0 ∷ []) (points_at_places ring)

cut_round_whole : (ring run : List Point) → length ring ≢ 2 → run ≡ ring ++ point_at ring 0 ∷ []
    → cut ring [] ≡ wedges (length run) run
cut_round_whole ring run longer is =
    cut_is ring [] longer
    ∙ append-nil (wedges_along ring (places (length ring) ++ 0 ∷ []))
    ∙ ap₂ wedges (sym (length-map (places (length ring) ++ 0 ∷ []) (point_at ring))
    ∙ ap length (whole_points ring ∙ sym is)) (whole_points ring ∙ sym is)

pub cut_whole : (ring run : List Point) (sectors : List Sector) → length sectors ≡ 0
    → length ring ≢ 2 → run ≡ ring ++ point_at ring 0 ∷ [] → cut ring sectors
    ≡ wedges (length run) run
cut_whole ring run [] none longer is = cut_round_whole ring run longer is
cut_whole ring run (s ∷ ss) none longer is = absurd (omega arith)

whole_walk : (n : ℕ) → 0 < n → walk (λ p. false) n (n + 1) 0 ≡ places n ++ 0 ∷ []
whole_walk n some =
    let count : n + 1 ≡ suc (n - 1) + 1 = omega arith in
    let all : suc (n - 1) ≡ n = omega arith in
    walk-round n (n + 1) 0 ∙ ap (λ (k : ℕ). round n k 0) count
    ∙ round-split n (n - 1) 1 0 (omega arith) ∙ ap (λ (k : ℕ). range_with_len 0 k ++ 0 ∷ []) all

-- the run round a ring without sectors is a walk that never stops
pub whole_run_walk : (ring : List Point) → 0 < length ring → ring ++ point_at ring 0 ∷ []
    ≡ map (point_at ring) (walk (λ p. false) (length ring) (length ring + 1) 0)
whole_run_walk ring some = sym (whole_points ring)
    ∙ ap (map (point_at ring)) (sym (whole_walk (length ring) some))

whole_fits : (ring : List Point) → is_ring ring ≡ true → length ring ≢ 2
    → length (cut ring []) ≤ length ring
whole_fits ring is longer =
    let round_is : is_round ring ≡ true = ring_is_round ring is longer in
    let three = round_has_three ring round_is in
    let run : List Point = ring ++ point_at ring 0 ∷ [] in
    let walked : run ≡ map (point_at ring) (walk (λ p. false) (length ring) (length ring + 1) 0) =
    whole_run_walk ring (omega arith) in
    let turning : AreTurning run =
    rw walked (walk_turns ring round_is (λ p. false) (length ring + 1) 0 (omega arith)) in
    let count : length run ≡ length ring + 1 = length-append ring (point_at ring 0 ∷ []) in
    let few : length (wedges (length run) run) < length run =
    wedges_below (length run) run turning (omega arith) in
    rw (cut_round_whole ring run longer refl) (omega arith)

-- ---- with sectors

-- the pieces of the runs that begin in a range of places
abbrev pub pieces_from : List Point → List Sector → ℕ → ℕ → List (List Point)
pieces_from ring sectors place count =
    flat_map (wedges_along ring) (map (run_from (length ring) sectors)
    (filter (ends_at sectors) (range_with_len place count)))

cut_runs : (ring : List Point) (sectors : List Sector) → length ring ≢ 2 → 0 < length sectors
    → cut ring sectors ≡ pieces_from ring sectors 0 (length ring)
cut_runs ring [] longer some = absurd (omega arith)
cut_runs ring (s ∷ ss) longer some = cut_is ring (s ∷ ss) longer

-- the pieces of a ring with sectors, place by place
pub cut_by_places : (ring : List Point) (s : Sector) (ss : List Sector) → length ring ≢ 2 →
    cut ring (s ∷ ss) ≡ flat_map (λ place. wedges_along ring
    (run_from (length ring) (s ∷ ss) place)) (filter (ends_at (s ∷ ss)) (places (length ring)))
cut_by_places ring s ss longer = cut_is ring (s ∷ ss) longer
    ∙ flat_map-map (wedges_along ring) (run_from (length ring) (s ∷ ss))
    (filter (ends_at (s ∷ ss)) (places (length ring)))

pub cut_fits : (ring : List Point) (sectors : List Sector) → is_ring ring ≡ true
    → are_sectors (length ring) sectors ≡ true → length ring ≢ 2
    → length (cut ring sectors) ≤ MOST_PIECES
cut_fits ring [] is valid longer =
    let few = ring_fits ring is in
    let all = whole_fits ring is longer in
    omega arith
cut_fits ring (s ∷ ss) is valid longer =
    let few = ring_fits ring is in
    let all = runs_fit ring is longer (s ∷ ss) valid in
    rw (cut_by_places ring s ss longer) (omega arith)

module _ (ring : List Point) (sectors : List Sector) (place : ℕ) (there : place < length ring) where
  left : length ring - place ≡ suc (length ring - (place + 1))
  left = omega arith

  pub pieces_skip : ends_at sectors place ≡ false
      → pieces_from ring sectors place (length ring - place)
      ≡ pieces_from ring sectors (place + 1) (length ring - (place + 1))
  pieces_skip no_end = rw (left, no_end) refl

  pub pieces_take : (run : List Point) → run
      ≡ map (point_at ring) (run_from (length ring) sectors place) → ends_at sectors place ≡ true →
      pieces_from ring sectors place (length ring - place) ≡ wedges (length run) run
      ++ pieces_from ring sectors (place + 1) (length ring - (place + 1))
  pieces_take run is ends =
      let count : length run ≡ length (run_from (length ring) sectors place) = ap length is
      ∙ length-map (run_from (length ring) sectors place) (point_at ring) in
      rw (left, ends) (ap₂ (λ (k : ℕ) (l : List Point). wedges k l
      ++ pieces_from ring sectors (place + 1) (length ring - (place + 1))) (sym count) (sym is))

  pub run_has_some : (run : List Point) → run
      ≡ map (point_at ring) (run_from (length ring) sectors place) → 0 < length run
  run_has_some run is =
      let walked : run_from (length ring) sectors place
      ≡ walk (begins_at sectors) (length ring) (length ring) place =
      run-walk (begins_at sectors) (length ring) place there in
      let count : length run ≡ length (walk (begins_at sectors) (length ring) (length ring) place) =
      ap length is ∙ length-map (run_from (length ring) sectors place) (point_at ring)
      ∙ ap length walked in
      let some = walk_has_some (begins_at sectors) (length ring) (length ring) place (omega arith)
      in
      omega arith
