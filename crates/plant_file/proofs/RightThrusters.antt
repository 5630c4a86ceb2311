-- What thrusters without faults have, and the values from which they are built.
use Rattle.std.proofs.Common.{◌≡◌, ℕ, suc, ◌+◌, ◌*◌, ◌^◌, ◌<◌, ◌≤◌, ◌==◌, arith}
use Rattle.std.proofs.Common.{List, [], ◌∷◌, ◌++◌, length, map, Bool, true, false, Ok}
use Rattle.std.proofs.Common.{refl, ap, ◌∙◌, inl, inr}
use Rattle.std.specs.Prelude.{nat_lt}
use Rattle.std.specs.List.{enumerate_from, flat_map, list_all}
use Rattle.std.proofs.lemmas.Bool.{and_from, and_parts, cases_eq, cond-true, eq-eqb}
use Rattle.std.proofs.lemmas.Bool.{lt-ltb, ltb-true}
use Rattle.std.proofs.Math.Nat.{pow-suc, pow-le-pow_right, mul-le-mul}
use Rattle.toml.specs.Data.{Data, Members}
use Rattle.plant_model.specs.Plants.{are_distinct}
use Rattle.plant_model.specs.Rings.{are_sectors, cut, is_ring}
use Rattle.plant_model.specs.declared.limits.TheConstants.{MOST_PIECES, MOST_THRUSTERS}
use Rattle.plant_model.specs.declared.thrust.Piece.{Piece}
use Rattle.plant_model.specs.declared.thrust.Point.{Point}
use Rattle.plant_model.specs.declared.thrust.Sector.{Sector}
use Rattle.thrust_region.specs.Pieces.{points_of}
use Rattle.thrust_region.proofs.Cuts.{cut_fits}
use Rattle.plant_file.specs.declared.fault.Key.TheVariants.{Barred, Forbid, Ring}
use Rattle.plant_file.specs.declared.fault.Part.TheVariants.{Thruster}
use Rattle.plant_file.specs.declared.fault.PlantFault.{PlantFault}
use Rattle.plant_file.specs.declared.fault.PlantFault.TheVariants.{PieceBad, RingNotConvex}
use Rattle.plant_file.specs.declared.fault.PlantFault.TheVariants.{SectorBad}
use Rattle.plant_file.specs.Described.{naturals_at, piece_of, pieces_in, points_at, sectors_at}
use Rattle.plant_file.specs.Faults.{elements_at, judged}
use Rattle.plant_file.specs.PlantText.{are_barred, placed, thruster_faults, unless}
use Rattle.plant_file.proofs.JudgedLemmas.{judged_both}

unless_right : (good : Bool) (fault : PlantFault) → judged (unless good fault) ≡ Ok tt → good ≡ true
unless_right true fault none = refl
unless_right false fault none = absurd cc

-- the ring, the sectors and the barred pieces of a thruster without faults
judged_thruster : (index : ℕ) (d : Data) → judged (thruster_faults (index, d)) ≡ Ok tt
    → (is_ring (points_at Ring d) ≡ true)
    × (are_sectors (length (points_at Ring d)) (sectors_at Forbid d) ≡ true)
    × (are_barred (length (pieces_in d)) (naturals_at Barred d) ≡ true)
judged_thruster index d none =
    let ring = is_ring (points_at Ring d) in
    let sectors = are_sectors (length (points_at Ring d)) (sectors_at Forbid d) in
    let barred = are_barred (length (pieces_in d)) (naturals_at Barred d) in
    let both = judged_both (unless ring (RingNotConvex index) ++ unless sectors (SectorBad index))
    (unless barred (PieceBad index)) none in
    let first = judged_both (unless ring (RingNotConvex index)) (unless sectors (SectorBad index))
    both.0 in (
      unless_right ring (RingNotConvex index) first.0,
      unless_right sectors (SectorBad index) first.1,
      unless_right barred (PieceBad index) both.1,
    )

-- the pieces of a ring are no more than a thruster may have
pieces_fit : (ring : List Point) (sectors : List Sector) → is_ring ring ≡ true
    → are_sectors (length ring) sectors ≡ true → length (cut ring sectors) ≤ MOST_PIECES
pieces_fit ring sectors is valid =
    elim (cases_eq (length ring) 2) as (λ w. length (cut ring sectors) ≤ MOST_PIECES) [
      | inl two ↦
          let one : length (cut ring sectors) ≡ 1 =
          ap length (cond-true (length ring == 2) (ring ∷ []) _ (eq-eqb (length ring) 2 two)) in
          omega arith
      | inr longer ↦ cut_fits ring sectors is valid longer
    ]

-- places below a number are below a greater one
all_below : (n m : ℕ) (places : List ℕ) → n ≤ m
    → list_all (λ place. nat_lt place n) places ≡ true
    → list_all (λ place. nat_lt place m) places ≡ true
all_below n m [] more all = refl
all_below n m (place ∷ places) more all =
    let both = and_parts (nat_lt place n) (list_all (λ p. nat_lt p n) places) all in
    let there = ltb-true place n both.0 in
    and_from _ _ (lt-ltb place m (omega arith)) (all_below n m places more both.1)

barred_fit : (n m : ℕ) (places : List ℕ) → n ≤ m → are_barred n places ≡ true
    → are_barred m places ≡ true
barred_fit n m places more barred =
    let both = and_parts (list_all (λ place. nat_lt place n) places)
    (are_distinct (λ a b. a == b) places) barred in
    and_from _ _ (all_below n m places more both.0) both.1

barred_right : (index : ℕ) (d : Data) → judged (thruster_faults (index, d)) ≡ Ok tt
    → are_barred MOST_PIECES (naturals_at Barred d) ≡ true
barred_right index d none =
    let right = judged_thruster index d none in
    barred_fit (length (pieces_in d)) MOST_PIECES (naturals_at Barred d)
    (pieces_fit (points_at Ring d) (sectors_at Forbid d) right.0 right.1) right.2

-- what holds of each thruster without faults holds of all
all_judged : (p : Data → Bool)
    → ((index : ℕ) (d : Data) → judged (thruster_faults (index, d)) ≡ Ok tt → p d ≡ true)
    → (first : ℕ) (ds : List Data)
    → judged (flat_map thruster_faults (enumerate_from first ds)) ≡ Ok tt → list_all p ds ≡ true
all_judged p each first [] none = refl
all_judged p each first (d ∷ ds) none =
    let both = judged_both (thruster_faults (first, d))
    (flat_map thruster_faults (enumerate_from (first + 1) ds)) none in
    and_from _ _ (each first d both.0) (all_judged p each (first + 1) ds both.1)

module _ (doc : Members)
    (none : judged (flat_map thruster_faults (placed Thruster doc)) ≡ Ok tt) where
  pub all_rings : list_all (λ d. is_ring (points_at Ring d)) (elements_at Thruster doc) ≡ true
  all_rings =
      all_judged (λ d. is_ring (points_at Ring d)) (λ i d free. (judged_thruster i d free).0) 0
      (elements_at Thruster doc) none

  pub all_sectors : list_all
      (λ d. are_sectors (length (points_at Ring d)) (sectors_at Forbid d))
      (elements_at Thruster doc) ≡ true
  all_sectors =
      all_judged (λ d. are_sectors (length (points_at Ring d)) (sectors_at Forbid d))
      (λ i d free. (judged_thruster i d free).1) 0 (elements_at Thruster doc) none

  pub all_barred : list_all (λ d. are_barred MOST_PIECES (naturals_at Barred d))
      (elements_at Thruster doc) ≡ true
  all_barred =
      all_judged (λ d. are_barred MOST_PIECES (naturals_at Barred d)) barred_right 0
      (elements_at Thruster doc) none

same : (pieces : List Piece) → pieces ≡ map piece_of (map points_of pieces)
same [] = refl
same (piece ∷ pieces) = ap (λ rest. piece ∷ rest) (same pieces)

-- pieces whose points are known
pub pieces_from : (pieces : List Piece) (points : List (List Point))
    → map points_of pieces ≡ points → pieces ≡ map piece_of points
pieces_from pieces points are = same pieces ∙ ap (map piece_of) are

-- choices of one piece for each of so many thrusters fit 64 bits
pub choices_fit : (choices pieces i : ℕ) → choices ≤ MOST_PIECES ^ i → pieces ≤ MOST_PIECES
    → i < MOST_THRUSTERS → choices * pieces < 2 ^ 64
choices_fit choices pieces i few fit within =
    let product = mul-le-mul few fit in
    let most = pow-le-pow_right {n = MOST_PIECES} (omega arith) {i = suc i} {j = MOST_THRUSTERS}
    (omega arith) in
    omega (arith, product, most, pow-suc MOST_PIECES i)
