-- Pieces that a mask doesn't bar, while pieces are taken in turn, and the same at so many quarters.
use Rattle.std.proofs.Common.{◌≡◌, ◌∙◌, ℕ, zero, suc, ◌+◌, ◌<◌, ◌≤◌, ◌≢◌, ℤ, pos, ◌*ℤ◌, List, [], ◌∷◌}
use Rattle.std.proofs.Common.{length, map, drop, get_or, Bool, true, false, cond, ◌==◌, refl, sym, ap}
use Rattle.std.proofs.Common.{if◌then◌else◌, ◌%◌, ◌&&◌, nat_abs, arith}
use Rattle.std.specs.Prelude.{filter}
use Rattle.std.specs.Int.{bit_at}
use Rattle.std.specs.List.{enumerate_from, list_all}
use Rattle.std.proofs.lemmas.Bool.{and_from, and_parts, ne_eqb}
use Rattle.std.proofs.lemmas.Bool.Decides.{nat_tests}
use Rattle.std.proofs.lemmas.Int.{ints}
use Rattle.std.proofs.lemmas.List.{length-map}
use Rattle.std.proofs.Math.ListN.{drop_of_length-le}
use Rattle.int_ring.proofs.Quotients.{floor_above, floor_below}
use Rattle.plant_model.specs.declared.limits.TheConstants.{QUARTERS}
use Rattle.plant_model.specs.declared.thrust.Point.{Point}
use Rattle.plant_model.specs.Rings.{is_ring_point, is_thrust_coordinate}
use Rattle.thrust_region.specs.Left.{free, left_of, or_alone, pieces_with}
use Rattle.thrust_region.specs.Pieces.{all_points, are_thrusts, is_thrust}
use Rattle.thrust_region.specs.Scaling.{are_whole_points, quarter_of, scaled_point, scaled_points}
use Rattle.thrust_region.proofs.Lists.{left_from}

abbrev is_free : ℕ → ℕ × List Point → Bool
is_free mask numbered = bit_at mask numbered.0 == 0

abbrev plain : List (ℕ × List Point) → List (List Point)
plain numbered = map (λ pair. pair.1) numbered

-- those of the pieces that are numbered from n on
abbrev pub free_from : ℕ → ℕ → List (List Point) → List (List Point)
free_from mask n pieces = plain (filter (is_free mask) (enumerate_from n pieces))

module _ (mask : ℕ) (pieces : List (List Point)) (i : ℕ) (d : List Point)
    (there : i < length pieces) where
  one_more : (b : Bool) → (bit_at mask i == 0) ≡ b → free_from mask i (drop i pieces)
      ≡ plain (cond b ((i, get_or pieces i d) ∷ filter (is_free mask)
      (enumerate_from (i + 1) (drop (i + 1) pieces))) (filter (is_free mask)
      (enumerate_from (i + 1) (drop (i + 1) pieces))))
  one_more b test =
      ap (free_from mask i) (left_from pieces i d there)
      ∙ ap (λ (c : Bool). plain (cond c ((i, get_or pieces i d) ∷ filter (is_free mask)
      (enumerate_from (i + 1) (drop (i + 1) pieces))) (filter (is_free mask)
      (enumerate_from (i + 1) (drop (i + 1) pieces))))) test

  -- a free piece goes over from what is left
  pub free_next : (bit_at mask i == 0) ≡ true → free_from mask i (drop i pieces)
      ≡ get_or pieces i d ∷ free_from mask (i + 1) (drop (i + 1) pieces)
  free_next test = one_more true test

  -- a barred one goes
  pub barred_next : (bit_at mask i == 0) ≡ false → free_from mask i (drop i pieces)
      ≡ free_from mask (i + 1) (drop (i + 1) pieces)
  barred_next test = one_more false test

-- nothing is left past the last piece
pub none_left : (mask i : ℕ) (pieces : List (List Point)) → length pieces ≤ i
    → free_from mask i (drop i pieces) ≡ []
none_left mask i pieces past = ap (free_from mask i) (drop_of_length-le pieces past)

-- there are no more of them
free_few_from : (mask n : ℕ) (pieces : List (List Point)) →
    length (free_from mask n pieces) ≤ length pieces
free_few_from mask n [] = omega arith
free_few_from mask n (piece ∷ pieces) =
    by_test (bit_at mask n == 0) (free_few_from mask (n + 1) pieces)
  where
    others : List (ℕ × List Point)
    others = filter (is_free mask) (enumerate_from (n + 1) pieces)

    by_test : (b : Bool) → length (plain others) ≤ length pieces →
        length (plain (cond b ((n, piece) ∷ others) others)) ≤ suc (length pieces)
    by_test true rest = omega arith
    by_test false rest = omega arith

pub free_few : (mask : ℕ) (pieces : List (List Point)) → length (free mask pieces) ≤ length pieces
free_few mask pieces = free_few_from mask 0 pieces

-- what holds of all pieces holds of these
module _ (test : List Point → Bool) (mask : ℕ) where
  free_all_from : (n : ℕ) (pieces : List (List Point)) → list_all test pieces ≡ true →
      list_all test (free_from mask n pieces) ≡ true
  free_all_from n [] all = refl
  free_all_from n (piece ∷ pieces) all =
      let both = and_parts (test piece) (list_all test pieces) all in
      by_test (bit_at mask n == 0) both.0 (free_all_from (n + 1) pieces both.1)
    where
      others : List (ℕ × List Point)
      others = filter (is_free mask) (enumerate_from (n + 1) pieces)

      by_test : (b : Bool) → test piece ≡ true → list_all test (plain others) ≡ true →
          list_all test (plain (cond b ((n, piece) ∷ others) others)) ≡ true
      by_test true one rest = and_from _ _ one rest
      by_test false one rest = rest

  pub free_all : (pieces : List (List Point)) → list_all test pieces ≡ true →
      list_all test (free mask pieces) ≡ true
  free_all pieces all = free_all_from 0 pieces all

-- it is the same whether pieces are scaled before or after
free_scaled_from : (quarter mask n : ℕ) (pieces : List (List Point)) →
    free_from mask n (scaled_points quarter pieces)
    ≡ scaled_points quarter (free_from mask n pieces)
free_scaled_from quarter mask n [] = refl
free_scaled_from quarter mask n (piece ∷ pieces) =
    by_test (bit_at mask n == 0) (free_scaled_from quarter mask (n + 1) pieces)
  where
    more : List (ℕ × List Point)
    more = filter (is_free mask) (enumerate_from (n + 1) (scaled_points quarter pieces))

    others : List (ℕ × List Point)
    others = filter (is_free mask) (enumerate_from (n + 1) pieces)

    by_test : (b : Bool) → plain more ≡ scaled_points quarter (plain others) →
        plain (cond b ((n, map (scaled_point quarter) piece) ∷ more) more)
        ≡ scaled_points quarter (plain (cond b ((n, piece) ∷ others) others))
    by_test true rest = ap (λ (l : List (List Point)). map (scaled_point quarter) piece ∷ l) rest
    by_test false rest = rest

pub free_scaled : (quarter mask : ℕ) (pieces : List (List Point)) →
    free mask (scaled_points quarter pieces) ≡ scaled_points quarter (free mask pieces)
free_scaled quarter mask pieces = free_scaled_from quarter mask 0 pieces

-- ---- pieces with given points

pub points_with : (lists : List (List Point)) → all_points (pieces_with lists) ≡ lists
points_with [] = refl
points_with (points ∷ lists) = ap (λ (l : List (List Point)). points ∷ l) (points_with lists)

pub left_with : (quarter mask : ℕ) (pieces : List (List Point)) → quarter ≢ 0 →
    all_points (pieces_with (or_alone (scaled_points quarter (free mask pieces))))
    ≡ left_of quarter mask pieces
left_with quarter mask pieces some =
    points_with (or_alone (scaled_points quarter (free mask pieces)))
    ∙ ap or_alone (sym (free_scaled quarter mask pieces))
    ∙ ap (λ (b : Bool).
    if b then [] ∷ [] else or_alone (free mask (scaled_points quarter pieces)))
    (sym (ne_eqb quarter 0 some))

-- the piece at a place is the scaled one there, or has no points
alone_at : (quarter : ℕ) (pieces : List (List Point)) (place : ℕ) →
    get_or (or_alone (scaled_points quarter pieces)) place []
    ≡ map (scaled_point quarter) (get_or pieces place [])
alone_at quarter [] zero = refl
alone_at quarter [] (suc place) = refl
alone_at quarter (piece ∷ pieces) zero = refl
alone_at quarter (piece ∷ pieces) (suc place) = at pieces place
  where
    at : (pieces : List (List Point)) (place : ℕ) → get_or (scaled_points quarter pieces) place []
        ≡ map (scaled_point quarter) (get_or pieces place [])
    at [] place = refl
    at (piece ∷ pieces) zero = refl
    at (piece ∷ pieces) (suc place) = at pieces place

pub piece_at : (quarter : ℕ) (pieces : List (List Point)) (place : ℕ) →
    get_or (all_points (pieces_with (or_alone (scaled_points quarter pieces)))) place []
    ≡ map (scaled_point quarter) (get_or pieces place [])
piece_at quarter pieces place =
    ap (λ (l : List (List Point)). get_or l place [])
    (points_with (or_alone (scaled_points quarter pieces))) ∙ alone_at quarter pieces place

-- ---- how many there are

count_alone : (pieces : List (List Point)) (count : ℕ) → (length pieces ≡ 0 → count ≡ 1) →
    (length pieces ≢ 0 → count ≡ length pieces) → count ≡ length (or_alone pieces)
count_alone [] count none some = none refl
count_alone (piece ∷ pieces) count none some = some (λ h. absurd (omega arith))

pub count_with : (quarter : ℕ) (pieces : List (List Point)) (count : ℕ) →
    (length pieces ≡ 0 → count ≡ 1) → (length pieces ≢ 0 → count ≡ length pieces) →
    count ≡ length (all_points (pieces_with (or_alone (scaled_points quarter pieces))))
count_with quarter pieces count none some =
    let same : length (scaled_points quarter pieces) ≡ length pieces =
    length-map pieces (map (scaled_point quarter)) in
    count_alone (scaled_points quarter pieces) count (λ h. none (omega arith))
    (λ h. some (λ k. h (omega arith)) ∙ sym same)
    ∙ ap length (sym (points_with (or_alone (scaled_points quarter pieces))))

-- ---- quarters of thrusts are thrusts

quarter_within : (quarter : ℕ) (z : ℤ) → quarter ≤ QUARTERS → is_thrust_coordinate z ≡ true →
    is_thrust_coordinate (quarter_of quarter z) ≡ true
quarter_within zero z few within =
    let below = floor_below (z *ℤ pos 0) (pos QUARTERS) (omega (arith, ints)) in
    let above = floor_above (z *ℤ pos 0) (pos QUARTERS) (omega (arith, ints)) in
    grind (arith, ints, nat_tests)
quarter_within (suc zero) z few within =
    let below = floor_below (z *ℤ pos 1) (pos QUARTERS) (omega (arith, ints)) in
    let above = floor_above (z *ℤ pos 1) (pos QUARTERS) (omega (arith, ints)) in
    grind (arith, ints, nat_tests)
quarter_within (suc (suc zero)) z few within =
    let below = floor_below (z *ℤ pos 2) (pos QUARTERS) (omega (arith, ints)) in
    let above = floor_above (z *ℤ pos 2) (pos QUARTERS) (omega (arith, ints)) in
    grind (arith, ints, nat_tests)
quarter_within (suc (suc (suc zero))) z few within =
    let below = floor_below (z *ℤ pos 3) (pos QUARTERS) (omega (arith, ints)) in
    let above = floor_above (z *ℤ pos 3) (pos QUARTERS) (omega (arith, ints)) in
    grind (arith, ints, nat_tests)
quarter_within (suc (suc (suc (suc zero)))) z few within =
    let below = floor_below (z *ℤ pos 4) (pos QUARTERS) (omega (arith, ints)) in
    let above = floor_above (z *ℤ pos 4) (pos QUARTERS) (omega (arith, ints)) in
    grind (arith, ints, nat_tests)
quarter_within (suc (suc (suc (suc (suc quarter))))) z few within = absurd (omega arith)

module _ (quarter : ℕ) (few : quarter ≤ QUARTERS) where
  point_within : (p : Point) → is_ring_point p ≡ true → is_thrust (scaled_point quarter p) ≡ true
  point_within p is =
      let thirds = and_parts (is_thrust_coordinate p.x && is_thrust_coordinate p.y
      && nat_abs p.x % QUARTERS == 0) (nat_abs p.y % QUARTERS == 0) is in
      let halves = and_parts (is_thrust_coordinate p.x && is_thrust_coordinate p.y)
      (nat_abs p.x % QUARTERS == 0) thirds.0 in
      let both = and_parts (is_thrust_coordinate p.x) (is_thrust_coordinate p.y) halves.0 in
      and_from (is_thrust_coordinate (quarter_of quarter p.x))
      (is_thrust_coordinate (quarter_of quarter p.y)) (quarter_within quarter p.x few both.0)
      (quarter_within quarter p.y few both.1)

  points_within : (points : List Point) → list_all is_ring_point points ≡ true →
      list_all is_thrust (map (scaled_point quarter) points) ≡ true
  points_within [] are = refl
  points_within (p ∷ points) are =
      let both = and_parts (is_ring_point p) (list_all is_ring_point points) are in
      and_from (is_thrust (scaled_point quarter p))
      (list_all is_thrust (map (scaled_point quarter) points)) (point_within p both.0)
      (points_within points both.1)

  pieces_within : (pieces : List (List Point)) → are_whole_points pieces ≡ true →
      are_thrusts (scaled_points quarter pieces) ≡ true
  pieces_within [] are = refl
  pieces_within (piece ∷ pieces) are =
      let both = and_parts (list_all is_ring_point piece) (are_whole_points pieces) are in
      and_from (list_all is_thrust (map (scaled_point quarter) piece))
      (are_thrusts (scaled_points quarter pieces)) (points_within piece both.0)
      (pieces_within pieces both.1)

  alone_within : (pieces : List (List Point)) → are_thrusts pieces ≡ true →
      are_thrusts (or_alone pieces) ≡ true
  alone_within [] are = refl
  alone_within (piece ∷ pieces) are = are

  pub left_within : (mask : ℕ) (pieces : List (List Point)) → are_whole_points pieces ≡ true →
      are_thrusts (all_points (pieces_with (or_alone (scaled_points quarter (free mask pieces)))))
      ≡ true
  left_within mask pieces are =
      ap are_thrusts (points_with (or_alone (scaled_points quarter (free mask pieces))))
      ∙ alone_within (scaled_points quarter (free mask pieces))
      (pieces_within (free mask pieces) (free_all (list_all is_ring_point) mask pieces are))
