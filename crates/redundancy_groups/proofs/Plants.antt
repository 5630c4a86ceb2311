-- What a plant's validity says of its thrusters and their pieces.
use Rattle.std.proofs.Common.{◌≡◌, ◌≢◌, ◌≤◌, ℤ, ◌-ℤ◌, nat_abs, List, [], ◌∷◌}
use Rattle.std.proofs.Common.{length}
use Rattle.std.proofs.Common.{Bool, true, false, ◌&&◌, refl, sym, subst}
use Rattle.std.proofs.Common.{arith}
use Rattle.std.specs.Prelude.{nat_le}
use Rattle.std.specs.List.{list_all}
use Rattle.std.proofs.Math.Dec.{eqb}
use Rattle.std.proofs.lemmas.Bool.{and_parts, eqb-true, false≢true}
use Rattle.std.proofs.lemmas.Bool.Decides.{nat_tests}
use Rattle.std.proofs.lemmas.Int.{ints}
use Rattle.plant_model.specs.declared.limits.TheConstants.{FARTHEST_LEVER, MOST_CHOICES, MOST_POWER}
use Rattle.plant_model.specs.declared.parts.Generator.{Generator}
use Rattle.plant_model.specs.declared.parts.Thruster.{Thruster}
use Rattle.plant_model.specs.declared.plant.Parts.{Parts}
use Rattle.plant_model.specs.declared.thrust.Point.{Point}
use Rattle.plant_model.specs.declared.thrust.Sector.{Sector}
use Rattle.plant_model.specs.Rings.{are_sectors, cut, is_ring, is_zero, same_point}
use Rattle.plant_model.specs.Plants.{are_connected, are_named_apart, are_thresholds_from}
use Rattle.plant_model.specs.Plants.{choices_of}
use Rattle.plant_model.specs.Plants.{is_control, is_from_one_to, is_frozen_thrust, is_group}
use Rattle.plant_model.specs.Plants.{is_plant}
use Rattle.plant_model.specs.Plants.{is_status, is_thruster, is_within, piece_points, same_pieces}
use Rattle.plant_model.specs.Plants.{same_points}
use Rattle.thrust_region.specs.Scaling.{are_whole_points}
use Rattle.thrust_region.proofs.Cover.{some_piece}
use Rattle.thrust_region.proofs.Lists.{HasPart, SomeOf}
use Rattle.thrust_region.proofs.PiecePoints.{pieces_are_whole}

first_part : (x y : Bool) → (x && y) ≡ true → x ≡ true
first_part x y h = let parts = and_parts x y h in parts.0

second_part : (x y : Bool) → (x && y) ≡ true → y ≡ true
second_part x y h = let parts = and_parts x y h in parts.1

-- ---- pieces that are found the same are equal

coordinate_same : (y z : ℤ) → is_zero (y -ℤ z) ≡ true → y ≡ z
coordinate_same y z h = let none : nat_abs (y -ℤ z) ≡ 0 = eqb-true (nat_abs (y -ℤ z)) 0 h in
    omega (arith, ints)

point_same : (a b : Point) → same_point a b ≡ true → a ≡ b
point_same a b h =
    let both = and_parts (is_zero (a.x -ℤ b.x)) (is_zero (a.y -ℤ b.y)) h in
    let x = coordinate_same a.x b.x both.0 in
    let y = coordinate_same a.y b.y both.1 in
    λ i. record { x = x i; y = y i }

points_same : (ps rs : List Point) → same_points ps rs ≡ true → ps ≡ rs
points_same [] [] h = refl
points_same [] (r ∷ rs) h = absurd (false≢true h)
points_same (p ∷ ps) [] h = absurd (false≢true h)
points_same (p ∷ ps) (r ∷ rs) h =
    let both = and_parts (same_point p r) (same_points ps rs) h in
    let one = point_same p r both.0 in
    let others = points_same ps rs both.1 in
    λ i. one i ∷ others i

pieces_same : (ps rs : List (List Point)) → same_pieces ps rs ≡ true → ps ≡ rs
pieces_same [] [] h = refl
pieces_same [] (r ∷ rs) h = absurd (false≢true h)
pieces_same (p ∷ ps) [] h = absurd (false≢true h)
pieces_same (p ∷ ps) (r ∷ rs) h =
    let both = and_parts (same_points p r) (same_pieces ps rs) h in
    let one = points_same p r both.0 in
    let others = pieces_same ps rs both.1 in
    λ i. one i ∷ others i

-- ---- a ring is cut into some pieces

some_of : (P : List Point → Type 0) (pieces : List (List Point)) → SomeOf P pieces →
    1 ≤ length pieces
some_of P [] some = absurd some
some_of P (piece ∷ pieces) some = omega arith

some_cut : (ring : List Point) (sectors : List Sector) → is_ring ring ≡ true →
    are_sectors (length ring) sectors ≡ true → 1 ≤ length (cut ring sectors)
some_cut ring sectors is valid = by_test (eqb (length ring) 2) refl
  where
    by_test : (b : Bool) → eqb (length ring) 2 ≡ b → 1 ≤ length (cut ring sectors)
    by_test true two = rw two (omega arith)
    by_test false many =
        let longer : length ring ≢ 2 = grind (arith, nat_tests) in
        some_of (HasPart []) (cut ring sectors) (some_piece ring is longer sectors valid)

module _ (t : Thruster) (fit : is_thruster t ≡ true) where
  abbrev ring : List Point
  ring = t.ring.points.items

  abbrev sectors : List Sector
  sectors = t.sectors.items

  abbrev to_thresholds : Bool
  to_thresholds =
      is_within FARTHEST_LEVER t.lever.x && is_within FARTHEST_LEVER t.lever.y
      && is_from_one_to MOST_POWER t.rated && are_thresholds_from 1 t.thresholds

  abbrev to_ring : Bool
  to_ring = to_thresholds && is_ring ring

  abbrev to_sectors : Bool
  to_sectors = to_ring && are_sectors (length ring) sectors

  abbrev to_pieces : Bool
  to_pieces = to_sectors && same_pieces (piece_points t) (cut ring sectors)

  up_to_pieces : to_pieces ≡ true
  up_to_pieces = first_part to_pieces (is_frozen_thrust t.frozen) fit

  up_to_sectors : to_sectors ≡ true
  up_to_sectors = first_part to_sectors _ up_to_pieces

  ring_is : is_ring ring ≡ true
  ring_is = second_part to_thresholds (is_ring ring) (first_part to_ring _ up_to_sectors)

  sectors_are : are_sectors (length ring) sectors ≡ true
  sectors_are = second_part to_ring (are_sectors (length ring) sectors) up_to_sectors

  pieces_are : piece_points t ≡ cut ring sectors
  pieces_are =
      pieces_same (piece_points t) (cut ring sectors)
      (second_part to_sectors (same_pieces (piece_points t) (cut ring sectors)) up_to_pieces)

  -- a thruster has pieces, whose quarters are whole
  pub some_pieces : 1 ≤ length (piece_points t)
  some_pieces =
      subst (λ (l : List (List Point)). 1 ≤ length l) (sym pieces_are)
      (some_cut ring sectors ring_is sectors_are)

  pub whole_pieces : are_whole_points (piece_points t) ≡ true
  whole_pieces =
      subst (λ (l : List (List Point)). are_whole_points l ≡ true) (sym pieces_are)
      (pieces_are_whole ring sectors ring_is sectors_are)

module _ (p : Parts) (fit : is_plant p ≡ true) where
  abbrev up_to_powers : Bool
  up_to_powers =
      is_control p && are_named_apart p && are_connected p
      && list_all (λ (g : Generator). is_from_one_to MOST_POWER g.power) p.generators.items

  abbrev up_to_thrusters : Bool
  up_to_thrusters = up_to_powers && list_all is_thruster p.thrusters.items

  abbrev up_to_choices : Bool
  up_to_choices = up_to_thrusters && nat_le (choices_of p.thrusters.items) MOST_CHOICES

  first_tests : up_to_choices ≡ true
  first_tests =
      first_part up_to_choices _
      (first_part (up_to_choices && list_all (is_group p) p.groups.items)
      (is_status p p.opening) fit)

  pub thrusters_fit : list_all is_thruster p.thrusters.items ≡ true
  thrusters_fit =
      second_part up_to_powers (list_all is_thruster p.thrusters.items)
      (first_part up_to_thrusters _ first_tests)

  pub few_choices : choices_of p.thrusters.items ≤ MOST_CHOICES
  few_choices =
      let test =
      second_part up_to_thrusters (nat_le (choices_of p.thrusters.items) MOST_CHOICES)
      first_tests in grind (arith, nat_tests)
