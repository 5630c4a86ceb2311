-- The levers of a plant and the points of chosen pieces are within their limits.
use Rattle.std.proofs.Common.{◌≡◌, ℕ, ◌+◌, ◌<◌, ◌≤◌, ◌&&◌, ℤ, pos, Bool, true, List, ◌∷◌}
use Rattle.std.proofs.Common.{length, map, get_or, nat_abs, drop, refl, arith}
use Rattle.std.specs.Prelude.{All, nat_le}
use Rattle.std.specs.List.{list_all}
use Rattle.std.proofs.lemmas.Bool.{and_parts}
use Rattle.std.proofs.lemmas.Bool.Decides.{nat_tests}
use Rattle.std.proofs.lemmas.Int.{ints}
use Rattle.plant_model.specs.declared.limits.TheConstants.{FARTHEST_LEVER, MOST_CHOICES, MOST_POWER}
use Rattle.plant_model.specs.declared.limits.TheConstants.{MOST_THRUST}
use Rattle.plant_model.specs.declared.parts.Generator.{Generator}
use Rattle.plant_model.specs.declared.parts.Thruster.{Thruster}
use Rattle.plant_model.specs.declared.plant.Parts.{Parts}
use Rattle.plant_model.specs.declared.thrust.Piece.{Piece}
use Rattle.plant_model.specs.declared.thrust.Point.{Point}
use Rattle.plant_model.specs.Numbers.{IsWithin}
use Rattle.plant_model.specs.Rings.{are_sectors, cut, is_ring, is_thrust_coordinate}
use Rattle.plant_model.specs.Plants.{are_connected, are_named_apart, are_thresholds_from}
use Rattle.plant_model.specs.Plants.{choices_of, is_control, is_from_one_to, is_frozen_thrust}
use Rattle.plant_model.specs.Plants.{is_group, is_plant, is_status, is_thruster, is_within}
use Rattle.plant_model.specs.Plants.{piece_points, same_pieces}
use Rattle.thrust_region.proofs.Lists.{all_at, left_from}
use Rattle.thrust_region.specs.Pieces.{is_thrust, points_of}
use Rattle.wrench_geometry.specs.Chosen.{images_of}
use Rattle.wrench_geometry.specs.Wrenches.{IsPointWithin, image_of}

first_part : (x y : Bool) → (x && y) ≡ true → x ≡ true
first_part x y h = let parts = and_parts x y h in parts.0

second_part : (x y : Bool) → (x && y) ≡ true → y ≡ true
second_part x y h = let parts = and_parts x y h in parts.1

within_from_test : (most : ℕ) (z : ℤ) → nat_le (nat_abs z) most ≡ true → IsWithin (pos most) z
within_from_test most z h =
    let g : nat_abs z ≤ most = grind (arith, nat_tests) in
    record { low = omega (arith, ints); high = omega (arith, ints) }

lever_from_test : (t : Thruster) → is_thruster t ≡ true → IsPointWithin FARTHEST_LEVER t.lever
lever_from_test t h =
    let lever = is_within FARTHEST_LEVER t.lever.x && is_within FARTHEST_LEVER t.lever.y in
    let to_rated = lever && is_from_one_to MOST_POWER t.rated in
    let to_thresholds = to_rated && are_thresholds_from 1 t.thresholds in
    let to_ring = to_thresholds && is_ring t.ring.points.items in
    let to_sectors = to_ring && are_sectors (length t.ring.points.items) t.sectors.items in
    let to_pieces =
    to_sectors && same_pieces (piece_points t) (cut t.ring.points.items t.sectors.items) in
    let both =
    first_part lever _
    (first_part to_rated _
    (first_part to_thresholds _
    (first_part to_ring _
    (first_part to_sectors _
    (first_part to_pieces (is_frozen_thrust t.frozen) h))))) in
    record {
      x = within_from_test 1600 t.lever.x
          (first_part (is_within FARTHEST_LEVER t.lever.x)
          (is_within FARTHEST_LEVER t.lever.y) both);
      y = within_from_test 1600 t.lever.y
          (second_part (is_within FARTHEST_LEVER t.lever.x)
          (is_within FARTHEST_LEVER t.lever.y) both);
    }

-- the thrusters of a plant stand within their limits
pub lever_within : (p : Parts) → is_plant p ≡ true → (i : ℕ) (d : Thruster) →
    i < length p.thrusters.items → IsPointWithin FARTHEST_LEVER (get_or p.thrusters.items i d).lever
lever_within p fit i d there =
    let powers =
    list_all (λ (g : Generator). is_from_one_to MOST_POWER g.power) p.generators.items in
    let to_connected = is_control p && are_named_apart p && are_connected p in
    let to_powers = to_connected && powers in
    let to_thrusters = to_powers && list_all is_thruster p.thrusters.items in
    let to_choices = to_thrusters && nat_le (choices_of p.thrusters.items) MOST_CHOICES in
    let to_groups = to_choices && list_all (is_group p) p.groups.items in
    let h = first_part to_thrusters _
    (first_part to_choices _ (first_part to_groups (is_status p p.opening) fit)) in
    lever_from_test (get_or p.thrusters.items i d)
    (all_at is_thruster p.thrusters.items i d there
    (second_part to_powers (list_all is_thruster p.thrusters.items) h))

-- the points of thrusts within the greatest one
pub points_within : (points : List Point) → list_all is_thrust points ≡ true →
    All (IsPointWithin MOST_THRUST) points
points_within points all k d below =
    let test = all_at is_thrust points k d below all in
    let p = get_or points k d in
    record {
      x = within_from_test 2000 p.x
          (first_part (is_thrust_coordinate p.x) (is_thrust_coordinate p.y) test);
      y = within_from_test 2000 p.y
          (second_part (is_thrust_coordinate p.x) (is_thrust_coordinate p.y) test);
    }

-- the images that are left, with those of one piece taken off
pub images_left : (thrusters : List Thruster) (pieces : List Piece) (i : ℕ) (t : Thruster)
    (p : Piece) → i < length thrusters → i < length pieces →
    images_of (map (λ t. t.lever) (drop i thrusters)) (map points_of (drop i pieces))
    ≡ map (image_of (get_or thrusters i t).lever) (points_of (get_or pieces i p))
    ∷ images_of (map (λ t. t.lever) (drop (i + 1) thrusters))
    (map points_of (drop (i + 1) pieces))
images_left thrusters pieces i t p there here =
    rw (left_from thrusters i t there, left_from pieces i p here) refl
