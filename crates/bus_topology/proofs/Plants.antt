-- The limits of the power of a plant's parts.
use Rattle.std.proofs.Common.{◌≡◌, ℕ, ◌<◌, ◌≤◌, Bool, true, ◌&&◌, length, get_or, subst, sym, arith}
use Rattle.std.specs.Prelude.{nat_le}
use Rattle.std.specs.List.{list_all}
use Rattle.std.proofs.lemmas.Bool.{and_parts}
use Rattle.std.proofs.lemmas.Bool.Decides.{nat_tests}
use Rattle.std.proofs.lemmas.List.Sums.{AllPass-from_list_all}
use Rattle.plant_model.specs.declared.limits.TheConstants.{FARTHEST_LEVER, MOST_CHOICES, MOST_POWER}
use Rattle.plant_model.specs.declared.parts.Generator.{Generator}
use Rattle.plant_model.specs.declared.parts.Thruster.{Thruster}
use Rattle.plant_model.specs.declared.plant.Parts.{Parts}
use Rattle.plant_model.specs.Rings.{are_sectors, cut, is_ring}
use Rattle.plant_model.specs.Plants.{are_connected, are_named_apart, are_thresholds_from}
use Rattle.plant_model.specs.Plants.{choices_of, is_control, is_from_one_to, is_frozen_thrust}
use Rattle.plant_model.specs.Plants.{is_group, is_plant, is_status, is_thruster, is_within}
use Rattle.plant_model.specs.Plants.{piece_points, same_pieces}

-- of a test in two parts that passes, the first and the second pass
first_part : (x y : Bool) → (x && y) ≡ true → x ≡ true
first_part x y h = let parts = and_parts x y h in parts.0

second_part : (x y : Bool) → (x && y) ≡ true → y ≡ true
second_part x y h = let parts = and_parts x y h in parts.1

most_from_test : (most n : ℕ) → is_from_one_to most n ≡ true → n ≤ most
most_from_test most n h = let test = second_part (nat_le 1 n) (nat_le n most) h in
    grind (arith, nat_tests)

rated_from_test : (t : Thruster) → is_thruster t ≡ true → t.rated ≤ MOST_POWER
rated_from_test t h =
    let lever = is_within FARTHEST_LEVER t.lever.x && is_within FARTHEST_LEVER t.lever.y in
    let to_rated = lever && is_from_one_to MOST_POWER t.rated in
    let to_thresholds = to_rated && are_thresholds_from 1 t.thresholds in
    let to_ring = to_thresholds && is_ring t.ring.points.items in
    let to_sectors = to_ring && are_sectors (length t.ring.points.items) t.sectors.items in
    let to_pieces =
    to_sectors && same_pieces (piece_points t) (cut t.ring.points.items t.sectors.items) in
    most_from_test MOST_POWER t.rated
    (second_part lever _
    (first_part to_rated _
    (first_part to_thresholds _
    (first_part to_ring _
    (first_part to_sectors _
    (first_part to_pieces (is_frozen_thrust t.frozen) h))))))

module _ (p : Parts) (fit : is_plant p ≡ true) where
  powers_and_thrusters : (list_all (λ (g : Generator). is_from_one_to MOST_POWER g.power)
      p.generators.items ≡ true) × (list_all is_thruster p.thrusters.items ≡ true)
  powers_and_thrusters =
      let powers =
      list_all (λ (g : Generator). is_from_one_to MOST_POWER g.power) p.generators.items in
      let to_connected = is_control p && are_named_apart p && are_connected p in
      let to_powers = to_connected && powers in
      let to_thrusters = to_powers && list_all is_thruster p.thrusters.items in
      let to_choices = to_thrusters && nat_le (choices_of p.thrusters.items) MOST_CHOICES in
      let to_groups = to_choices && list_all (is_group p) p.groups.items in
      let h = first_part to_thrusters _
      (first_part to_choices _ (first_part to_groups (is_status p p.opening) fit)) in (
        second_part to_connected powers (first_part to_powers _ h),
        second_part to_powers (list_all is_thruster p.thrusters.items) h,
      )

  -- a generator of a plant gives at most MOST_POWER
  pub power_within : (place : ℕ) (g : Generator) → place < length p.generators.items →
      g ≡ get_or p.generators.items place g → g.power ≤ MOST_POWER
  power_within place g there is =
      let test =
      AllPass-from_list_all (λ (x : Generator). is_from_one_to MOST_POWER x.power)
      p.generators.items powers_and_thrusters.0 place g there in
      subst (λ (x : Generator). x.power ≤ MOST_POWER) (sym is) (most_from_test MOST_POWER _ test)

  -- a thruster of a plant takes at most MOST_POWER
  pub rated_within : (place : ℕ) (t : Thruster) → place < length p.thrusters.items →
      t ≡ get_or p.thrusters.items place t → t.rated ≤ MOST_POWER
  rated_within place t there is =
      let test =
      AllPass-from_list_all is_thruster p.thrusters.items powers_and_thrusters.1 place t
      there in
      subst (λ (x : Thruster). x.rated ≤ MOST_POWER) (sym is)
      (rated_from_test (get_or p.thrusters.items place t) test)
