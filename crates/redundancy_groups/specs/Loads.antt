-- What fixed thrusts do to the vessel together.
use Rattle.std.specs.Prelude.{ℤ, pos, ◌+ℤ◌, ◌-ℤ◌, ◌*ℤ◌, List, fold, map}
use Rattle.std.specs.List.{zip}
use Rattle.plant_model.specs.declared.plant.Parts.{Parts}
use Rattle.plant_model.specs.declared.thrust.Point.{Point}
use Rattle.plant_model.specs.declared.wrench.Load.{Load}
use Rattle.plant_model.specs.Numbers.{IsWithin}

abbrev pub no_load : Load
no_load = record { x = pos 0; y = pos 0; n = pos 0 }

abbrev pub sum_of : Load → Load → Load
sum_of a b = record { x = a.x +ℤ b.x; y = a.y +ℤ b.y; n = a.n +ℤ b.n }

-- the force and the moment of a thrust at a lever
abbrev pub load_at : Point × Point → Load
load_at (lever, thrust) = record {
  x = thrust.x;
  y = thrust.y;
  n = lever.x *ℤ thrust.y -ℤ lever.y *ℤ thrust.x;
}

-- a load and that of one thrust more
abbrev pub with_load : Load → Point × Point → Load
with_load load pair = sum_of load (load_at pair)

-- the loads of the thrusts at their levers, taken together
abbrev pub load_of : List Point → List Point → Load
load_of levers thrusts = fold with_load no_load (zip levers thrusts)

abbrev pub levers_of : Parts → List Point
levers_of p = map (λ thruster. thruster.lever) p.thrusters.items

-- the components are at most so far from 0
pub record IsLoadWithin (most : ℤ) (load : Load) : Type 0 where
  pub x : IsWithin most load.x
  pub y : IsWithin most load.y
  pub n : IsWithin most load.n
