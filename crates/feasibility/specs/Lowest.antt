-- Outcomes in lowest terms.
use Rattle.std.specs.Prelude.{◌≡◌, ℤ, pos, ◌*ℤ◌, ◌≤ℤ◌, List, map, All}
use Rattle.std.specs.Int.{int_div_euclid}
use Rattle.dp_num.specs.Fractions.{Divides}
use Rattle.plant_model.specs.declared.thrust.Thrust.{Thrust}
use Rattle.wrench_geometry.specs.declared.vector.Vec3.{Vec3}
use Rattle.wrench_geometry.specs.Vectors.{scaled_by}
use Rattle.exit_point.specs.Corners.{DividesEach}
use Rattle.certificate.specs.declared.outcome.Outcome.{Outcome}
use Rattle.certificate.specs.declared.outcome.Outcome.TheVariants.{Holds, Lost}

-- g divides both coordinates
pub record DividesBoth (g : ℤ) (thrust : Thrust) : Type 0 where
  pub x : Divides g thrust.x
  pub y : Divides g thrust.y

-- g divides the denominator and all coordinates
pub record IsCommonDivisor (q : ℤ) (thrusts : List Thrust) (g : ℤ) : Type 0 where
  pub denominator : Divides g q
  pub coordinates : All (DividesBoth g) thrusts

-- g is at least 1 and a common divisor, which each other one divides
pub record IsGreatestDivisor (q : ℤ) (thrusts : List Thrust) (g : ℤ) : Type 0 where
  pub from_1 : pos 1 ≤ℤ g
  pub common : IsCommonDivisor q thrusts g
  pub greatest : (d : ℤ) → IsCommonDivisor q thrusts d → Divides d g

-- a denominator and thrusts over it have no divisor in common but 1 and -1
abbrev pub AreLowest : ℤ → List Thrust → Type 0
AreLowest q thrusts = (g : ℤ) → IsCommonDivisor q thrusts g → Divides g (pos 1)

-- the components have no divisor in common but 1 and -1
abbrev pub IsPrimitive : Vec3 → Type 0
IsPrimitive w = (g : ℤ) → DividesEach g w → Divides g (pos 1)

-- g is at least 1 and divides each component, and whatever does divides g
pub record IsGreatestOf (w : Vec3) (g : ℤ) : Type 0 where
  pub from_1 : pos 1 ≤ℤ g
  pub divides : DividesEach g w
  pub greatest : (d : ℤ) → DividesEach d w → Divides d g

-- a Holds has its thrusts, and a Lost each cut, in lowest terms
abbrev pub IsLowest : Outcome → Type 0
IsLowest (Holds choice q thrusts) = AreLowest q thrusts.list.items
IsLowest (Lost cuts) = All IsPrimitive cuts.list.items

abbrev pub times : ℤ → Thrust → Thrust
times k thrust = record { x = k *ℤ thrust.x; y = k *ℤ thrust.y }

-- the floors of the coordinates over g
abbrev pub divided_by : ℤ → Thrust → Thrust
divided_by g thrust = record { x = int_div_euclid thrust.x g; y = int_div_euclid thrust.y g }

-- thrusts over r are thrusts over q, each with its denominator a whole number of times as great, in
-- lowest terms
pub record AreReduced (q : ℤ) (thrusts : List Thrust) (r : ℤ) (lowest : List Thrust) : Type 0 where
  pub factor : ℤ
  pub from_1 : pos 1 ≤ℤ factor
  pub denominator : q ≡ factor *ℤ r
  pub multiples : thrusts ≡ map (times factor) lowest
  pub are_lowest : AreLowest r lowest

-- the direction is a whole number of times as long as a primitive one
pub record IsShortened (w v : Vec3) : Type 0 where
  pub factor : ℤ
  pub from_1 : pos 1 ≤ℤ factor
  pub is : w ≡ scaled_by factor v
  pub primitive : IsPrimitive v
