-- Thrusts in chosen pieces beside fixed thrusts.
use Rattle.std.specs.Prelude.{ℕ, ◌<◌, ℤ, List, [], length, slice_index_or}
use Rattle.plant_model.specs.Lies.{LiesIn}
use Rattle.plant_model.specs.Rings.{origin}
use Rattle.plant_model.specs.declared.thrust.Point.{Point}
use Rattle.plant_model.specs.declared.thrust.Thrust.{Thrust}
use Rattle.wrench_geometry.specs.Wrenches.{IsPointWithin}
use Rattle.certificate.specs.Outcomes.{no_thrust, without}
use Rattle.certificate.specs.Sides.{place_of}
use Rattle.certificate.specs.declared.holds.TheConstants.{FARTHEST_TAKEN}

-- the coordinates are no farther than those of a fixed thrust and a point together, times the
-- greatest denominator
abbrev pub IsTaken : Thrust → Type 0
IsTaken thrust = IsPointWithin FARTHEST_TAKEN (place_of thrust)

-- what is left of the thrust at a place, over q, without the fixed thrust lies in the piece there
abbrev pub LiesAt : List (List Point) → List Point → List Thrust → ℤ → ℕ → Type 0
LiesAt pieces fixed thrusts q i =
    LiesIn (slice_index_or pieces i [])
    (without q (slice_index_or fixed i origin) (slice_index_or thrusts i no_thrust)) q

abbrev pub LieBelow : List (List Point) → List Point → List Thrust → ℤ → ℕ → Type 0
LieBelow pieces fixed thrusts q k = (i : ℕ) → i < k → LiesAt pieces fixed thrusts q i

-- the thrust at the place doesn't lie so, and each before it does
pub record IsFirstAstray (pieces : List (List Point)) (fixed : List Point) (thrusts : List Thrust)
    (q : ℤ) (i : ℕ) : Type 0 where
  pub there : i < length thrusts
  pub astray : ¬ LiesAt pieces fixed thrusts q i
  pub first : LieBelow pieces fixed thrusts q i
