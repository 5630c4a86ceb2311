-- Images of thrusts, and the sums of one image of each list.
use Rattle.std.specs.Prelude.{ℕ, ℤ, ◌-ℤ◌, ◌*ℤ◌, List, ◌∷◌, All, slice_index_or}
use Rattle.plant_model.specs.Numbers.{IsWithin}
use Rattle.plant_model.specs.declared.thrust.Point.{Point}
use Rattle.wrench_geometry.specs.declared.lever.TheConstants.{MOST_TURN}
use Rattle.plant_model.specs.declared.limits.TheConstants.{MOST_FORCE, MOST_MOMENT, MOST_THRUST}
use Rattle.wrench_geometry.specs.declared.vector.Vec3.{Vec3}
use Rattle.wrench_geometry.specs.Vectors.{IsVectorWithin, sum_of, zero_vector}

-- the coordinates are at most so far from 0
pub record IsPointWithin (most : ℤ) (p : Point) : Type 0 where
  pub x : IsWithin most p.x
  pub y : IsWithin most p.y

-- the force and the moment of a thrust at a lever
abbrev pub image_of : Point → Point → Vec3
image_of lever thrust = record {
  x = thrust.x;
  y = thrust.y;
  z = lever.x *ℤ thrust.y -ℤ lever.y *ℤ thrust.x;
}

-- the vector is within the bounds of an image of a thrust
abbrev pub IsImage : Vec3 → Type 0
IsImage v = IsVectorWithin MOST_THRUST MOST_TURN v

abbrev pub AreImages : List Vec3 → Type 0
AreImages list = All IsImage list

-- the vector is within the bounds of a sum of images of thrusts, which are a demand's limits
abbrev pub IsSum : Vec3 → Type 0
IsSum v = IsVectorWithin MOST_FORCE MOST_MOMENT v

-- the vector is a demand within its limits
abbrev pub IsDemandVector : Vec3 → Type 0
IsDemandVector d = IsVectorWithin MOST_FORCE MOST_MOMENT d

-- the image at a place of the list, and the origin past the last one
abbrev pub image_at : List Vec3 → ℕ → Vec3
image_at list place = slice_index_or list place zero_vector

-- the sum of one image of each list, by their places
abbrev pub sum_at : List (List Vec3) → List ℕ → Vec3
sum_at (list ∷ lists) (place ∷ places) = sum_of (image_at list place) (sum_at lists places)
sum_at _ _ = zero_vector
