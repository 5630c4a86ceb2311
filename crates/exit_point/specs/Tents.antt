-- Vectors between the origin and three sums of lists.
use Rattle.std.specs.Prelude.{◌≡◌, ℤ, pos, ◌+ℤ◌, ◌≤ℤ◌, List}
use Rattle.arrayvec.specs.ArrayVec.{ArrayVec}
use Rattle.wrench_geometry.specs.declared.vector.Vec3.{Vec3}
use Rattle.wrench_geometry.specs.Vectors.{dot_of, scaled_by}
use Rattle.exit_point.specs.declared.tents.Tent.{Tent}
use Rattle.exit_point.specs.Exits.{EachHasWeights, weighted_sum}

-- the vector is a mean of each list's images and the origin, summed over the lists: the weights of
-- a list sum to no more than t, by which the sum is divided
pub record IsMean (lists : List (List Vec3)) (d : Vec3) : Type 0 where
  pub q : ℤ
  pub t : ℤ
  pub rows : List (ArrayVec ℤ)
  pub from_1 : pos 1 ≤ℤ t
  pub enough : q ≤ℤ t
  pub weights : EachHasWeights q lists rows
  pub meets : weighted_sum rows lists ≡ scaled_by t d

-- the shares of the corners in the vector, over the height, which is above 0: none is below 0, and
-- they sum to no more than the height
pub record Covers (tent : Tent) (d : Vec3) : Type 0 where
  pub height : pos 1 ≤ℤ tent.height
  pub first : pos 0 ≤ℤ dot_of tent.first d
  pub second : pos 0 ≤ℤ dot_of tent.second d
  pub third : pos 0 ≤ℤ dot_of tent.third d
  pub within : (dot_of tent.first d +ℤ dot_of tent.second d +ℤ dot_of tent.third d) ≤ℤ
      tent.height

-- whatever the tent covers is such a mean
abbrev pub IsTent : List (List Vec3) → Tent → Type 0
IsTent lists tent = (d : Vec3) → Covers tent d → IsMean lists d
