-- Fans: convex cycles of the origin and some points, in their order.
use Rattle.std.specs.Prelude.{◌≡◌, ℕ, zero, suc, pos, ◌≤◌, int_le, List, [], ◌∷◌, length, map, Bool, ◌&&◌}
use Rattle.std.specs.Prelude.{IsTrue}
use Rattle.std.specs.List.{list_all, Contains}
use Rattle.plant_model.specs.declared.limits.TheConstants.{QUARTERS}
use Rattle.plant_model.specs.declared.thrust.Point.{Point}
use Rattle.plant_model.specs.declared.thrust.Sector.{Sector}
use Rattle.plant_model.specs.Rings.{are_sectors, cut, is_ring, origin, side}
use Rattle.thrust_region.specs.Scaling.{scaled_point}
use Rattle.wrench_geometry.specs.declared.vector.Vec3.{Vec3}
use Rattle.wrench_geometry.specs.Vectors.{zero_vector}
use Rattle.wrench_geometry.specs.Wrenches.{AreImages, image_at, image_of}

-- the origin and all points stand to the left of or on the line from a to b
abbrev pub are_left : List Point → Point → Point → Bool
are_left points a b =
    int_le (pos 0) (side a b origin) && list_all (λ p. int_le (pos 0) (side a b p)) points

-- so they do of the lines from one point on to each of the others in turn, and to the origin
abbrev pub are_left_from : List Point → Point → List Point → Bool
are_left_from points a [] = are_left points a origin
are_left_from points a (b ∷ rest) = are_left points a b && are_left_from points b rest

-- in the cycle of the origin and the points in order every point and the origin stand to the left
-- of or on the line of each edge
abbrev pub is_fan : List Point → Bool
is_fan points = are_left_from points origin points

-- the thrust of which a vector is the image
abbrev pub thrust_of : Vec3 → Point
thrust_of v = record { x = v.x; y = v.y }

-- the vectors are the images of thrusts under one lever
pub record HaveOneLever (list : List Vec3) : Type 0 where
  pub lever : Point
  pub are : list ≡ map (image_of lever) (map thrust_of list)

pub record AreAtLever (list : List Vec3) : Type 0 where
  pub images : AreImages list
  pub one_lever : HaveOneLever list

-- the corners of the cycle of the origin and images: the origin, the images, and the origin again
abbrev pub corner_at : List Vec3 → ℕ → Vec3
corner_at list zero = zero_vector
corner_at list (suc i) = image_at list i

-- each piece of the cutting rule is a fan, at every quarter
abbrev pub PiecesAreFans : Type 0
PiecesAreFans =
    (ring : List Point) (sectors : List Sector) (piece : List Point) (quarter : ℕ) →
    IsTrue (is_ring ring) → IsTrue (are_sectors (length ring) sectors) →
    Contains (cut ring sectors) piece → quarter ≤ QUARTERS →
    IsTrue (is_fan (map (scaled_point quarter) piece))
