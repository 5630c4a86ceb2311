-- Orders of points by their products with directions, and the farthest points of lists.
use Rattle.std.specs.Prelude.{◌≡◌, ℕ, ◌≤ℤ◌, List}
use Rattle.std.specs.List.{AllZip}
use Rattle.wrench_geometry.specs.declared.vector.Vec3.{Vec3}
use Rattle.wrench_geometry.specs.Vectors.{IsVectorWithin, cross_of, dot_of}
use Rattle.wrench_geometry.specs.Wrenches.{image_at}
use Rattle.separation.specs.declared.directions.TheConstants.{DIRECTION_MOMENT}
use Rattle.separation.specs.Directions.{IsPoint}
use Rattle.exit_point.specs.declared.orders.Order.{Order}

-- the vector is within the bounds of the normal of an axis and a difference of two images
abbrev pub IsTilt : Vec3 → Type 0
IsTilt v = IsVectorWithin DIRECTION_MOMENT DIRECTION_MOMENT v

-- p is no farther than v: its product with w is no greater, where that is the same so is that with
-- u, and where both are, that with the normal of w and t
pub record IsNoFarther (order : Order) (p v : Vec3) : Type 0 where
  pub first : dot_of order.w p ≤ℤ dot_of order.w v
  pub second : dot_of order.w p ≡ dot_of order.w v → dot_of order.u p ≤ℤ dot_of order.u v
  pub third : dot_of order.w p ≡ dot_of order.w v → dot_of order.u p ≡ dot_of order.u v →
      dot_of order.w (cross_of order.t p) ≤ℤ dot_of order.w (cross_of order.t v)

-- no point of the list is farther than v, nor is the origin
abbrev pub IsFarthest : Order → List Vec3 → Vec3 → Type 0
IsFarthest order list v = (p : Vec3) → IsPoint list p → IsNoFarther order p v

-- the image that is chosen of each list is farthest
abbrev pub AreFarthest : Order → List (List Vec3) → List ℕ → Type 0
AreFarthest order lists places =
    AllZip (λ list place. IsFarthest order list (image_at list place)) lists places
