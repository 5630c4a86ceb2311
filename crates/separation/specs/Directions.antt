-- What lists of directions say of how far sums reach.
use Rattle.std.specs.Prelude.{◌≡◌, ℕ, suc, ◌≤◌, ℤ, pos, ◌≤ℤ◌, ◌<ℤ◌, ◌⊎◌, List, length, Contains}
use Rattle.wrench_geometry.specs.declared.vector.Vec3.{Vec3}
use Rattle.wrench_geometry.specs.Fans.{corner_at}
use Rattle.wrench_geometry.specs.Vectors.{IsVectorWithin, cross_of, difference_of, dot_of}
use Rattle.wrench_geometry.specs.Vectors.{greatest_of, zero_vector}
use Rattle.separation.specs.declared.directions.TheConstants.{DIRECTION_FORCE, DIRECTION_MOMENT}

-- the vector is within the bounds of a difference of two images
abbrev pub IsDirection : Vec3 → Type 0
IsDirection v = IsVectorWithin DIRECTION_FORCE DIRECTION_MOMENT v

-- b is 0 or has the sign that a has
pub record Keeps (a b : ℤ) : Type 0 where
  pub above : pos 0 ≤ℤ a → pos 0 ≤ℤ b
  pub below : a ≤ℤ pos 0 → b ≤ℤ pos 0

-- each direction's product with w is 0 or has the sign of that with u
abbrev pub KeepsSigns : List Vec3 → Vec3 → Vec3 → Type 0
KeepsSigns directions u w = (e : Vec3) → Contains directions e → Keeps (dot_of e u) (dot_of e w)

-- where the signs on the directions are kept, so is that of e
abbrev pub Settles : List Vec3 → Vec3 → Type 0
Settles directions e = (u w : Vec3) → KeepsSigns directions u w → Keeps (dot_of e u) (dot_of e w)

-- v is a point of the list or the origin
abbrev pub IsPoint : List Vec3 → Vec3 → Type 0
IsPoint list v = (v ≡ zero_vector) ⊎ Contains list v

-- the directions settle the difference of any two points of the list, the origin among its points
abbrev pub SettlesDifferences : List Vec3 → List Vec3 → Type 0
SettlesDifferences directions list =
    (a b : Vec3) → IsPoint list a → IsPoint list b → Settles directions (difference_of a b)

-- the directions settle each edge of the cycle of the origin and the points in order
abbrev pub SettlesEdges : List Vec3 → List Vec3 → Type 0
SettlesEdges directions list =
    (i : ℕ) → i ≤ length list →
    Settles directions (difference_of (corner_at list (suc i)) (corner_at list i))

-- where the signs on the directions are kept, a point of the list that is greatest stays greatest
abbrev pub KeepsGreatest : List Vec3 → List Vec3 → Type 0
KeepsGreatest directions list =
    (u w : Vec3) → KeepsSigns directions u w → (v : Vec3) → IsPoint list v →
    greatest_of u list ≡ dot_of u v → greatest_of w list ≡ dot_of w v

-- only the zero vector is perpendicular to all directions
abbrev pub Spans : List Vec3 → Type 0
Spans directions = (x : Vec3) → ((e : Vec3) → Contains directions e → dot_of e x ≡ pos 0) →
    (y : Vec3) → dot_of x y ≡ pos 0

-- v is a multiple, by a fraction, of the direction, which is not zero
pub record IsAlong (direction v : Vec3) : Type 0 where
  pub normal : cross_of direction v ≡ zero_vector
  pub not_zero : pos 0 <ℤ dot_of direction direction
