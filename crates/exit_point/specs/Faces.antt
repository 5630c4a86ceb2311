-- The face on which a cut is reached, and cuts of the face.
use Rattle.std.specs.Prelude.{◌≡◌, ℕ, ℤ, pos, ◌*ℤ◌, ◌≤ℤ◌, ◌<ℤ◌, ◌⊎◌, List, [], ◌∷◌, Bool, true}
use Rattle.std.specs.Prelude.{false}
use Rattle.std.specs.Ordering.{int_eq}
use Rattle.wrench_geometry.specs.declared.vector.Vec3.{Vec3}
use Rattle.wrench_geometry.specs.Vectors.{IsVectorWithin, cross_of, difference_of, dot_of}
use Rattle.wrench_geometry.specs.Vectors.{opposite_of, scaled_by, support_of, zero_vector}
use Rattle.wrench_geometry.specs.Wrenches.{image_at}
use Rattle.plant_model.specs.Numbers.{IsWithin}
use Rattle.separation.specs.Directions.{IsPoint}
use Rattle.exit_point.specs.declared.face_cuts.Face.{Face}
use Rattle.exit_point.specs.declared.face_cuts.FaceCut.{FaceCut}
use Rattle.exit_point.specs.declared.face_cuts.Rest.{Rest}
use Rattle.exit_point.specs.declared.face_cuts.TheConstants.{REST_FORCE, REST_MOMENT}
use Rattle.exit_point.specs.declared.orders.Order.{Order}
use Rattle.exit_point.specs.Corners.{IsCorner}
use Rattle.exit_point.specs.Orders.{AreFarthest, IsTilt}

-- the quotient of w's support and its product with d is the least of all directions that are ahead
-- of d
pub record IsLeastAlong (lists : List (List Vec3)) (d w : Vec3) (top bottom : ℤ) : Type 0 where
  pub bottom_is : bottom ≡ dot_of w d
  pub top_is : top ≡ support_of lists w
  pub ahead : pos 1 ≤ℤ bottom
  pub least : (u : Vec3) → pos 1 ≤ℤ dot_of u d →
      (top *ℤ dot_of u d) ≤ℤ (support_of lists u *ℤ bottom)

-- what is left of the demand, top times, past the point, bottom times
abbrev pub rest_of : ℤ → Vec3 → ℤ → Vec3 → Vec3
rest_of top d bottom v = difference_of (scaled_by top d) (scaled_by bottom v)

abbrev pub vector_of : Rest → Vec3
vector_of rest = record { x = rest.x; y = rest.y; z = rest.z }

abbrev pub IsUnit : Vec3 → Type 0
IsUnit v = IsVectorWithin (pos 1) (pos 1) v

pub record IsRest (rest : Rest) : Type 0 where
  pub x : IsWithin REST_FORCE rest.x
  pub y : IsWithin REST_FORCE rest.y
  pub z : IsWithin REST_MOMENT rest.z

abbrev pub kept_where : Bool → Vec3 → List Vec3 → List Vec3
kept_where true e list = e ∷ list
kept_where false e list = list

-- what the points of a list that are as far along w as v are more than v
abbrev pub past_of : Vec3 → Vec3 → List Vec3 → List Vec3
past_of w v [] = []
past_of w v (p ∷ list) = kept_where (int_eq (dot_of w p) (dot_of w v)) (difference_of p v)
    (past_of w v list)

-- the same, the origin among the points
abbrev pub face_of : Vec3 → Vec3 → List Vec3 → List Vec3
face_of w v list = past_of w v (zero_vector ∷ list)

-- such a face of each list, at the image that is chosen of it
abbrev pub faces_of : Vec3 → List (List Vec3) → List ℕ → List (List Vec3)
faces_of w (list ∷ lists) (place ∷ places) = face_of w (image_at list place) list ∷
    faces_of w lists places
faces_of w _ _ = []

abbrev pub faces_at : List (List Vec3) → Face → List (List Vec3)
faces_at lists face = faces_of face.w lists face.corner.places.items

-- points are ordered by their product with w alone
abbrev pub along_only : Vec3 → Order
along_only w = record { w = w; u = zero_vector; t = zero_vector }

-- the corner is farthest along the face's direction, which isn't zero and to which the rest is
-- perpendicular
pub record IsFaceAt (lists : List (List Vec3)) (face : Face) : Type 0 where
  pub corner : IsCorner lists face.corner
  pub farthest : AreFarthest (along_only face.w) lists face.corner.places.items
  pub rest : IsRest face.rest
  pub flat : dot_of face.w (vector_of face.rest) ≡ pos 0
  pub not_zero : pos 0 <ℤ dot_of face.w face.w

-- the cut has the parts of its direction, which is ahead of the rest
pub record IsFaceCut (lists : List (List Vec3)) (face : Face) (cut : FaceCut) : Type 0 where
  pub tilt : IsTilt cut.u
  pub bottom : cut.bottom ≡ dot_of cut.u (vector_of face.rest)
  pub top : cut.top ≡ support_of (faces_at lists face) cut.u
  pub ahead : pos 1 ≤ℤ cut.bottom
  pub from_0 : pos 0 ≤ℤ cut.top

-- the quotient of the first is at most that of the second
abbrev pub IsNoMore : FaceCut → FaceCut → Type 0
IsNoMore a b = (a.top *ℤ b.bottom) ≤ℤ (b.top *ℤ a.bottom)

-- the cut's quotient is at most that of the normal or of its opposite, whichever is ahead of the
-- rest
abbrev pub IsNoMoreAlong : List (List Vec3) → Face → FaceCut → Vec3 → Type 0
IsNoMoreAlong lists face cut normal =
    (x : Vec3) → (x ≡ normal) ⊎ (x ≡ opposite_of normal) →
    pos 1 ≤ℤ dot_of x (vector_of face.rest) →
    (cut.top *ℤ dot_of x (vector_of face.rest)) ≤ℤ (support_of (faces_at lists face) x *ℤ
    cut.bottom)

-- those of the normals of each axis and a difference
pub record IsNoMoreAcross (lists : List (List Vec3)) (face : Face) (cut : FaceCut)
    (e : Vec3) : Type 0 where
  pub x : IsNoMoreAlong lists face cut (cross_of (record { x = pos 1; y = pos 0; z = pos 0 }) e)
  pub y : IsNoMoreAlong lists face cut (cross_of (record { x = pos 0; y = pos 1; z = pos 0 }) e)
  pub z : IsNoMoreAlong lists face cut (cross_of (record { x = pos 0; y = pos 0; z = pos 1 }) e)

-- those of the difference of two points, where the second is as far as the chosen one
abbrev pub IsNoMoreBetween : List (List Vec3) → Face → FaceCut → Vec3 → Vec3 → Vec3 → Type 0
IsNoMoreBetween lists face cut chosen point other =
    dot_of face.w other ≡ dot_of face.w chosen →
    IsNoMoreAcross lists face cut (difference_of point other)

-- those of the differences of a point, which is as far as the chosen one, and any other of a list
abbrev pub IsNoMoreFrom : List (List Vec3) → Face → FaceCut → List Vec3 → Vec3 → Vec3 → Type 0
IsNoMoreFrom lists face cut list chosen point =
    dot_of face.w point ≡ dot_of face.w chosen → (other : Vec3) → IsPoint list other →
    IsNoMoreBetween lists face cut chosen point other

-- those of the differences of any of some points and any of a list
abbrev pub IsNoMoreAmong : List (List Vec3) → Face → FaceCut → List Vec3 → Vec3 → List Vec3 → Type 0
IsNoMoreAmong lists face cut list chosen points =
    (point : Vec3) → IsPoint points point → IsNoMoreFrom lists face cut list chosen point
