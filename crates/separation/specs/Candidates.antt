-- The candidates for a least cut, and cuts that are at most others.
use Rattle.std.specs.Prelude.{◌≡◌, pos, ◌*ℤ◌, ◌≤ℤ◌, ◌⊎◌, List, All}
use Rattle.wrench_geometry.specs.declared.cut.Cut.{Cut}
use Rattle.wrench_geometry.specs.declared.vector.Vec3.{Vec3}
use Rattle.wrench_geometry.specs.Vectors.{IsVectorWithin, cross_of, dot_of, opposite_of, support_of}
use Rattle.separation.specs.declared.directions.TheConstants.{NORMAL_FORCE, NORMAL_MOMENT}

-- the vector is within the bounds of a cross product of two directions
abbrev pub IsNormal : Vec3 → Type 0
IsNormal v = IsVectorWithin NORMAL_FORCE NORMAL_MOMENT v

-- the quotient of the first is at most that of the second, both of them cuts
abbrev pub IsAtMost : Cut → Cut → Type 0
IsAtMost a b = (a.top *ℤ b.bottom) ≤ℤ (b.top *ℤ a.bottom)

-- the cut's quotient is at most that of the normal or of its opposite, whichever is ahead of the
-- demand
abbrev pub IsAtMostAlong : List (List Vec3) → Vec3 → Cut → Vec3 → Type 0
IsAtMostAlong lists d cut normal =
    (w : Vec3) → (w ≡ normal) ⊎ (w ≡ opposite_of normal) → pos 1 ≤ℤ dot_of w d →
    (cut.top *ℤ dot_of w d) ≤ℤ (support_of lists w *ℤ cut.bottom)

-- the cut's quotient is at most those along the normals of a direction and each of some others
abbrev pub IsAtMostWith : List (List Vec3) → Vec3 → Cut → Vec3 → List Vec3 → Type 0
IsAtMostWith lists d cut direction others =
    All (λ other. IsAtMostAlong lists d cut (cross_of direction other)) others
