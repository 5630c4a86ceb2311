-- A least cut of faces is found among the normals of each two directions of a direction list.
use Rattle.std.proofs.Common.{◌≡◌, ◌⊎◌, ℤ, pos, ◌*ℤ◌, ◌≤ℤ◌, ◌<ℤ◌, List, arith}
use Rattle.std.specs.Prelude.{Contains}
use Rattle.int_ring.proofs.Laws.{linear}
use Rattle.int_ring.proofs.Order.{fraction_le_trans}
use Rattle.wrench_geometry.specs.declared.cut.Cut.{Cut}
use Rattle.wrench_geometry.specs.declared.vector.Vec3.{Vec3}
use Rattle.wrench_geometry.specs.Cuts.{IsLeastCut}
use Rattle.wrench_geometry.specs.Vectors.{cross_of, dot_of, opposite_of, support_of}
use Rattle.separation.proofs.Moves.{IsDirectionList}
use Rattle.separation.proofs.Normals.{Candidate, some_candidate}
use Rattle.exit_point.specs.Faces.{IsLeastAlong}

-- a least cut has the least quotient
pub least_along_cut : (lists : List (List Vec3)) (d : Vec3) (cut : Cut) → IsLeastCut lists d cut →
    IsLeastAlong lists d cut.w cut.top cut.bottom
least_along_cut lists d cut is = record {
  bottom_is = is.bottom;
  top_is = is.top;
  ahead = is.bottom_from_1;
  least = is.least;
}

-- the quotient is at most those of the normals, both ways, of each two directions
abbrev pub IsAtMostNormals : List (List Vec3) → Vec3 → List Vec3 → ℤ → ℤ → Type 0
IsAtMostNormals lists d directions top bottom =
    (a b w : Vec3) → Contains directions a → Contains directions b →
    (w ≡ cross_of a b) ⊎ (w ≡ opposite_of (cross_of a b)) → pos 1 ≤ℤ dot_of w d →
    (top *ℤ dot_of w d) ≤ℤ (support_of lists w *ℤ bottom)

-- what is at most the normals of a direction list is the least
pub least_beside : (faces : List (List Vec3)) (directions : List Vec3) (d u : Vec3)
    (top bottom : ℤ) → IsDirectionList (support_of faces) directions →
    bottom ≡ dot_of u d → top ≡ support_of faces u → pos 1 ≤ℤ bottom →
    IsAtMostNormals faces d directions top bottom →
    IsLeastAlong faces d u top bottom
least_beside faces directions d u top bottom is bottom_is top_is ahead at_most = record {
  bottom_is = bottom_is;
  top_is = top_is;
  ahead = ahead;
  least = λ x x_ahead. from_candidate x x_ahead
      (some_candidate (support_of faces) directions is d x x_ahead);
}
  where
    positive : {a : ℤ} → pos 1 ≤ℤ a → pos 0 <ℤ a
    positive {a} h = omega (arith, linear)

    from_candidate : (x : Vec3) → pos 1 ≤ℤ dot_of x d →
        Candidate (support_of faces) directions d x →
        (top *ℤ dot_of x d) ≤ℤ (support_of faces x *ℤ bottom)
    from_candidate x x_ahead c =
        fraction_le_trans top bottom (support_of faces c.normal) (dot_of c.normal d)
        (support_of faces x) (dot_of x d) (positive ahead) (positive c.ahead) (positive x_ahead)
        (at_most c.first c.second c.normal c.first_among c.second_among c.crossed c.ahead)
        c.quotient
