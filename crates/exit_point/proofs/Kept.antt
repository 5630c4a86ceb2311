-- What is exchanged and replaced among corners are corners still.
use Rattle.std.proofs.Common.{◌≡◌, ◌⊎◌, inl, inr, sym, subst, List}
use Rattle.wrench_geometry.specs.declared.vector.Vec3.{Vec3}
use Rattle.wrench_geometry.specs.declared.vertices.Vertex.{Vertex}
use Rattle.exit_point.specs.declared.corners.Corners.{Corners}
use Rattle.exit_point.specs.declared.corners.Edge.{Edge}
use Rattle.exit_point.specs.Corners.{AreCorners, AreEnds, IsCorner, Replaces}

pub ends_turned : (lists : List (List Vec3)) (old new : Edge) → AreEnds lists old →
    (new ≡ old) ⊎ (new ≡ record { first = old.second; second = old.first }) → AreEnds lists new
ends_turned lists old new h (inl same) = subst (AreEnds lists) (sym same) h
ends_turned lists old new h (inr other) = subst (AreEnds lists) (sym other)
    (record { first = h.second; second = h.first })

pub corners_replaced : (lists : List (List Vec3)) (old : Corners) (fourth : Vertex)
    (new : Corners) → AreCorners lists old → IsCorner lists fourth → Replaces old fourth new →
    AreCorners lists new
corners_replaced lists old fourth new h k (inl one) = subst (AreCorners lists) (sym one)
    (record { first = k; second = h.second; third = h.third })
corners_replaced lists old fourth new h k (inr (inl one)) = subst (AreCorners lists) (sym one)
    (record { first = h.first; second = k; third = h.third })
corners_replaced lists old fourth new h k (inr (inr one)) = subst (AreCorners lists) (sym one)
    (record { first = h.first; second = h.second; third = k })
