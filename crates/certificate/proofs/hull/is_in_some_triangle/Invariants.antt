use Rattle.std.proofs.Common.{ℕ, ◌<◌}
use Rattle.std.specs.Prelude.{slice_index_or}
use Rattle.plant_model.specs.Rings.{origin}
use Rattle.certificate.specs.Sides.{IsInTriangle}
use Rattle.certificate.proofs.hull.is_in_some_triangle.Given as goal

abbrev pub invariant-loop-second : goal.invariant-loop-second
invariant-loop-second l = (k : ℕ) → k < l.second-index →
    IsInTriangle l.first (slice_index_or l.points k origin) l.thrust l.q → ⊥
