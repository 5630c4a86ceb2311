use Rattle.std.proofs.Common.{ℕ, ◌<◌}
use Rattle.std.specs.Prelude.{slice_index_or}
use Rattle.plant_model.specs.Rings.{origin}
use Rattle.certificate.specs.Sides.{IsNextTo}
use Rattle.certificate.proofs.hull.is_next_to_some.Given as goal

abbrev pub invariant-loop-point : goal.invariant-loop-point
invariant-loop-point l = (k : ℕ) → k < l.point-index →
    IsNextTo l.points l.thrust l.q (slice_index_or l.points k origin) → ⊥
