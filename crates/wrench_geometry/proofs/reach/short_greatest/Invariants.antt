use Rattle.std.proofs.Common.{◌≡◌, ◌^◌, pos, ◌≤ℤ◌, take}
use Rattle.wrench_geometry.specs.Vectors.{greatest_of}
use Rattle.wrench_geometry.proofs.reach.short_greatest.Given as goal

abbrev pub invariant-loop-image : goal.invariant-loop-image
invariant-loop-image l = (l.farthest ≡ greatest_of l.w (take l.image-index l.images)) ×
    (pos 0 ≤ℤ l.farthest) × (l.farthest ≤ℤ pos (2 ^ 57))
