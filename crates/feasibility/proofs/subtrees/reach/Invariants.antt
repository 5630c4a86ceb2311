use Rattle.std.proofs.Common.{◌≡◌, ◌^◌, pos, ◌≤ℤ◌, map, take}
use Rattle.wrench_geometry.specs.Vectors.{greatest_of}
use Rattle.wrench_geometry.specs.Wrenches.{image_of}
use Rattle.feasibility.proofs.subtrees.reach.Given as goal

abbrev pub invariant-loop-point : goal.invariant-loop-point
invariant-loop-point l =
    (l.reach ≡ greatest_of l.w (take l.point-index (map (image_of l.lever) l.points))) ×
    (pos 0 ≤ℤ l.reach) × (l.reach ≤ℤ pos (2 ^ 87))
