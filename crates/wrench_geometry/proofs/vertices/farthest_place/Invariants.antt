use Rattle.std.proofs.Common.{◌≡◌, ◌≤◌, length, take}
use Rattle.wrench_geometry.specs.Vectors.{dot_of, greatest_of}
use Rattle.wrench_geometry.specs.Wrenches.{image_at}
use Rattle.wrench_geometry.proofs.vertices.farthest_place.Given as goal

abbrev pub invariant-loop-i : goal.invariant-loop-i
invariant-loop-i l = (l.greatest ≡ greatest_of l.w (take l.i l.images)) ×
    (dot_of l.w (image_at l.images l.place) ≡ l.greatest) × (l.place ≤ length l.images)
