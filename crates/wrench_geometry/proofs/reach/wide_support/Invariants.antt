use Rattle.std.proofs.Common.{◌≡◌, ◌^◌, ◌*◌, pos, ◌≤ℤ◌, take}
use Rattle.wrench_geometry.specs.Vectors.{support_of}
use Rattle.wrench_geometry.proofs.reach.wide_support.Given as goal

abbrev pub invariant-loop-images : goal.invariant-loop-images
invariant-loop-images l = (l.total ≡ support_of (take l.images-index l.images-items) l.w) ×
    (pos 0 ≤ℤ l.total) × (l.total ≤ℤ pos (l.images-index * 2 ^ 87))
