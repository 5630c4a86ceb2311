use Rattle.std.proofs.Common.{◌≡◌, ◌++◌, length, map, drop}
use Rattle.thrust_region.specs.Pieces.{points_of}
use Rattle.wrench_geometry.specs.Chosen.{images_of}
use Rattle.wrench_geometry.proofs.chosen.sums_of.Given as goal

abbrev pub invariant-loop-i : goal.invariant-loop-i
invariant-loop-i l = record {
  counted : length l.sums ≡ l.i;
  whole : l.sums ++ images_of (map (λ t. t.lever) (drop l.i l.thrusters))
      (map points_of (drop l.i l.pieces)) ≡ images_of (map (λ t. t.lever) l.thrusters)
      (map points_of l.pieces);
}
