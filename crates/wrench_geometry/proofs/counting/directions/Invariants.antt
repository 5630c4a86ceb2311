use Rattle.std.proofs.Common.{◌≡◌, ◌+◌, ◌*◌, ◌≤◌, take}
use Rattle.wrench_geometry.specs.Directions.{directions_of}
use Rattle.wrench_geometry.proofs.counting.directions.Given as goal

abbrev pub invariant-loop-images : goal.invariant-loop-images
invariant-loop-images l = record {
  count : l.count ≡ directions_of (take l.images-index l.images-items);
  few : l.count ≤ 3 + 36 * l.images-index;
}
