use Rattle.std.proofs.Common.{◌≡◌, map, take}
use Rattle.wrench_geometry.specs.Wrenches.{AreImages, image_of}
use Rattle.wrench_geometry.proofs.sums.Images.at.Given as goal

abbrev pub invariant-loop-point : goal.invariant-loop-point
invariant-loop-point l = record {
  are : l.images.items ≡ map (image_of l.lever) (take l.point-index l.points);
  within : AreImages l.images.items;
}
