use Rattle.std.proofs.Common.{◌≡◌, map, take}
use Rattle.wrench_geometry.specs.Fans.{thrust_of}
use Rattle.wrench_geometry.proofs.sums.Images.is_fan.Given as goal

abbrev pub invariant-loop-image : goal.invariant-loop-image
invariant-loop-image l = l.thrusts.items ≡ map thrust_of (take l.image-index l.image-items)
