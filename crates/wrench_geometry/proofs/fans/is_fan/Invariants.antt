use Rattle.std.proofs.Common.{◌≡◌, drop}
use Rattle.wrench_geometry.specs.Fans.{are_left_from, is_fan}
use Rattle.wrench_geometry.proofs.fans.is_fan.Given as goal

abbrev pub invariant-loop-point : goal.invariant-loop-point
invariant-loop-point l =
    is_fan l.points ≡ are_left_from l.points l.from (drop l.point-index l.points)
