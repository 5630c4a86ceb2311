use Rattle.std.proofs.Common.{◌≡◌, map, take}
use Rattle.certificate.specs.Sides.{place_of}
use Rattle.feasibility.proofs.analysis.thrusts_of.Given as goal

abbrev pub invariant-loop-point : goal.invariant-loop-point
invariant-loop-point l = map place_of l.thrusts.list.items ≡ take l.point-index l.points
