use Rattle.std.proofs.Common.{◌≡◌, ◌+◌, ◌≤◌, length}
use Rattle.wrench_geometry.specs.Fans.{corner_at}
use Rattle.wrench_geometry.specs.Wrenches.{IsImage}
use Rattle.separation.proofs.DirectionLists.{Within}
use Rattle.separation.proofs.EdgeLists.{SettlesSome}
use Rattle.separation.proofs.directions.Directions.add_edges.Given as goal

abbrev pub invariant-loop-point : goal.invariant-loop-point
invariant-loop-point l = record {
  is : l.from ≡ corner_at l.points l.point-index;
  image : IsImage l.from;
  within : Within l.initial.self l.self;
  settled : SettlesSome l.self l.points l.point-index;
  few : length l.self ≤ length l.initial.self + l.point-index;
}
