use Rattle.std.proofs.Common.{◌+◌, ◌*◌, ◌≤◌, length, take}
use Rattle.separation.specs.Directions.{SettlesDifferences}
use Rattle.separation.proofs.DirectionLists.{Within}
use Rattle.separation.proofs.directions.Directions.add_differences.Given as goal

abbrev pub invariant-loop-place : goal.invariant-loop-place
invariant-loop-place l = record {
  within : Within l.initial.self l.self;
  settled : SettlesDifferences l.self (take l.place l.points);
  few : 2 * length l.self ≤ 2 * length l.initial.self + l.place * (l.place + 1);
}
