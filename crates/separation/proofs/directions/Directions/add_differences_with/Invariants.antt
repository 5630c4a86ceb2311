use Rattle.std.proofs.Common.{◌+◌, ◌≤◌, length, take}
use Rattle.std.specs.Prelude.{All}
use Rattle.wrench_geometry.specs.declared.vector.Vec3.{Vec3}
use Rattle.wrench_geometry.specs.Vectors.{difference_of}
use Rattle.separation.specs.Directions.{Settles}
use Rattle.separation.proofs.DirectionLists.{Within}
use Rattle.separation.proofs.directions.Directions.add_differences_with.Given as goal

abbrev pub invariant-loop-other : goal.invariant-loop-other
invariant-loop-other l = record {
  within : Within l.initial.self l.self;
  settled : All (λ (other : Vec3). Settles l.self (difference_of l.point other))
      (take l.other-index l.others);
  few : length l.self ≤ length l.initial.self + l.other-index;
}
