use Rattle.std.proofs.Common.{◌+◌, ◌*◌, ◌≤◌, length, take}
use Rattle.std.specs.Prelude.{All}
use Rattle.wrench_geometry.specs.Directions.{directions_of}
use Rattle.separation.specs.Directions.{KeepsGreatest, Spans}
use Rattle.separation.proofs.directions.directions_of.Given as goal

abbrev pub invariant-loop-images : goal.invariant-loop-images
invariant-loop-images l = record {
  span : Spans l.directions;
  greatest : All (KeepsGreatest l.directions) (take l.images-index l.images-items);
  few : length l.directions ≤ directions_of (take l.images-index l.images-items);
  few_at_all : length l.directions ≤ 3 + 36 * l.images-index;
}
