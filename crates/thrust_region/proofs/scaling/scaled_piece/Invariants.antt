-- The points so far, and what becomes of the others, are those of the whole piece.
use Rattle.std.proofs.Common.{◌≡◌, ◌++◌, true, length, map, drop}
use Rattle.std.specs.List.{list_all}
use Rattle.thrust_region.specs.Pieces.{points_of, is_thrust}
use Rattle.thrust_region.specs.Scaling.{scaled_point}
use Rattle.thrust_region.proofs.scaling.scaled_piece.Given as goal

abbrev pub invariant-loop-point : goal.invariant-loop-point
invariant-loop-point l = record {
  counted : length l.scaled.points.items ≡ l.point-index;
  whole : l.scaled.points.items ++ map (scaled_point l.quarter) (drop l.point-index l.point-items)
      ≡ map (scaled_point l.quarter) (points_of l.piece);
  within : list_all is_thrust l.scaled.points.items ≡ true;
}
