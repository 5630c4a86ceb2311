-- The pieces so far, and what becomes of the others, are all of them.
use Rattle.std.proofs.Common.{◌≡◌, ◌++◌, true, length, map, drop}
use Rattle.thrust_region.specs.Pieces.{all_points, are_thrusts, points_of}
use Rattle.thrust_region.specs.Scaling.{scaled_points}
use Rattle.thrust_region.proofs.scaling.scaled.Given as goal

abbrev pub invariant-loop-piece : goal.invariant-loop-piece
invariant-loop-piece l = record {
  counted : length l.scaled.list.items ≡ l.piece-index;
  whole : all_points l.scaled ++ scaled_points l.quarter
      (map points_of (drop l.piece-index l.piece-items))
      ≡ scaled_points l.quarter (all_points l.pieces);
  within : are_thrusts (all_points l.scaled) ≡ true;
}
