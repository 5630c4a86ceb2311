-- The pieces so far, and those of the choice of the others that is left, are the choice.
use Rattle.std.proofs.Common.{◌≡◌, ◌++◌, ◌<◌, true, length, map, drop}
use Rattle.thrust_region.specs.Choices.{choice_of, choices_of}
use Rattle.thrust_region.specs.Pieces.{all_points, are_thrusts, points_of}
use Rattle.thrust_region.proofs.regions.choice.Given as goal

abbrev pub invariant-loop-region : goal.invariant-loop-region
invariant-loop-region l = record {
  counted : length l.pieces.items ≡ l.region-index;
  others : l.others ≡ choices_of (map all_points (drop l.region-index l.region-items));
  below : l.rest < l.others;
  whole : map points_of l.pieces.items
      ++ choice_of (map all_points (drop l.region-index l.region-items)) l.rest
      ≡ choice_of (map all_points l.regions.list.items) l.k;
  within : are_thrusts (map points_of l.pieces.items) ≡ true;
}
