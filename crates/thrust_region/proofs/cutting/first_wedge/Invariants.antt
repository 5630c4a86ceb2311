-- The points so far, and what the rest of the run adds, are the wedge.
use Rattle.std.proofs.Common.{◌≡◌, ◌≤◌, ◌-◌, ◌++◌, pos, int_le, length, take, drop}
use Rattle.std.specs.List.{take_while}
use Rattle.plant_model.specs.declared.limits.TheConstants.{MOST_PIECE_POINTS}
use Rattle.plant_model.specs.Rings.{cross, first_wedge}
use Rattle.thrust_region.proofs.cutting.first_wedge.Given as goal

abbrev pub invariant-loop-point : goal.invariant-loop-point
invariant-loop-point l = record {
  counted : length l.wedge.points.items ≡ l.point-index;
  few : l.point-index ≤ MOST_PIECE_POINTS;
  whole : l.wedge.points.items ++ take (MOST_PIECE_POINTS - l.point-index)
      (take_while (λ r. int_le (pos 0) (cross l.first r)) (drop l.point-index l.run))
      ≡ first_wedge l.run;
}
