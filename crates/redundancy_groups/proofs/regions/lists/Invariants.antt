use Rattle.std.proofs.Common.{◌≡◌, true, length, map}
use Rattle.std.specs.List.{list_all}
use Rattle.redundancy_groups.specs.Surviving.{pieces_at}
use Rattle.redundancy_groups.proofs.Numbered.{AreMade}
use Rattle.thrust_region.specs.Pieces.{all_points, are_thrusts}
use Rattle.redundancy_groups.proofs.regions.lists.Given as goal

abbrev pub invariant-loop-place : goal.invariant-loop-place
invariant-loop-place l = record {
  counted : length l.lists.items ≡ l.place;
  made : AreMade (pieces_at l.plant l.standing l.status.barred) l.plant.thrusters.items l.place
      (map all_points l.lists.items);
  within : list_all are_thrusts (map all_points l.lists.items) ≡ true;
}
