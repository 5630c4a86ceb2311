-- Those so far and those of the pieces that are left are all of them.
use Rattle.std.proofs.Common.{◌≡◌, ◌+◌, ◌≤◌, length, map, drop}
use Rattle.thrust_region.specs.Left.{free}
use Rattle.thrust_region.specs.Pieces.{points_of}
use Rattle.thrust_region.proofs.Free.{free_from}
use Rattle.thrust_region.proofs.region.count_free.Given as goal

abbrev pub invariant-loop-place : goal.invariant-loop-place
invariant-loop-place l = record {
  few : l.count ≤ l.place;
  counted : l.count + length (free_from l.barred l.place (drop l.place (map points_of l.pieces)))
      ≡ length (free l.barred (map points_of l.pieces));
}
