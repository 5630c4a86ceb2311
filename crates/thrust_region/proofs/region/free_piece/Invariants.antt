-- The piece is as many places on among those that are left.
use Rattle.std.proofs.Common.{◌≡◌, [], map, drop, get_or}
use Rattle.thrust_region.specs.Left.{free}
use Rattle.thrust_region.specs.Pieces.{points_of}
use Rattle.thrust_region.proofs.Free.{free_from}
use Rattle.thrust_region.proofs.region.free_piece.Given as goal

abbrev pub invariant-loop-k : goal.invariant-loop-k
invariant-loop-k l =
    get_or (free_from l.barred l.k (drop l.k (map points_of l.pieces))) l.left []
    ≡ get_or (free l.barred (map points_of l.pieces)) l.place []
