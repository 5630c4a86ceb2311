-- The pieces so far, and those of the runs from the places that are left, are all of them.
use Rattle.std.proofs.Common.{◌≡◌, ◌-◌, ◌++◌, length}
use Rattle.plant_model.specs.Rings.{cut}
use Rattle.thrust_region.specs.Pieces.{all_points}
use Rattle.thrust_region.proofs.Cuts.{pieces_from}
use Rattle.thrust_region.proofs.cutting.cut_round.Given as goal

abbrev pub invariant-loop-place : goal.invariant-loop-place
invariant-loop-place l = all_points l.pieces
    ++ pieces_from l.ring l.sectors l.place (length l.ring - l.place) ≡ cut l.ring l.sectors
