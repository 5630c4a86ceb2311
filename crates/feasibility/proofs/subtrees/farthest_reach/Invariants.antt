use Rattle.std.proofs.Common.{◌≡◌, ◌^◌, pos, ◌≤ℤ◌, [], fold, get_or, map, take}
use Rattle.std.specs.Int.{int_max}
use Rattle.plant_model.specs.Rings.{origin}
use Rattle.thrust_region.specs.Pieces.{all_points}
use Rattle.wrench_geometry.specs.Chosen.{levers_of}
use Rattle.feasibility.specs.Spreads.{reach_of}
use Rattle.feasibility.proofs.subtrees.farthest_reach.Given as goal

abbrev pub invariant-loop-piece : goal.invariant-loop-piece
invariant-loop-piece l =
    (l.farthest ≡ fold int_max (pos 0) (take l.piece (map (reach_of l.w
    (get_or (levers_of l.plant) l.place origin))
    (get_or (map all_points l.regions.list.items) l.place [])))) ×
    (pos 0 ≤ℤ l.farthest) × (l.farthest ≤ℤ pos (2 ^ 87))
