use Rattle.std.proofs.Common.{◌≡◌, ◌^◌, ◌*◌, pos, ◌+ℤ◌, ◌≤ℤ◌, drop, map}
use Rattle.thrust_region.specs.Pieces.{all_points}
use Rattle.wrench_geometry.specs.Chosen.{levers_of}
use Rattle.feasibility.specs.Spreads.{spread_of}
use Rattle.feasibility.proofs.subtrees.spread.Given as goal

abbrev pub invariant-loop-place : goal.invariant-loop-place
invariant-loop-place l =
    (l.total +ℤ spread_of l.w (drop l.place (levers_of l.plant))
    (drop l.place (map all_points l.regions.list.items)) (drop l.place l.fixed)
    ≡ spread_of l.w (levers_of l.plant) (map all_points l.regions.list.items) l.fixed) ×
    (pos 0 ≤ℤ l.total) × (l.total ≤ℤ pos (l.place * 2 ^ 87))
