use Rattle.std.proofs.Common.{◌≡◌, ℕ, ℤ, ◌+◌, ◌^◌, ◌*◌, pos, ◌+ℤ◌, neg_ℤ, ◌≤ℤ◌, [], drop, map}
use Rattle.thrust_region.specs.Pieces.{all_points}
use Rattle.wrench_geometry.specs.Chosen.{levers_of}
use Rattle.feasibility.specs.Spreads.{spread_of}
use Rattle.feasibility.proofs.Spreads.{IsBlock}
use Rattle.feasibility.proofs.subtrees.cut_off_from.Given as goal

abbrev pub invariant-loop-place : goal.invariant-loop-place
invariant-loop-place l =
    (first : ℕ) × (base : ℤ) ×
    IsBlock l.w (levers_of l.plant) (map all_points l.regions.list.items) l.k l.place first l.size
    l.rest base ×
    (l.reach ≡ base +ℤ spread_of l.w (drop l.place (levers_of l.plant))
    (drop l.place (map all_points l.regions.list.items)) []) ×
    (neg_ℤ (pos (l.place * 2 ^ 87)) ≤ℤ l.reach) ×
    (l.reach ≤ℤ pos ((12 + l.place) * 2 ^ 87))
