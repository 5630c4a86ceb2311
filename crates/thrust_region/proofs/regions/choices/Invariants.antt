-- The product so far, with that of the others, is that of all.
use Rattle.std.proofs.Common.{◌≡◌, ◌*◌, map, drop}
use Rattle.thrust_region.specs.Choices.{choices_of}
use Rattle.thrust_region.specs.Pieces.{all_points}
use Rattle.thrust_region.proofs.regions.choices.Given as goal

abbrev pub invariant-loop-region : goal.invariant-loop-region
invariant-loop-region l = l.product * choices_of
    (map all_points (drop l.region-index l.region-items))
    ≡ choices_of (map all_points l.regions.list.items)
