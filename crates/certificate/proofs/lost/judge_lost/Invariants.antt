use Rattle.std.proofs.Common.{map}
use Rattle.thrust_region.specs.Pieces.{all_points}
use Rattle.wrench_geometry.specs.Chosen.{levers_of}
use Rattle.certificate.proofs.Places.{FallShort}
use Rattle.certificate.proofs.lost.judge_lost.Given as goal

abbrev pub invariant-loop-k : goal.invariant-loop-k
invariant-loop-k l =
    FallShort (levers_of l.plant) (map all_points l.regions.list.items) l.ahead l.directions l.k
