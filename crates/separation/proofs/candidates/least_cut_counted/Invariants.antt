use Rattle.std.proofs.Common.{◌+◌, ◌*◌, ◌≤◌, take}
use Rattle.wrench_geometry.specs.Cuts.{IsCut}
use Rattle.separation.proofs.LeastCuts.{IsAtMostPairs}
use Rattle.separation.proofs.candidates.least_cut_counted.Given as goal

abbrev pub invariant-loop-place : goal.invariant-loop-place
invariant-loop-place g l = record {
  parts : IsCut l.sums l.d l.least;
  pairs : IsAtMostPairs l.sums l.d l.least (take l.place l.members);
  steps : 2 * l.steps + l.place ≤ 2 * l.initial.steps + l.place * l.place;
}
