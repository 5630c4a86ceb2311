use Rattle.std.proofs.Common.{◌≤◌, length, map}
use Rattle.thrust_region.specs.Choices.{choices_of}
use Rattle.thrust_region.specs.Pieces.{all_points}
use Rattle.certificate.specs.Outcomes.{question_of}
use Rattle.allocator.specs.Reaches.{IsFarthest}
use Rattle.allocator.proofs.reach.farthest_reach.Given as goal

abbrev pub invariant-loop-k : goal.invariant-loop-k
invariant-loop-k l = record {
  farthest : IsFarthest (question_of l.plant l.regions l.demand) l.done l.best;
  enough : l.k ≤ l.done;
  there : l.done ≤ choices_of (map all_points l.regions.list.items);
  few : length l.directions.items ≤ l.k;
}
