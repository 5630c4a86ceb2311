use Rattle.std.proofs.Common.{◌≤◌, length}
use Rattle.feasibility.specs.Steps.{AreCutOff}
use Rattle.feasibility.proofs.choosing.choose.Given as goal

abbrev pub invariant-loop-k : goal.invariant-loop-k
invariant-loop-k l = record {
  cut : AreCutOff l.plant l.regions l.ahead l.list.items;
  enough : l.k ≤ length l.list.items;
}
