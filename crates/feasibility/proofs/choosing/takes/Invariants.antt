use Rattle.std.proofs.Common.{◌≡◌, ◌+◌, length}
use Rattle.feasibility.specs.Steps.{CutOffBelow}
use Rattle.feasibility.proofs.choosing.takes.Given as goal

abbrev pub invariant-loop : goal.invariant-loop
invariant-loop l = record {
  cut : CutOffBelow l.plant l.regions l.fn.ahead (length l.initial.cuts.items + l.counter)
      l.cuts.items;
  none : l.counter ≡ 0 → l.cuts ≡ l.initial.cuts;
}
