use Rattle.std.proofs.Common.{◌≡◌}
use Rattle.feasibility.proofs.choosing.takes_earlier.Given as goal

abbrev pub invariant-loop-back : goal.invariant-loop-back
invariant-loop-back l = l.cuts ≡ l.initial.cuts
