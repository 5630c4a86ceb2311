use Rattle.std.proofs.Common.{◌+◌}
use Rattle.std.specs.Int.RustNames.{unsigned_abs}
use Rattle.dp_num.proofs.Remainders.{SameOrder}
use Rattle.dp_num.proofs.fractions.compare_wide.Given as goal

abbrev pub invariant-loop-whole : goal.invariant-loop-whole
invariant-loop-whole l = SameOrder l.fn.a l.fn.b l.fn.c l.fn.d l.a l.b l.c l.d

abbrev pub decreases-loop-whole : goal.decreases-loop-whole
decreases-loop-whole l = unsigned_abs l.b + unsigned_abs l.d
