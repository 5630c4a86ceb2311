use Rattle.std.specs.Int.RustNames.{unsigned_abs}
use Rattle.dp_num.proofs.Divisors.{SharesDivisors}
use Rattle.dp_num.proofs.fractions.gcd.Given as goal

abbrev pub invariant-loop-b : goal.invariant-loop-b
invariant-loop-b l = SharesDivisors l.fn.a l.fn.b l.a l.b

abbrev pub decreases-loop-b : goal.decreases-loop-b
decreases-loop-b l = unsigned_abs l.b
