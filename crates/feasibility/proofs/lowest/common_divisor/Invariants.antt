use Rattle.feasibility.proofs.Divisors.{DivisorSoFar}
use Rattle.feasibility.proofs.lowest.common_divisor.Given as goal

abbrev pub invariant-loop-thrust : goal.invariant-loop-thrust
invariant-loop-thrust l = DivisorSoFar l.fn.q l.thrusts l.thrust-index l.common
