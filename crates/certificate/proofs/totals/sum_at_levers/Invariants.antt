use Rattle.std.proofs.Common.{map}
use Rattle.certificate.proofs.Together.{TotalSoFar}
use Rattle.certificate.proofs.totals.sum_at_levers.Given as goal

abbrev pub invariant-loop-i : goal.invariant-loop-i
invariant-loop-i l = TotalSoFar (map (λ t. t.lever) l.thrusters) l.thrusts l.i l.total
