use Rattle.std.proofs.Common.{map}
use Rattle.certificate.proofs.Together.{TotalSoFar}
use Rattle.log_audit.proofs.Sums.{as_total}
use Rattle.log_audit.proofs.totals.sum_at_levers.Given as goal

abbrev pub invariant-loop-i : goal.invariant-loop-i
invariant-loop-i l =
    TotalSoFar (map (λ t. t.lever) l.thrusters) l.thrusts l.i (as_total l.total)
