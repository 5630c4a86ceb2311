use Rattle.std.proofs.Common.{length}
use Rattle.capability_report.proofs.margins.+worst_from.Given as goal

abbrev pub decreases-worst_from : goal.decreases-worst_from
decreases-worst_from l = length l.margins.now
