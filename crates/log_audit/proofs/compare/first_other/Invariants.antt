-- What is left differs where the texts do.
use Rattle.std.proofs.Common.{length}
use Rattle.frame.specs.Frames.{whole_lines}
use Rattle.log_audit.proofs.Differences.{DifferBehind}
use Rattle.log_audit.proofs.compare.first_other.Given as goal

abbrev pub invariant-loop-own : goal.invariant-loop-own
invariant-loop-own l =
    DifferBehind (whole_lines l.fn.kept) (whole_lines l.fn.frames) (whole_lines l.left)
    (whole_lines l.rest) l.number

abbrev pub decreases-loop-own : goal.decreases-loop-own
decreases-loop-own l = length l.left
