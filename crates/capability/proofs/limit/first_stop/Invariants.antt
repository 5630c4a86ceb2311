use Rattle.std.proofs.Common.{◌+◌}
use Rattle.certificate.specs.Losses.{question_after}
use Rattle.capability.specs.Limits.{StopsAt}
use Rattle.capability.proofs.limit.first_stop.Given as goal

abbrev pub invariant-loop-group : goal.invariant-loop-group
invariant-loop-group l = StopsAt (question_after l.plant l.status) l.path (l.group + 1) l.stop
