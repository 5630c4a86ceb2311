-- The limits of the angles so far were written.
use Rattle.std.proofs.Common.{◌≡◌}
use Rattle.capability_report.proofs.Written.{SoFar}
use Rattle.capability_report.proofs.writing.write_limits.Given as goal

abbrev pub invariant-loop-tens : goal.invariant-loop-tens
invariant-loop-tens g l = record {
  so_far : SoFar l.plant l.demand l.tens l.lost (g.O.Sink.taken l.fn.out) (g.O.Sink.taken l.out);
  same : g.O.Sink.faults l.out ≡ g.O.Sink.faults l.fn.out;
}
