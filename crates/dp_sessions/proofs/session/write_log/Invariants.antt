-- The first line and the lines of the entries so far were taken.
use Rattle.std.proofs.Common.{◌≡◌, ◌++◌, take}
use Rattle.std.specs.List.{flat_map}
use Rattle.dp_io.specs.Streams.{Grew}
use Rattle.log_text.specs.Texts.{log_head, entry_text}
use Rattle.dp_sessions.proofs.session.write_log.Given as goal

abbrev pub invariant-loop-entry : goal.invariant-loop-entry
invariant-loop-entry g l = record {
  sent : Grew (g.S.Sink.taken l.fn.out) (g.S.Sink.taken l.out)
      (log_head l.core.plant ++ flat_map (entry_text l.core.plant) (take l.entry-index l.entry-items));
  same : g.S.Sink.faults l.out ≡ g.S.Sink.faults l.fn.out;
}
