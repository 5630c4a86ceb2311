-- What the source gave so far was fed, its items answered, and it leaves room for the rest.
use Rattle.std.proofs.Common.{◌≡◌, ◌+◌, List, ℕ, length}
use Rattle.dp_io.specs.Streams.{Gave}
use Rattle.frame.specs.Frames.{StandsFor, items}
use Rattle.plant_model.specs.declared.limits.TheConstants.{MOST_STREAM_BYTES}
use Rattle.dp_sessions.specs.Steps.{HasAnswered, IsRunning}
use Rattle.dp_sessions.proofs.session.take_stream.Given as goal

abbrev pub invariant-loop-count : goal.invariant-loop-count
invariant-loop-count g l = record {
  running : IsRunning l.core;
  plant : l.core.plant ≡ l.fn.core.plant;
  limit : l.core.limit ≡ l.fn.core.limit;
  read : g.S.Source.faults l.source ≡ g.S.Source.faults l.fn.source;
  written : g.O.Sink.faults l.out ≡ g.O.Sink.faults l.fn.out;
  fed : (bytes : List ℕ) × Gave (g.S.Source.left l.fn.source) (g.S.Source.left l.source) bytes
      × StandsFor l.framer bytes
      × HasAnswered (g.O.Sink.taken l.fn.out) (g.O.Sink.taken l.out) l.core (items bytes)
      × (length bytes + l.room ≡ MOST_STREAM_BYTES);
}

abbrev pub decreases-loop-count : goal.decreases-loop-count
decreases-loop-count g l = l.room
