-- What the source gave so far was fed, what its items give was written, and it leaves room for the
-- rest.
use Rattle.std.proofs.Common.{◌≡◌, ◌+◌, List, ℕ, length}
use Rattle.dp_io.specs.Streams.{Gave}
use Rattle.frame.specs.Frames.{StandsFor, items}
use Rattle.plant_model.specs.declared.limits.TheConstants.{MOST_STREAM_BYTES}
use Rattle.sensor_vote.specs.Steps.{CountsTo, HasWritten}
use Rattle.sensor_vote.proofs.stream.take_stream.Given as goal

abbrev pub invariant-loop-count : goal.invariant-loop-count
invariant-loop-count g l = record {
  read : g.S.Source.faults l.source ≡ g.S.Source.faults l.fn.source;
  wrote : g.O.Sink.faults l.out ≡ g.O.Sink.faults l.fn.out;
  fed : (bytes : List ℕ) × Gave (g.S.Source.left l.fn.source) (g.S.Source.left l.source) bytes
      × StandsFor l.framer bytes
      × HasWritten l.fn.report (g.O.Sink.taken l.fn.out) (g.O.Sink.taken l.out) l.watch
      (items bytes) × (length bytes + l.room ≡ MOST_STREAM_BYTES)
      × CountsTo l.watch (length bytes);
}

abbrev pub decreases-loop-count : goal.decreases-loop-count
decreases-loop-count g l = l.room
