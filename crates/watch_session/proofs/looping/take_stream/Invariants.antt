-- What the source gave so far was fed, its items answered, and it leaves room for the rest.
use Rattle.std.proofs.Common.{◌≡◌, ◌+◌, List, ℕ, length}
use Rattle.dp_io.specs.Streams.{Gave}
use Rattle.frame.specs.Frames.{StandsFor, items}
use Rattle.plant_model.specs.declared.limits.TheConstants.{MOST_STREAM_BYTES}
use Rattle.watch_session.specs.Asked.{caller_on}
use Rattle.watch_session.specs.Callers.{IsCaller}
use Rattle.watch_session.specs.Loops.{HasAnswered}
use Rattle.watch_session.proofs.looping.take_stream.Given as goal

abbrev pub invariant-loop-count : goal.invariant-loop-count
invariant-loop-count g l = record {
  is : IsCaller l.shared.book.now l.shared.jobs.now (caller_on l.stream) l.caller;
  read : g.S.Source.faults l.source ≡ g.S.Source.faults l.fn.source;
  written : g.O.Sink.faults l.out ≡ g.O.Sink.faults l.fn.out;
  fed : (bytes : List ℕ) × Gave (g.S.Source.left l.fn.source) (g.S.Source.left l.source) bytes
      × StandsFor l.framer bytes
      × HasAnswered (g.O.Sink.taken l.fn.out) (g.O.Sink.taken l.out) l.caller.pass (items bytes)
      × (length bytes + l.room ≡ MOST_STREAM_BYTES);
}

abbrev pub decreases-loop-count : goal.decreases-loop-count
decreases-loop-count g l = l.room
