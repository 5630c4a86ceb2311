-- The bytes so far were fed, and what their items give was written.
use Rattle.std.proofs.Common.{◌≡◌, ◌+◌, List, ℕ, ◌++◌, length, Option}
use Rattle.frame.specs.Frames.{StandsFor, items}
use Rattle.sensor_vote.specs.Steps.{CountsTo, HasWritten}
use Rattle.sensor_vote.proofs.stream.take_bytes.Given as goal

abbrev pub invariant-loop-rest : goal.invariant-loop-rest
invariant-loop-rest g l = record {
  same : g.S.Sink.faults l.out ≡ g.S.Sink.faults l.fn.out;
  taken : (bytes : List ℕ) × (bytes ++ l.rest ≡ l.bytes)
      × ((most : ℕ) → CountsTo l.fn.watch most → CountsTo l.watch (most + length bytes))
      × ((fed : List ℕ) → StandsFor l.fn.framer fed → StandsFor l.framer (fed ++ bytes))
      × ((start : Option (List ℕ)) (fed : List ℕ) → StandsFor l.fn.framer fed
      → HasWritten l.fn.report start (g.S.Sink.taken l.fn.out) l.fn.watch (items fed)
      → HasWritten l.fn.report start (g.S.Sink.taken l.out) l.watch (items (fed ++ bytes)));
}

abbrev pub decreases-loop-rest : goal.decreases-loop-rest
decreases-loop-rest g l = length l.rest
