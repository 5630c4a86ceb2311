-- The bytes so far were fed, and their items answered.
use Rattle.std.proofs.Common.{◌≡◌, List, ℕ, take, Option, None}
use Rattle.frame.specs.Frames.{StandsFor, items}
use Rattle.dp_sessions.specs.Steps.{HasAnswered, IsRunning, TakesBytes}
use Rattle.dp_sessions.proofs.session.take_bytes.Given as goal

abbrev pub invariant-loop-byte : goal.invariant-loop-byte
invariant-loop-byte g l = record {
  running : IsRunning l.core;
  plant : l.core.plant ≡ l.fn.core.plant;
  limit : l.core.limit ≡ l.fn.core.limit;
  same : g.S.Sink.faults l.out ≡ g.S.Sink.faults l.fn.out;
  taken : (start : Option (List ℕ)) (fed : List ℕ) → StandsFor l.fn.framer fed
      → HasAnswered start (g.S.Sink.taken l.fn.out) l.fn.core (items fed)
      → TakesBytes None start (g.S.Sink.taken l.out) l.core l.framer fed
      (take l.byte-index l.bytes);
}
