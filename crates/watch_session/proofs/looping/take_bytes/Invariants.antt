-- The bytes so far were fed, and their items answered.
use Rattle.std.proofs.Common.{◌≡◌, List, ℕ, ◌++◌, take, Option}
use Rattle.frame.specs.Frames.{StandsFor, items}
use Rattle.watch_session.specs.Asked.{caller_on}
use Rattle.watch_session.specs.Callers.{IsCaller}
use Rattle.watch_session.specs.Loops.{HasAnswered}
use Rattle.watch_session.proofs.looping.take_bytes.Given as goal

abbrev pub invariant-loop-byte : goal.invariant-loop-byte
invariant-loop-byte g l = record {
  is : IsCaller l.shared.book.now l.shared.jobs.now (caller_on l.stream) l.caller;
  same : g.O.Sink.faults l.out ≡ g.O.Sink.faults l.fn.out;
  taken : (start : Option (List ℕ)) (fed : List ℕ) → StandsFor l.fn.framer fed
      → HasAnswered start (g.O.Sink.taken l.fn.out) l.fn.caller.pass (items fed)
      → StandsFor l.framer (fed ++ take l.byte-index l.bytes)
      × HasAnswered start (g.O.Sink.taken l.out) l.caller.pass
      (items (fed ++ take l.byte-index l.bytes));
}
