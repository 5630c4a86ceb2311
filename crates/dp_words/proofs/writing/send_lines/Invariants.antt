-- The lines before the rest were taken.
use Rattle.std.proofs.Common.{◌≡◌, List, ℕ, ◌++◌, length}
use Rattle.dp_io.specs.Streams.{Grew}
use Rattle.dp_words.proofs.writing.send_lines.Given as goal

abbrev pub invariant-loop-end : goal.invariant-loop-end
invariant-loop-end g l = record {
  sent : (lines : List ℕ) × (l.fn.text ≡ lines ++ l.rest)
      × Grew (g.S.Sink.taken l.fn.sink) (g.S.Sink.taken l.sink) lines;
  same : g.S.Sink.faults l.sink ≡ g.S.Sink.faults l.fn.sink;
}

abbrev pub decreases-loop-end : goal.decreases-loop-end
decreases-loop-end g l = length l.rest
