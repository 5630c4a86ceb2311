use Rattle.std.proofs.Common.{◌≡◌, ◌+◌, ◌-◌, length}
use Rattle.dp_io.specs.Streams.{Gave}
use Rattle.plant_model.specs.declared.limits.TheConstants.{MOST_PLANT_BYTES}
use Rattle.dp_words.proofs.plant_source.file_bytes.Given as goal

abbrev pub invariant-loop-piece : goal.invariant-loop-piece
invariant-loop-piece g l = record {
  gave : Gave (g.A.Source.left l.fn.source) (g.A.Source.left l.source) l.bytes.items;
  same : g.A.Source.faults l.source ≡ g.A.Source.faults l.fn.source;
}

abbrev pub decreases-loop-piece : goal.decreases-loop-piece
decreases-loop-piece g l = MOST_PLANT_BYTES + 1 - length l.bytes.items
