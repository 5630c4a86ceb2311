-- The words so far are sorted.
use Rattle.std.proofs.Common.{map, string_bytes, take}
use Rattle.dp_words.specs.Sorting.{HasSorted}
use Rattle.dp_words.specs.Words.{placed}
use Rattle.dp_words.proofs.sorting.sort_words.Given as goal

abbrev pub invariant-loop-index : goal.invariant-loop-index
invariant-loop-index l = HasSorted l.sorted (take l.index (placed (map string_bytes l.words)))
