use Rattle.std.proofs.Common.{◌≡◌}
use Rattle.thread_bench.proofs.by_book.Looker.look.Given as goal

abbrev pub invariant-loop-looks : goal.invariant-loop-looks
invariant-loop-looks l = l.self.display.glance ≡ l.glance.glance
