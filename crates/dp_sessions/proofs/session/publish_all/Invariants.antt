-- The groups so far have verdicts.
use Rattle.std.proofs.Common.{◌≡◌}
use Rattle.dp_sessions.proofs.Published.{PublishedBelow}
use Rattle.dp_sessions.proofs.session.publish_all.Given as goal

abbrev pub invariant-loop-group : goal.invariant-loop-group
invariant-loop-group l = record {
  plant : l.core.plant ≡ l.fn.core.plant;
  limit : l.core.limit ≡ l.fn.core.limit;
  below : PublishedBelow l.fn.core l.core l.group;
}
