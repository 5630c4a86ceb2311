use Rattle.std.proofs.Common.{arith}
use Rattle.std.proofs.lemmas.Grind.{common_steps}
use Rattle.dp_io.proofs.Grown.{Grew-part}
use Rattle.dp_io.proofs.stream.send_all.Goals as goal

pub loop-sent-preserved : goal.loop-sent-preserved
loop-sent-preserved g c = record {
  within = grind (arith, common_steps, c.in_ok-sent.ensures.within);
  grew = Grew-part _ _ _ _ _ _ c.loop-sent.invariant.grew c.in_ok-sent.ensures.grew;
  same = grind (arith, c.in_ok-sent.ensures.same, c.loop-sent.invariant.same);
}
