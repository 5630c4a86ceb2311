-- A point that passes the tests goes over from the rest of the run to the wedge.
use Rattle.std.proofs.Common.{◌∙◌, sym, arith, int_le, pos, ◌<◌}
use Rattle.std.proofs.lemmas.Bool.Decides.{nat_tests}
use Rattle.plant_model.specs.declared.limits.TheConstants.{MOST_PIECE_POINTS}
use Rattle.plant_model.specs.Rings.{cross, origin}
use Rattle.thrust_region.proofs.Wedges.{passed}
use Rattle.thrust_region.proofs.cutting.first_wedge.Goals as goal

pub loop-point-preserved : goal.loop-point-preserved
loop-point-preserved c =
    let room : c.loop-point.point-index < MOST_PIECE_POINTS = grind (arith, nat_tests) in
    record {
      counted = omega arith;
      few = omega arith;
      whole = rw c.push.ensures.items
          (passed (λ r. int_le (pos 0) (cross _ r)) MOST_PIECE_POINTS c.loop-point.point-index
          c.loop-point.wedge.points.items c.args.run.now _ origin (omega arith) room
          (sym c.is_half_turn.ensures ∙ c.if-not-is_half_turn.false) c.loop-point.invariant.whole);
    }
