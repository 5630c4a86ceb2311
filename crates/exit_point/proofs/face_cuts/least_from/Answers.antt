use Rattle.std.proofs.Common.{arith, subst, List}
use Rattle.std.proofs.lemmas.List.{take_all}
use Rattle.wrench_geometry.specs.declared.vector.Vec3.{Vec3}
use Rattle.wrench_geometry.proofs.Bounds.{same_vector}
use Rattle.exit_point.proofs.NoMore.{IsNoMoreWith, first_with, next_with, no_more_trans}
use Rattle.exit_point.proofs.face_cuts.least_from.Goals as goal

pub loop-other-init : goal.loop-other-init
loop-other-init c =
    let at = c.least_between-least.ensures in
    let origin = c.default.ensures in
    record {
      cut = at.cut;
      at_most = at.at_most;
      others = first_with c.args.sums.now c.args.face.now c.least_between-least.result
          c.args.chosen c.args.point c.default.result
          (same_vector origin.0 origin.1.0 origin.1.1) at.at_most_difference;
    }

pub loop-other-preserved : goal.loop-other-preserved
loop-other-preserved c =
    let before = c.loop-other.invariant in
    let after = c.least_between-least-in-loop-other.ensures in
    let least = c.least_between-least-in-loop-other.result in
    record {
      cut = after.cut;
      at_most = no_more_trans least c.loop-other.least c.args.cut after.cut.ahead
          before.cut.ahead c.requires.cut.ahead after.at_most before.at_most;
      others = next_with c.args.sums.now c.args.face.now least c.loop-other.least after.cut
          before.cut after.at_most c.args.chosen c.args.point c.args.images.now
          c.loop-other.other-index (omega arith) before.others after.at_most_difference;
    }

pub returns-clause-at_most_point : goal.returns-clause-at_most_point
returns-clause-at_most_point c =
    let P : List Vec3 → Type 0 =
    IsNoMoreWith c.args.sums.now c.args.face.now c.loop-other.least c.args.chosen c.args.point in
    λ level. subst P (take_all c.loop-other.other-index c.args.images.now c.loop-other-test.false)
    c.loop-other.invariant.others
