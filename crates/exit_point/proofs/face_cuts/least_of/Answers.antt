use Rattle.std.proofs.Common.{arith, subst, List}
use Rattle.std.proofs.lemmas.List.{take_all}
use Rattle.wrench_geometry.specs.declared.vector.Vec3.{Vec3}
use Rattle.wrench_geometry.proofs.Bounds.{same_vector}
use Rattle.exit_point.specs.Faces.{IsNoMoreAmong}
use Rattle.exit_point.proofs.NoMore.{first_among, next_among, no_more_trans}
use Rattle.exit_point.proofs.face_cuts.least_of.Goals as goal

pub loop-point-init : goal.loop-point-init
loop-point-init c =
    let at = c.least_from-least.ensures in
    let origin = c.default.ensures in
    record {
      cut = at.cut;
      at_most = at.at_most;
      pairs = first_among c.args.sums.now c.args.face.now c.least_from-least.result
          c.args.images.now c.args.chosen c.default.result
          (same_vector origin.0 origin.1.0 origin.1.1) at.at_most_point;
    }

pub loop-point-preserved : goal.loop-point-preserved
loop-point-preserved c =
    let before = c.loop-point.invariant in
    let after = c.least_from-least-in-loop-point.ensures in
    let least = c.least_from-least-in-loop-point.result in
    record {
      cut = after.cut;
      at_most = no_more_trans least c.loop-point.least c.args.cut after.cut.ahead
          before.cut.ahead c.requires.cut.ahead after.at_most before.at_most;
      pairs = next_among c.args.sums.now c.args.face.now least c.loop-point.least after.cut
          before.cut after.at_most c.args.images.now c.args.chosen c.args.images.now
          c.loop-point.point-index (omega arith) before.pairs after.at_most_point;
    }

pub returns-clause-at_most_pairs : goal.returns-clause-at_most_pairs
returns-clause-at_most_pairs c =
    let P : List Vec3 → Type 0 =
    IsNoMoreAmong c.args.sums.now c.args.face.now c.loop-point.least c.args.images.now
    c.args.chosen in
    subst P (take_all c.loop-point.point-index c.args.images.now c.loop-point-test.false)
    c.loop-point.invariant.pairs
