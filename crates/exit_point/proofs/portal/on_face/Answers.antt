use Rattle.std.proofs.Common.{◌≡◌, ◌∙◌, true, rules, to_z, of_z, w64}
use Rattle.std.specs.Prelude.{IsTrue}
use Rattle.std.proofs.lemmas.Int.{to_z-of_z}
use Rattle.wrench_geometry.specs.Vectors.{det_of}
use Rattle.exit_point.specs.Corners.{total_of}
use Rattle.exit_point.proofs.Least.{exit_on_face}
use Rattle.exit_point.proofs.portal.on_face.Goals as goal

pub returns : goal.returns
returns c =
    let a = c.args.corners.now.first.point in
    let b = c.args.corners.now.second.point in
    let e = c.args.corners.now.third.point in
    let shares = c.in_ok-shares.ensures in
    let yes : IsTrue true = search rules in
    let q : to_z w64 (of_z w64 c.total.result) ≡ total_of c.in_ok-shares.shares =
    to_z-of_z w64 _ (search rules) ∙ c.total.ensures in
    let t : to_z w64 (of_z w64 c.determinant.result) ≡ det_of a b e = to_z-of_z w64 _ (search rules)
    ∙ c.determinant.ensures.value in
    exit_on_face c.args.sums.now c.args.d _ a b e c.in_ok-shares.shares c.in_ok-cut.ensures.cut
    shares.within shares.of_demand shares.some
    (c.if-not-touches.ensures.0 yes) (c.if-not-touches-2.ensures.0 yes)
    (c.if-not-touches-3.ensures.0 yes) q t c.weights.ensures.weights c.weights.ensures.sum
