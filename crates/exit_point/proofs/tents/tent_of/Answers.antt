use Rattle.std.proofs.Common.{◌≡◌, ◌∙◌, rules, to_z, of_z, w64}
use Rattle.std.proofs.lemmas.Int.{to_z-of_z}
use Rattle.wrench_geometry.specs.Vectors.{det_of}
use Rattle.exit_point.proofs.Covered.{is_tent}
use Rattle.exit_point.proofs.tents.tent_of.Goals as goal

pub returns : goal.returns
returns c = λ lists are.
    let a = c.args.corners.now.first.point in
    let b = c.args.corners.now.second.point in
    let e = c.args.corners.now.third.point in
    let height : to_z w64 (of_z w64 c.determinant.result) ≡ det_of a b e =
    to_z-of_z w64 _ (search rules) ∙ c.determinant.ensures.value in
    is_tent lists c.args.corners.now _ are c.normal.ensures.value c.normal-2.ensures.value
    c.normal-3.ensures.value height
