use Rattle.std.proofs.Common.{◌≡◌, pos, arith, refl}
use Rattle.std.proofs.lemmas.Int.{ints}
use Rattle.wrench_geometry.specs.Vectors.{zero_vector}
use Rattle.wrench_geometry.proofs.Bounds.{same_vector}
use Rattle.exit_point.proofs.Least.{exit_at_origin}
use Rattle.exit_point.proofs.portal.at_origin.Goals as goal

pub returns : goal.returns
returns c =
    let top : c.in_ok-cut.cut.top ≡ pos 0 = omega (arith, ints, c.if-cut-ne0.false) in
    let origin : c.farthest-origin.result.point ≡ zero_vector =
    same_vector (omega (arith, ints, c.if-x-ne0.false)) (omega (arith, ints, c.if-y-ne0.false))
    (omega (arith, ints, c.if-z-ne0.false)) in
    exit_at_origin c.args.sums.now c.args.d _ c.farthest-origin.result.point
    (record { first = pos 1; second = pos 0; third = pos 0 }) c.in_ok-cut.ensures.cut top origin
    refl refl refl c.weights.ensures.weights c.weights.ensures.sum
