use Rattle.std.proofs.Common.{◌≡◌, ◌∙◌, neg_ℤ, ap, sym, arith}
use Rattle.std.proofs.lemmas.Int.{ints}
use Rattle.wrench_geometry.specs.declared.vector.Vec3.{Vec3}
use Rattle.wrench_geometry.specs.Vectors.{dot_of}
use Rattle.separation.proofs.Moves.{opposite_dot}
use Rattle.exit_point.specs.Faces.{vector_of}
use Rattle.exit_point.proofs.Tilts.{tilt_of_opposite}
use Rattle.exit_point.proofs.face_cuts.ahead_of.Goals as goal

pub returns-then-along-lt0-clause-tilt : goal.returns-then-along-lt0-clause-tilt
returns-then-along-lt0-clause-tilt c =
    rw c.opposite.ensures (tilt_of_opposite c.args.normal c.requires.tilt)

pub returns-then-along-lt0-clause-ahead : goal.returns-then-along-lt0-clause-ahead
returns-then-along-lt0-clause-ahead c =
    let rest = vector_of c.args.rest in
    let turned : dot_of c.opposite.result rest ≡ neg_ℤ c.along-along.result =
    ap (λ (v : Vec3). dot_of v rest) c.opposite.ensures
    ∙ opposite_dot c.args.normal rest ∙ ap neg_ℤ (sym c.along-along.ensures) in
    omega (arith, ints, turned, c.if-along-lt0.true)

pub returns-else-along-lt0-clause-none : goal.returns-else-along-lt0-clause-none
returns-else-along-lt0-clause-none c =
    sym c.along-along.ensures ∙ omega (arith, ints, c.if-along-gt0.false, c.if-along-lt0.false)
