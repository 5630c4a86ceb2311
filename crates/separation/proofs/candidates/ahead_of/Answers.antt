use Rattle.std.proofs.Common.{◌≡◌, ◌∙◌, neg_ℤ, ap, sym, subst, arith}
use Rattle.std.proofs.lemmas.Int.{ints}
use Rattle.wrench_geometry.specs.declared.vector.Vec3.{Vec3}
use Rattle.wrench_geometry.specs.Vectors.{dot_of}
use Rattle.separation.specs.Candidates.{IsNormal}
use Rattle.separation.proofs.Bounds.{opposite_normal}
use Rattle.separation.proofs.Moves.{opposite_dot}
use Rattle.separation.proofs.candidates.ahead_of.Goals as goal

pub returns-then-along-lt0-clause-within : goal.returns-then-along-lt0-clause-within
returns-then-along-lt0-clause-within c =
    subst IsNormal (sym c.opposite.ensures) (opposite_normal c.args.normal c.requires.normal)

pub returns-then-along-lt0-clause-ahead : goal.returns-then-along-lt0-clause-ahead
returns-then-along-lt0-clause-ahead c =
    let turned : dot_of c.opposite.result c.args.d ≡ neg_ℤ c.product-along.result =
    ap (λ (v : Vec3). dot_of v c.args.d) c.opposite.ensures
    ∙ opposite_dot c.args.normal c.args.d ∙ ap neg_ℤ (sym c.product-along.ensures) in
    omega (arith, ints, turned, c.if-along-lt0.true)

pub returns-else-along-lt0-clause-none : goal.returns-else-along-lt0-clause-none
returns-else-along-lt0-clause-none c =
    sym c.product-along.ensures ∙ omega (arith, ints, c.if-along-gt0.false, c.if-along-lt0.false)
