use Rattle.std.proofs.Common.{arith}
use Rattle.std.proofs.lemmas.Int.{ints}
use Rattle.exit_point.proofs.portal.shares_of.Goals as goal

pub returns-clause-some : goal.returns-clause-some
returns-clause-some c =
    let first = c.determinant-first.ensures.within in
    let second = c.determinant-second.ensures.within in
    let third = c.determinant-third.ensures.within in
    omega (arith, ints, c.if-first-second-lt1.false)
