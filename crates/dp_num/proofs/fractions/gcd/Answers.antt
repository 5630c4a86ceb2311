use Rattle.std.proofs.Common.{◌≡◌, sym, subst, pos, to_z, ℤ, arith, w64, FitsSigned, rules}
use Rattle.std.proofs.lemmas.Int.{ints, to_z_pos}
use Rattle.dp_num.proofs.Computed.{rem_back}
use Rattle.dp_num.proofs.Divisors.{SharesDivisors, SharesDivisors-step}
use Rattle.dp_num.proofs.Divisors.{IsGreatestCommonDivisor-at_end}
use Rattle.dp_num.proofs.fractions.gcd.Goals as goal

pub loop-b-preserved : goal.loop-b-preserved
loop-b-preserved c =
    let a : ℤ = to_z w64 c.loop-b.a-bits in
    let b : ℤ = to_z w64 c.loop-b.b-bits in
    let fits : FitsSigned w64 a = search rules in
    let some : ¬ (to_z w64 c.loop-b.b-bits ≡ pos 0) = λ e. grind (arith, ints, to_z_pos) in
    subst (SharesDivisors _ _ b) (sym (rem_back w64 a b fits))
    (SharesDivisors-step _ _ a b some c.loop-b.invariant)

pub returns : goal.returns
returns c =
    let none : to_z w64 c.loop-b.b-bits ≡ pos 0 = omega (arith, ints) in
    let shares : SharesDivisors c.args.a c.args.b (to_z w64 c.loop-b.a-bits)
    (to_z w64 c.loop-b.b-bits) = search (rules, c.loop-b.invariant) in
    record {
      greatest = IsGreatestCommonDivisor-at_end c.args.a c.args.b _ _ c.requires.a_from_0
          c.requires.b_from_0 none shares;
    }
