use Rattle.std.proofs.Common.{w64, FitsSigned, rules}
use Rattle.dp_num.proofs.Divisors.{IsReducedFraction-computed}
use Rattle.dp_num.proofs.fractions.reduce.Goals as goal

pub invariant_of-result : goal.invariant_of-result
invariant_of-result c =
    let fits : FitsSigned w64 c.gcd-common.result = search rules in
    let reduced = IsReducedFraction-computed w64 c.args.top c.args.bottom c.gcd-common.result
    c.ranges.top c.ranges.bottom fits c.requires.top_from_0 c.requires.bottom_from_1
    c.gcd-common.ensures.greatest in
    record { top_from_0 = reduced.top_from_0; bottom_from_1 = reduced.bottom_from_1 }

pub returns : goal.returns
returns c =
    let fits : FitsSigned w64 c.gcd-common.result = search rules in
    let reduced = IsReducedFraction-computed w64 c.args.top c.args.bottom c.gcd-common.result
    c.ranges.top c.ranges.bottom fits c.requires.top_from_0 c.requires.bottom_from_1
    c.gcd-common.ensures.greatest in
    record {
      same = reduced.same;
      lowest = reduced.lowest;
      top_within = reduced.top_within;
      bottom_within = reduced.bottom_within;
      zero = reduced.zero;
    }
