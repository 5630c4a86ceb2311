use Rattle.std.proofs.Common.{◌≡◌, ◌∙◌, ◌≤ℤ◌, ℤ, pos, SFits, ap, ap₂, sym, rules, to_z}
use Rattle.std.proofs.Common.{of_z, w64, arith}
use Rattle.std.specs.Int.{int_rem_euclid, w128}
use Rattle.std.proofs.lemmas.Int.{ints, to_z-of_z}
use Rattle.int_ring.proofs.Quotients.{rest_below, rest_nonneg}
use Rattle.feasibility.proofs.Divisors.{gcd_as, gcd_of_rest}
use Rattle.feasibility.proofs.lowest.gcd_with.Goals as goal

pub returns-clause-greatest : goal.returns-clause-greatest
returns-clause-greatest c =
    let a = c.args.a in
    let b = c.args.b in
    let r = c.rem_euclid.result in
    let from_1 : pos 1 ≤ℤ a = search (rules, c.requires) in
    let back : to_z w64 (of_z w64 c.gcd.result) ≡ c.gcd.result = to_z-of_z w64 _ (search rules) in
    let a_is : to_z w64 (of_z w64 a) ≡ a = to_z-of_z w64 _ (search rules) in
    let b_is : to_z w128 (of_z w128 b) ≡ b = to_z-of_z w128 _ (search rules) in
    let a_fits : SFits w128 (to_z w64 (of_z w64 a)) = search rules in
    let r_is : r ≡ int_rem_euclid b a =
    c.rem_euclid.ensures.value ∙ ap₂ int_rem_euclid b_is (to_z-of_z w128 _ a_fits ∙ a_is) in
    let low = rest_nonneg b a in
    let high = rest_below b a (omega (arith, ints)) in
    let top : SFits w64 a = search rules in
    let fits : SFits w64 r = omega (arith, ints, r_is, low, high, top) in
    let wide : SFits w128 r = search rules in
    let r_back : to_z w64 (of_z w64 (to_z w128 (of_z w128 r))) ≡ r =
    ap (λ (z : ℤ). to_z w64 (of_z w64 z)) (to_z-of_z w128 r wide) ∙ to_z-of_z w64 r fits in
    gcd_of_rest a b _ from_1 (gcd_as a_is (r_back ∙ r_is) (sym back) c.gcd.ensures.greatest)
