use Rattle.std.proofs.Common.{◌≡◌, ◌∙◌, ℤ, SFits, ap, refl, sym, rules, to_z, of_z, w64}
use Rattle.std.specs.Int.{w128}
use Rattle.std.proofs.lemmas.Int.{to_z-of_z}
use Rattle.feasibility.proofs.Divisors.{gcd_as, greatest_of_three}
use Rattle.feasibility.proofs.lowest.common_factor.Goals as goal

-- a number of 64 bits that was widened
widened : (z : ℤ) → SFits w64 z → SFits w128 z → to_z w128 (of_z w128 (to_z w64 (of_z w64 z))) ≡ z
widened z fits wide = ap (λ (n : ℤ). to_z w128 (of_z w128 n)) (to_z-of_z w64 z fits)
    ∙ to_z-of_z w128 z wide

pub returns-clause-greatest : goal.returns-clause-greatest
returns-clause-greatest c d is =
    let w = c.args.cut.now.w in
    let first = c.gcd_with.result in
    let second = c.gcd_with-2.result in
    let common = c.gcd_with-3.result in
    let b : to_z w64 (of_z w64 c.args.cut.now.bottom) ≡ c.args.cut.now.bottom = to_z-of_z w64 _
    (search rules) in
    let f : to_z w64 (of_z w64 first) ≡ first = to_z-of_z w64 _ (search rules) in
    let s : to_z w64 (of_z w64 second) ≡ second = to_z-of_z w64 _ (search rules) in
    let g : to_z w64 (of_z w64 common) ≡ common = to_z-of_z w64 _ (search rules) in
    greatest_of_three w d c.args.cut.now.bottom first second _ is
    (gcd_as b (widened w.x (search rules) (search rules)) refl c.gcd_with.ensures.greatest)
    (gcd_as f (widened w.y (search rules) (search rules)) refl c.gcd_with-2.ensures.greatest)
    (gcd_as s (widened w.z (search rules) (search rules)) (sym g) c.gcd_with-3.ensures.greatest)
