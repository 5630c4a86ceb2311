use Rattle.std.proofs.Common.{◌≡◌, ℤ, arith, rules, subst, to_z, of_z, w64}
use Rattle.std.proofs.lemmas.Int.{ints, to_z-of_z}
use Rattle.plant_model.specs.declared.limits.TheConstants.{MOST_FORCE, MOST_MOMENT}
use Rattle.feasibility.specs.Beyond.{IsSide}
use Rattle.feasibility.proofs.Beyond.{beyond_x, beyond_y, beyond_z}
use Rattle.feasibility.proofs.outside.beyond.Goals as goal

pub returns-then-x-ne0-clause-some : goal.returns-then-x-ne0-clause-some
returns-then-x-ne0-clause-some c =
    let s = c.side-x.result in
    let is : to_z w64 (of_z w64 c.args.ahead.x) ≡ c.args.ahead.x = to_z-of_z w64 _ (search rules)
    in
    let s_is : to_z w64 (of_z w64 s) ≡ s = to_z-of_z w64 _ (search rules) in
    rw s_is
    (beyond_x c.args.ahead s
    (subst (λ (k : ℤ). IsSide MOST_FORCE k s) is c.side-x.ensures)
    (λ e. omega (arith, ints, c.if-x-ne0.true, e, s_is)))

pub returns-then-y-ne0-clause-some : goal.returns-then-y-ne0-clause-some
returns-then-y-ne0-clause-some c =
    let s = c.side-y.result in
    let is : to_z w64 (of_z w64 c.args.ahead.y) ≡ c.args.ahead.y = to_z-of_z w64 _ (search rules)
    in
    let s_is : to_z w64 (of_z w64 s) ≡ s = to_z-of_z w64 _ (search rules) in
    rw s_is
    (beyond_y c.args.ahead s
    (subst (λ (k : ℤ). IsSide MOST_FORCE k s) is c.side-y.ensures)
    (λ e. omega (arith, ints, c.if-y-ne0.true, e, s_is)))

pub returns-then-z-ne0-clause-some : goal.returns-then-z-ne0-clause-some
returns-then-z-ne0-clause-some c =
    let s = c.side-z.result in
    let is : to_z w64 (of_z w64 c.args.ahead.z) ≡ c.args.ahead.z = to_z-of_z w64 _ (search rules)
    in
    let s_is : to_z w64 (of_z w64 s) ≡ s = to_z-of_z w64 _ (search rules) in
    rw s_is
    (beyond_z c.args.ahead s
    (subst (λ (k : ℤ). IsSide MOST_MOMENT k s) is c.side-z.ensures)
    (λ e. omega (arith, ints, c.if-z-ne0.true, e, s_is)))
