use Rattle.std.proofs.Common.{◌≡◌, ℤ, ◌-ℤ◌, subst, rules, to_z, of_z, w32, w64}
use Rattle.std.specs.Int.{w128}
use Rattle.std.specs.Prelude.{IfNone, IfSome}
use Rattle.std.proofs.lemmas.Int.{to_z-of_z}
use Rattle.int_ring.proofs.Machine.{machine, strip}
use Rattle.plant_model.specs.Numbers.{IsWithin}
use Rattle.capability.proofs.speeds.component_less.Goals as goal

pub returns-clause-some : goal.returns-clause-some
returns-clause-some c =
    let most : to_z w32 (of_z w32 c.args.most) ≡ c.args.most = to_z-of_z w32 _ (search rules) in
    let r = c.narrowed.result in
    let left = to_z w128 (of_z w128 (to_z w128 (of_z w128 (to_z w32 (of_z w32 c.args.base)))
    -ℤ to_z w128 (of_z w128 (to_z w64 (of_z w64 c.args.load))))) in
    let left_is : left ≡ c.args.base -ℤ c.args.load =
    strip (search machine depth 40 fits 5000) tt in
    subst (λ (y : ℤ). IfSome r (λ z. (z ≡ y) × IsWithin c.args.most z)) left_is
    (subst (λ (m : ℤ). IfSome r (λ z. (z ≡ left) × IsWithin m z)) most c.narrowed.ensures.some)

pub returns-clause-none : goal.returns-clause-none
returns-clause-none c =
    let most : to_z w32 (of_z w32 c.args.most) ≡ c.args.most = to_z-of_z w32 _ (search rules) in
    let r = c.narrowed.result in
    let left = to_z w128 (of_z w128 (to_z w128 (of_z w128 (to_z w32 (of_z w32 c.args.base)))
    -ℤ to_z w128 (of_z w128 (to_z w64 (of_z w64 c.args.load))))) in
    let left_is : left ≡ c.args.base -ℤ c.args.load =
    strip (search machine depth 40 fits 5000) tt in
    subst (λ (y : ℤ). IfNone r (¬ IsWithin c.args.most y)) left_is
    (subst (λ (m : ℤ). IfNone r (¬ IsWithin m left)) most c.narrowed.ensures.none)
