use Rattle.std.proofs.Common.{◌≡◌, ℤ, ◌-ℤ◌, ap₂, sym, subst, rules, to_z, of_z, w32, w64}
use Rattle.std.proofs.lemmas.Int.{to_z-of_z}
use Rattle.plant_model.specs.Numbers.{IsWithin}
use Rattle.plant_model.specs.declared.limits.TheConstants.{MOST_FORCE, MOST_MOMENT}
use Rattle.capability.proofs.Paths.{if_none}
use Rattle.capability.proofs.speeds.less.Goals as goal

pub returns-in_err-component_less-clause-none : goal.returns-in_err-component_less-clause-none
returns-in_err-component_less-clause-none c =
    let base : to_z w32 (of_z w32 c.args.base.x) ≡ c.args.base.x = to_z-of_z w32 _ (search rules) in
    let load : to_z w64 (of_z w64 c.args.load.x) ≡ c.args.load.x = to_z-of_z w64 _ (search rules) in
    if_none c.from_residual.result (λ within. c.in_err-component_less.ensures.none
    (subst (λ (z : ℤ). IsWithin MOST_FORCE z) (sym (ap₂ ◌-ℤ◌ base load)) within.x))

pub returns-in_err-component_less-2-clause-none : goal.returns-in_err-component_less-2-clause-none
returns-in_err-component_less-2-clause-none c =
    let base : to_z w32 (of_z w32 c.args.base.y) ≡ c.args.base.y = to_z-of_z w32 _ (search rules) in
    let load : to_z w64 (of_z w64 c.args.load.y) ≡ c.args.load.y = to_z-of_z w64 _ (search rules) in
    if_none c.from_residual-in_err-component_less-2.result
    (λ within. c.in_err-component_less-2.ensures.none
    (subst (λ (z : ℤ). IsWithin MOST_FORCE z) (sym (ap₂ ◌-ℤ◌ base load)) within.y))

pub returns-in_err-component_less-3-clause-none : goal.returns-in_err-component_less-3-clause-none
returns-in_err-component_less-3-clause-none c =
    let base : to_z w32 (of_z w32 c.args.base.n) ≡ c.args.base.n = to_z-of_z w32 _ (search rules) in
    let load : to_z w64 (of_z w64 c.args.load.n) ≡ c.args.load.n = to_z-of_z w64 _ (search rules) in
    if_none c.from_residual-in_err-component_less-3.result
    (λ within. c.in_err-component_less-3.ensures.none
    (subst (λ (z : ℤ). IsWithin MOST_MOMENT z) (sym (ap₂ ◌-ℤ◌ base load)) within.n))
