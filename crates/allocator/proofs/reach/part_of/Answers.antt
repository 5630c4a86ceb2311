use Rattle.std.proofs.Common.{◌≡◌, ◌∙◌, ℤ, ◌*ℤ◌, ap, sym, rules, to_z, of_z, w64}
use Rattle.std.proofs.lemmas.Int.{to_z-of_z}
use Rattle.dp_num.specs.Fractions.{SameQuotient}
use Rattle.allocator.specs.Reaches.{denominator_of}
use Rattle.allocator.proofs.Duals.{held_to_1}
use Rattle.allocator.proofs.reach.part_of.Goals as goal

pub returns-clause-part : goal.returns-clause-part
returns-clause-part c =
    let exit = c.args.exit.now in
    let top = c.reduce.result.top in
    let bottom = c.reduce.result.bottom in
    let t_is : to_z w64 (of_z w64 exit.t) ≡ exit.t = to_z-of_z w64 _ (search rules) in
    let m_is : to_z w64 (of_z w64 c.denominator.result) ≡ denominator_of exit =
    to_z-of_z w64 _ (search rules) ∙ c.denominator.ensures in
    let same : SameQuotient top bottom exit.t (denominator_of exit) =
    ap (λ (z : ℤ). top *ℤ z) (sym m_is) ∙ c.reduce.ensures.same
    ∙ ap (λ (z : ℤ). z *ℤ bottom) t_is in
    held_to_1 exit top bottom c.requires.from_1 c.reduce.result.top_from_0
    c.reduce.result.bottom_from_1 same
