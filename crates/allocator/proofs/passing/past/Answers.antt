use Rattle.std.proofs.Common.{◌≡◌, ◌∙◌, ℤ, pos, ◌+ℤ◌, ◌*ℤ◌, ◌≤ℤ◌, ap, ap₂, subst, sym, SFits, rules, to_z, of_z, w64, arith}
use Rattle.std.specs.Int.{w128}
use Rattle.std.proofs.lemmas.Int.{ints, to_z-of_z}
use Rattle.dp_num.specs.Quotients.{IsFloor}
use Rattle.allocator.proofs.Duals.{floor_fits, up_to_floor}
use Rattle.allocator.proofs.passing.past.Goals as goal
use Rattle.allocator.proofs.passing.past.Goals.{After-floor_div}

-- the floor of the quotient
floor_is : (c : After-floor_div) → IsFloor c.product.result c.args.part.bottom c.floor_div.result
floor_is c =
    let p : to_z w128 (of_z w128 c.product.result) ≡ c.product.result =
    to_z-of_z w128 _ (search rules) in
    let narrow : to_z w64 (of_z w64 c.args.part.bottom) ≡ c.args.part.bottom =
    to_z-of_z w64 _ (search rules) in
    let b : to_z w128 (of_z w128 (to_z w64 (of_z w64 c.args.part.bottom))) ≡ c.args.part.bottom =
    ap (λ (z : ℤ). to_z w128 (of_z w128 z)) narrow ∙ to_z-of_z w128 _ (search rules) in
    subst (λ (z : ℤ). IsFloor z c.args.part.bottom c.floor_div.result) p
    (subst (λ (z : ℤ). IsFloor (to_z w128 (of_z w128 c.product.result)) z c.floor_div.result) b
    c.floor_div.ensures.floor)

fits_more : (c : After-floor_div) → SFits w128 (c.floor_div.result +ℤ pos 1)
fits_more c =
    floor_fits c.product.result c.args.part.bottom c.floor_div.result c.args.part.bottom_from_1
    c.product.ensures.low c.product.ensures.high (floor_is c)

pub overflow_add-result : goal.overflow_add-result
overflow_add-result c =
    let at = (goal.at.overflow_add-result c).After-floor_div in
    let is : to_z w128 (of_z w128 c.floor_div.result) ≡ c.floor_div.result =
    to_z-of_z w128 _ (search rules) in
    subst (λ (z : ℤ). SFits w128 (z +ℤ pos 1)) (sym is) (fits_more at)

pub returns : goal.returns
returns c s less =
    let at = (goal.at.returns c).After-floor_div in
    let is : to_z w128 (of_z w128 c.floor_div.result) ≡ c.floor_div.result =
    to_z-of_z w128 _ (search rules) in
    let whole : to_z w128 (of_z w128 (to_z w128 (of_z w128 c.floor_div.result) +ℤ pos 1))
    ≡ c.floor_div.result +ℤ pos 1 =
    ap (λ (z : ℤ). to_z w128 (of_z w128 (z +ℤ pos 1))) is
    ∙ to_z-of_z w128 (c.floor_div.result +ℤ pos 1) (fits_more at) in
    let top : to_z w64 (of_z w64 c.args.part.top) ≡ c.args.part.top =
    to_z-of_z w64 _ (search rules) in
    let along : to_z w64 (of_z w64 c.args.along) ≡ c.args.along =
    to_z-of_z w64 _ (search rules) in
    subst (λ (z : ℤ). (s *ℤ c.args.part.bottom) ≤ℤ z)
    (c.product.ensures.value ∙ ap₂ (λ (a b : ℤ). a *ℤ b) top along)
    (up_to_floor c.product.result c.args.part.bottom c.floor_div.result c.args.part.bottom_from_1
    (floor_is at).below s (omega (arith, ints, whole, less)))
