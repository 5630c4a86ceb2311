-- A turn of the loop that compares two quotients, over the bits that the code has. x/y and u/v are
-- what is compared still.
use Rattle.std.proofs.Common.{◌≡◌, sym, ◌∙◌, subst, ap, ◌+◌, ◌<◌, ◌⊎◌, inl, inr, ⊎_elim, true}
use Rattle.std.proofs.Common.{false, not, Ordering, int_cmp, ℤ, pos, of_z, FitsSigned}
use Rattle.std.specs.Bool.{◌==◌}
use Rattle.std.specs.Int.{w128}
use Rattle.std.specs.Int.RustNames.{int_div, int_rem, unsigned_abs}
use Rattle.std.specs.Ordering.{ordering_index}
use Rattle.dp_num.specs.Fractions.{order_of_quotients}
use Rattle.dp_num.proofs.Computed.{back, rem_back, quot_back, rem-zero, rem-not_zero, equal}
use Rattle.dp_num.proofs.Computed.{not_equal, order-back}
use Rattle.dp_num.proofs.Remainders.{SameOrder, order-whole, order-rest, order-turned, bottoms_fall}

-- what the code compares: the whole parts, and the remainders
abbrev whole_cmp : ℤ → ℤ → ℤ → ℤ → Ordering
whole_cmp x y u v = int_cmp (back w128 (int_div x y)) (back w128 (int_div u v))

abbrev rest_cmp : ℤ → ℤ → ℤ → ℤ → Ordering
rest_cmp x y u v = int_cmp (back w128 (int_rem x y)) (back w128 (int_rem u v))

whole_cmp_is : {a b c d x y u v : ℤ} → SameOrder a b c d x y u v → FitsSigned w128 x
    → FitsSigned w128 u → whole_cmp x y u v ≡ int_cmp (int_div x y) (int_div u v)
whole_cmp_is {x = x} {y = y} {u = u} {v = v} h p q =
    ap (λ (z : ℤ). int_cmp z (back w128 (int_div u v))) (quot_back w128 x y p h.first_bottom)
    ∙ ap (int_cmp (int_div x y)) (quot_back w128 u v q h.second_bottom)

rest_cmp_is : (x y u v : ℤ) → FitsSigned w128 x → FitsSigned w128 u
    → rest_cmp x y u v ≡ int_cmp (int_rem x y) (int_rem u v)
rest_cmp_is x y u v p q =
    ap (λ (z : ℤ). int_cmp z (back w128 (int_rem u v))) (rem_back w128 x y p)
    ∙ ap (int_cmp (int_rem x y)) (rem_back w128 u v q)

-- the whole parts differ
pub ends_by_whole : {a b c d x y u v : ℤ} → FitsSigned w128 a → FitsSigned w128 b
    → FitsSigned w128 c → FitsSigned w128 d
    → SameOrder (back w128 a) (back w128 b) (back w128 c) (back w128 d) x y u v → FitsSigned w128 x
    → FitsSigned w128 u → (o : Ordering) → o ≡ whole_cmp x y u v
    → true ≡ not (ordering_index o == 1) → o ≡ order_of_quotients a b c d
ends_by_whole {a = a} {b = b} {c = c} {d = d} {x = x} {y = y} {u = u} {v = v} fa fb fc fd h p q o e
    apart =
    order-whole _ _ _ _ x y u v o h (e ∙ whole_cmp_is h p q) (not_equal o apart)
    ∙ order-back w128 a b c d fa fb fc fd

-- they are the same, and a remainder is 0
pub ends_by_rest : {a b c d x y u v : ℤ} → FitsSigned w128 a → FitsSigned w128 b → FitsSigned w128 c
    → FitsSigned w128 d → SameOrder (back w128 a) (back w128 b) (back w128 c) (back w128 d) x y u v
    → FitsSigned w128 x → FitsSigned w128 u → (o : Ordering) → o ≡ whole_cmp x y u v
    → false ≡ not (ordering_index o == 1) → (of_z w128 (int_rem x y) ≡ 0)
    ⊎ ((¬ (of_z w128 (int_rem x y) ≡ 0)) × (of_z w128 (int_rem u v) ≡ 0)) → (r : Ordering)
    → r ≡ rest_cmp x y u v → r ≡ order_of_quotients a b c d
ends_by_rest {a = a} {b = b} {c = c} {d = d} {x = x} {y = y} {u = u} {v = v} fa fb fc fd h p q o e
    same none r rest =
    let zero : (int_rem x y ≡ pos 0) ⊎ (int_rem u v ≡ pos 0) =
    ⊎_elim (λ k. inl (rem-zero w128 x y h.first_top k))
    (λ k. inr (rem-zero w128 u v h.second_top k.1)) none in
    rest
    ∙ rest_cmp_is x y u v p q
    ∙ order-rest _ _ _ _ x y u v h (equal o same ∙ e ∙ whole_cmp_is h p q) zero
    ∙ order-back w128 a b c d fa fb fc fd

-- they are the same, and no remainder is 0
pub goes_on : {a b c d x y u v : ℤ} → SameOrder a b c d x y u v → FitsSigned w128 x
    → FitsSigned w128 u → (o : Ordering) → o ≡ whole_cmp x y u v
    → false ≡ not (ordering_index o == 1) → ¬ (of_z w128 (int_rem x y) ≡ 0)
    → ¬ (of_z w128 (int_rem u v) ≡ 0) → SameOrder a b c d v (back w128 (int_rem u v)) y
    (back w128 (int_rem x y))
goes_on {a = a} {b = b} {c = c} {d = d} {x = x} {y = y} {u = u} {v = v} h p q o e same left right =
    let turned = order-turned a b c d x y u v h (equal o same ∙ e ∙ whole_cmp_is h p q)
    (rem-not_zero w128 x y left) (rem-not_zero w128 u v right) in
    let half = subst (λ (z : ℤ). SameOrder a b c d v z y (int_rem x y)) (sym (rem_back w128 u v q))
    turned in
    subst (λ (z : ℤ). SameOrder a b c d v (back w128 (int_rem u v)) y z) (sym (rem_back w128 x y p))
    half

pub bottoms-fall : {a b c d x y u v : ℤ} → SameOrder a b c d x y u v → FitsSigned w128 x
    → FitsSigned w128 u → unsigned_abs (back w128 (int_rem u v))
    + unsigned_abs (back w128 (int_rem x y)) < unsigned_abs y + unsigned_abs v
bottoms-fall {a = a} {b = b} {c = c} {d = d} {x = x} {y = y} {u = u} {v = v} h p q =
    let half = subst (λ (z : ℤ). unsigned_abs z + unsigned_abs (int_rem x y) < unsigned_abs y
    + unsigned_abs v) (sym (rem_back w128 u v q)) (bottoms_fall a b c d x y u v h) in
    subst (λ (z : ℤ). unsigned_abs (back w128 (int_rem u v)) + unsigned_abs z < unsigned_abs y
    + unsigned_abs v) (sym (rem_back w128 x y p)) half
