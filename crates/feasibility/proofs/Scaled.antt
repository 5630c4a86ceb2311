-- Supports of directions that are whole numbers of times as long, and cuts in lowest terms.
use Rattle.std.proofs.Common.{◌≡◌, ◌∙◌, ℤ, pos, ◌+ℤ◌, ◌*ℤ◌, ◌≤ℤ◌, ◌<ℤ◌, List, []}
use Rattle.std.proofs.Common.{◌∷◌, map, refl, sym, ap, ap₂, arith}
use Rattle.std.specs.Prelude.{fold}
use Rattle.std.specs.Int.{int_max}
use Rattle.std.proofs.lemmas.Int.{by_lt_z, int_max_is}
use Rattle.int_ring.proofs.Laws.{linear}
use Rattle.int_ring.proofs.Order.{cancel_lt_left, mul_le_left, mul_lt_right}
use Rattle.int_ring.proofs.Ring.{ring, reads}
use Rattle.wrench_geometry.specs.declared.vector.Vec3.{Vec3}
use Rattle.wrench_geometry.specs.Vectors.{dot_of, greatest_of, scaled_by, support_of}
use Rattle.wrench_geometry.proofs.Supports.{support_cons}
use Rattle.exit_point.specs.declared.weights.ExitWeights.{ExitWeights}
use Rattle.exit_point.specs.Exits.{IsExit}
use Rattle.feasibility.specs.Lowest.{IsShortened}

dot_scaled : (g : ℤ) (w v : Vec3) → dot_of (scaled_by g w) v ≡ g *ℤ dot_of w v
dot_scaled g w v = ring (g ∷ w.x ∷ w.y ∷ w.z ∷ v.x ∷ v.y ∷ v.z ∷ []) (search reads depth 40) refl

max_right : (a b : ℤ) → a ≤ℤ b → int_max a b ≡ b
max_right a b h = omega (arith, linear, int_max_is)

max_left : (a b : ℤ) → b ≤ℤ a → int_max a b ≡ a
max_left a b h = omega (arith, linear, int_max_is)

max_scaled : (g a b : ℤ) → pos 1 ≤ℤ g → int_max (g *ℤ a) (g *ℤ b) ≡ g *ℤ int_max a b
max_scaled g a b from_1 = by_lt_z b a
    (λ h.
    let less : b ≤ℤ a = omega (arith, linear) in
    max_left (g *ℤ a) (g *ℤ b) (mul_le_left b a g less (omega (arith, linear)))
    ∙ ap (λ (z : ℤ). g *ℤ z) (sym (max_left a b less)))
    (λ h. max_right (g *ℤ a) (g *ℤ b) (mul_le_left a b g h (omega (arith, linear)))
    ∙ ap (λ (z : ℤ). g *ℤ z) (sym (max_right a b h)))

fold_scaled : (g a : ℤ) (w : Vec3) (list : List Vec3) → pos 1 ≤ℤ g →
    fold int_max (g *ℤ a) (map (dot_of (scaled_by g w)) list) ≡ g *ℤ fold int_max a
    (map (dot_of w) list)
fold_scaled g a w [] from_1 = refl
fold_scaled g a w (v ∷ list) from_1 =
    ap (λ (z : ℤ). fold int_max z (map (dot_of (scaled_by g w)) list))
    (ap (int_max (g *ℤ a)) (dot_scaled g w v) ∙ max_scaled g a (dot_of w v) from_1)
    ∙ fold_scaled g (int_max a (dot_of w v)) w list from_1

greatest_scaled : (g : ℤ) (w : Vec3) (list : List Vec3) → pos 1 ≤ℤ g →
    greatest_of (scaled_by g w) list ≡ g *ℤ greatest_of w list
greatest_scaled g w list from_1 =
    ap (λ (z : ℤ). fold int_max z (map (dot_of (scaled_by g w)) list)) (nothing g)
    ∙ fold_scaled g (pos 0) w list from_1
  where
    nothing : (g : ℤ) → pos 0 ≡ g *ℤ pos 0
    nothing g = ring (g ∷ []) (search reads depth 40) refl

support_scaled : (g : ℤ) (w : Vec3) (lists : List (List Vec3)) → pos 1 ≤ℤ g →
    support_of lists (scaled_by g w) ≡ g *ℤ support_of lists w
support_scaled g w [] from_1 = nothing g
  where
    nothing : (g : ℤ) → pos 0 ≡ g *ℤ pos 0
    nothing g = ring (g ∷ []) (search reads depth 40) refl
support_scaled g w (list ∷ lists) from_1 =
    support_cons (scaled_by g w) list lists
    ∙ ap₂ (λ (a b : ℤ). a +ℤ b) (greatest_scaled g w list from_1) (support_scaled g w lists from_1)
    ∙ joined g (greatest_of w list) (support_of lists w)
    ∙ ap (λ (z : ℤ). g *ℤ z) (sym (support_cons w list lists))
  where
    joined : (g a b : ℤ) → g *ℤ a +ℤ g *ℤ b ≡ g *ℤ (a +ℤ b)
    joined g a b = ring (g ∷ a ∷ b ∷ []) (search reads depth 40) refl

-- a ray that leaves the sums before the demand is cut off from it by the cut in lowest terms
pub cut_separates : (lists : List (List Vec3)) (d : Vec3) (exit : ExitWeights) (v : Vec3) →
    IsExit lists d exit →
    exit.t <ℤ exit.q → IsShortened exit.cut.w v → support_of lists v <ℤ dot_of v d
cut_separates lists d exit v exits before short =
    let w = exit.cut.w in
    let g = short.factor in
    let from_1 = short.from_1 in
    let top : exit.cut.top ≡ g *ℤ support_of lists v =
    exits.cut.top ∙ ap (support_of lists) short.is ∙ support_scaled g v lists from_1 in
    let bottom : exit.cut.bottom ≡ g *ℤ dot_of v d =
    exits.cut.bottom ∙ ap (λ (u : Vec3). dot_of u d) short.is ∙ dot_scaled g v d in
    let less = below exit.t exit.q exit.cut.top exit.cut.bottom exits.q_from_1
    exits.cut.bottom_from_1 before exits.same_quotient in
    cancel_lt_left (support_of lists v) (dot_of v d) g (omega (arith, linear))
    (omega (arith, linear, top, bottom, less))
  where
    below : (t q a b : ℤ) → pos 1 ≤ℤ q → pos 1 ≤ℤ b → t <ℤ q → t *ℤ b ≡ q *ℤ a → a <ℤ b
    below t q a b h k l e =
        let m = mul_lt_right t q b l (omega (arith, linear)) in
        cancel_lt_left a b q (omega (arith, linear)) (omega (arith, linear, m, e))
