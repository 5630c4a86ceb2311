-- Thrusts of the plane: sums of points with weights, and the angles of two edges.
use Rattle.std.proofs.Common.{◌≡◌, ◌∙◌, ap, refl, ℕ, ℤ, pos, neg_ℤ, ◌+ℤ◌, ◌-ℤ◌, ◌*ℤ◌, ◌≤ℤ◌, ◌<ℤ◌}
use Rattle.std.proofs.Common.{List, [], ◌∷◌, arith, ◌⊎◌, inl, inr}
use Rattle.int_ring.proofs.Laws.{linear, mul_nonneg, mul_pos, square_nonneg, zero_mul}
use Rattle.int_ring.proofs.Order.{pos_of_mul_pos, zero_factor}
use Rattle.int_ring.proofs.Ring.{ring, reads}
use Rattle.plant_model.specs.declared.thrust.Point.{Point}
use Rattle.plant_model.specs.Lies.{weighted_x, weighted_y}
use Rattle.plant_model.specs.Rings.{cross, dot, side}
use Rattle.thrust_region.proofs.Lists.{Each}

-- ---- a linear form of a sum of points with weights

abbrev pub form : ℤ → ℤ → Point → ℤ
form c d p = c *ℤ p.x +ℤ d *ℤ p.y

abbrev pub total : ℤ → ℤ → List ℕ → List Point → ℤ
total c d [] points = pos 0
total c d (w ∷ ws) [] = pos 0
total c d (w ∷ ws) (p ∷ ps) = pos w *ℤ form c d p +ℤ total c d ws ps

zero_sum : (c d : ℤ) → pos 0 ≡ c *ℤ pos 0 +ℤ d *ℤ pos 0
zero_sum c d = ring (c ∷ d ∷ []) (search reads depth 40) refl

one_more : (w c d x y a b : ℤ) → w *ℤ (c *ℤ x +ℤ d *ℤ y) +ℤ (c *ℤ a +ℤ d *ℤ b)
    ≡ c *ℤ (w *ℤ x +ℤ a) +ℤ d *ℤ (w *ℤ y +ℤ b)
one_more w c d x y a b = ring (w ∷ c ∷ d ∷ x ∷ y ∷ a ∷ b ∷ []) (search reads depth 40) refl

pub total_is : (c d : ℤ) (ws : List ℕ) (ps : List Point) → total c d ws ps
    ≡ c *ℤ weighted_x ws ps +ℤ d *ℤ weighted_y ws ps
total_is c d [] ps = zero_sum c d
total_is c d (w ∷ ws) [] = zero_sum c d
total_is c d (w ∷ ws) (p ∷ ps) = ap (λ (t : ℤ). pos w *ℤ form c d p +ℤ t) (total_is c d ws ps)
    ∙ one_more (pos w) c d p.x p.y (weighted_x ws ps) (weighted_y ws ps)

nonneg_nat : (n : ℕ) → pos 0 ≤ℤ pos n
nonneg_nat n = omega (arith, linear)

pub total_nonneg : (c d : ℤ) (ws : List ℕ) (ps : List Point) → Each (λ p. pos 0 ≤ℤ form c d p) ps
    → pos 0 ≤ℤ total c d ws ps
total_nonneg c d [] ps each = omega (arith, linear)
total_nonneg c d (w ∷ ws) [] each = omega (arith, linear)
total_nonneg c d (w ∷ ws) (p ∷ ps) each =
    let others = total_nonneg c d ws ps each.1 in
    let this = mul_nonneg (pos w) (form c d p) (nonneg_nat w) each.0 in
    omega (arith, linear)

-- where the form is above 0 at each point, and the sum isn't, all weights are 0
pub total_zero : (c d : ℤ) (ws : List ℕ) (ps : List Point) → Each (λ p. pos 0 <ℤ form c d p) ps
    → total c d ws ps ≤ℤ pos 0 → (weighted_x ws ps ≡ pos 0) × (weighted_y ws ps ≡ pos 0)
total_zero c d [] ps each none = (refl, refl)
total_zero c d (w ∷ ws) [] each none = (refl, refl)
total_zero c d (w ∷ ws) (p ∷ ps) each none =
    let others = total_nonneg c d ws ps (weaker ps each.1) in
    let first = each.0 in
    let at_least : pos 0 ≤ℤ form c d p = omega (arith, linear) in
    let this = mul_nonneg (pos w) (form c d p) (nonneg_nat w) at_least in
    let product : pos w *ℤ form c d p ≡ pos 0 = omega (arith, linear) in
    let rest_none : total c d ws ps ≤ℤ pos 0 = omega (arith, linear) in
    let weight : pos w ≡ pos 0 = elim (zero_factor (pos w) (form c d p) product)
    [ inl e ↦ e | inr e ↦ absurd (omega (arith, linear)) ] in
    let rest = total_zero c d ws ps each.1 rest_none in (
      nothing (pos w) p.x (weighted_x ws ps) weight rest.0,
      nothing (pos w) p.y (weighted_y ws ps) weight rest.1,
    )
  where
    weaker : (qs : List Point) → Each (λ q. pos 0 <ℤ form c d q) qs
        → Each (λ q. pos 0 ≤ℤ form c d q) qs
    weaker [] all = tt
    weaker (q ∷ qs) all = (let above = all.0 in omega (arith, linear), weaker qs all.1)

    nothing : (v x r : ℤ) → v ≡ pos 0 → r ≡ pos 0 → v *ℤ x +ℤ r ≡ pos 0
    nothing v x r e f = rw (e, f) (omega (arith, linear, zero_mul x))

-- ---- cross products as forms

pub cross_from : (u p : Point) → form (neg_ℤ u.y) u.x p ≡ cross u p
cross_from u p = ring (u.x ∷ u.y ∷ p.x ∷ p.y ∷ []) (search reads depth 40) refl

pub cross_to : (u p : Point) → form u.y (neg_ℤ u.x) p ≡ cross p u
cross_to u p = ring (u.x ∷ u.y ∷ p.x ∷ p.y ∷ []) (search reads depth 40) refl

-- ---- two edges

module _ (a r s u v : Point) where
  -- r and s are the ends of one edge, u and v those of another one
  angles : cross a v *ℤ side r s u +ℤ cross u a *ℤ side r s v +ℤ cross a s *ℤ side u v r +ℤ cross r
      a *ℤ side u v s ≡ pos 0
  angles = ring (a.x ∷ a.y ∷ r.x ∷ r.y ∷ s.x ∷ s.y ∷ u.x ∷ u.y ∷ v.x ∷ v.y ∷ [])
      (search reads depth 40) refl

  -- no point is in the angles of two edges, but on the ray of an end that they have in common
  pub apart : pos 0 ≤ℤ cross a s → pos 0 ≤ℤ cross r a → pos 0 ≤ℤ cross a v → pos 0 ≤ℤ cross u a →
      pos 0 ≤ℤ side r s u → pos 0 ≤ℤ side r s v → pos 0 ≤ℤ side u v r → pos 0 ≤ℤ side u v s →
      ((pos 0 <ℤ cross a v) × (pos 0 <ℤ side r s u))
      ⊎ ((pos 0 <ℤ cross u a) × (pos 0 <ℤ side r s v)) → ⊥
  apart h1 h2 h3 h4 k1 k2 k3 k4 strict =
      let t1 = mul_nonneg (cross a v) (side r s u) h3 k1 in
      let t2 = mul_nonneg (cross u a) (side r s v) h4 k2 in
      let t3 = mul_nonneg (cross a s) (side u v r) h1 k3 in
      let t4 = mul_nonneg (cross r a) (side u v s) h2 k4 in
      let none = angles in
      elim strict [
        | inl e ↦ let t = mul_pos (cross a v) (side r s u) e.0 e.1 in omega (arith, linear)
        | inr e ↦ let t = mul_pos (cross u a) (side r s v) e.0 e.1 in omega (arith, linear)
      ]

-- a point on the ray through u is before whatever u is before
ray_turns : (u v a : Point) → dot u u *ℤ cross a v ≡ dot u a *ℤ cross u v -ℤ cross u a *ℤ dot u v
ray_turns u v a = ring (u.x ∷ u.y ∷ v.x ∷ v.y ∷ a.x ∷ a.y ∷ []) (search reads depth 40) refl

square_is : (u : Point) → pos 0 ≤ℤ dot u u
square_is u =
    let x = square_nonneg u.x in
    let y = square_nonneg u.y in
    omega (arith, linear)

pub on_ray_before : (u v a : Point) → cross u a ≡ pos 0 → pos 0 <ℤ dot u a → pos 0 <ℤ cross u v
    → pos 0 <ℤ cross a v
on_ray_before u v a along ahead turns =
    let product = mul_pos (dot u a) (cross u v) ahead turns in
    let none : cross u a *ℤ dot u v ≡ pos 0 = rw along (zero_mul (dot u v)) in
    let is = ray_turns u v a in
    let above : pos 0 <ℤ (dot u u *ℤ cross a v) = omega (arith, linear) in
    pos_of_mul_pos (dot u u) (cross a v) (square_is u) above
