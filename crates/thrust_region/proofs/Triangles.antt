-- A thrust that lies in a ring lies in the triangle of an edge in whose angle it is.
use Rattle.std.proofs.Common.{◌≡◌, ◌∙◌, ap, ap₂, sym, refl, ℕ, ◌+◌, ℤ, pos, negsuc, neg_ℤ, ◌+ℤ◌}
use Rattle.std.proofs.Common.{◌-ℤ◌, ◌*ℤ◌, ◌≤ℤ◌, ◌<ℤ◌, List, [], ◌∷◌, arith}
use Rattle.std.specs.Prelude.{sum}
use Rattle.std.proofs.Math.IntN.{*ℤ_comm}
use Rattle.std.proofs.lemmas.List.Sums.{sum_by-cons}
use Rattle.int_ring.proofs.Laws.{linear, mul_nonneg, mul_pos, zero_mul}
use Rattle.int_ring.proofs.Order.{mul_le_right, nonneg_of_mul_nonneg, pos_of_mul_pos}
use Rattle.int_ring.proofs.Ring.{ring as identity, reads}
use Rattle.plant_model.specs.declared.thrust.Point.{Point}
use Rattle.plant_model.specs.declared.thrust.Thrust.{Thrust}
use Rattle.plant_model.specs.Lies.{LiesIn}
use Rattle.plant_model.specs.Rings.{cross, dot, side}
use Rattle.thrust_region.specs.Exact.{point_of}
use Rattle.thrust_region.proofs.Lists.{Each}
use Rattle.thrust_region.proofs.Plane.{form, total, total_is}

pub natural : (z : ℤ) → pos 0 ≤ℤ z → (n : ℕ) × (pos n ≡ z)
natural (pos n) h = (n, refl)
natural (negsuc n) h = absurd (omega (arith, linear))

one_above : (w f d t s : ℤ) → w *ℤ f +ℤ t +ℤ (w +ℤ s) *ℤ d ≡ w *ℤ (f +ℤ d) +ℤ (t +ℤ s *ℤ d)
one_above w f d t s = identity (w ∷ f ∷ d ∷ t ∷ s ∷ []) (search reads depth 40) refl

pos_sum : (m n : ℕ) → pos (m + n) ≡ pos m +ℤ pos n
pos_sum m n = omega (arith, linear)

-- a form that with d is at least 0 at each point is so at each sum of them
total_above : (c e d : ℤ) (ws : List ℕ) (ps : List Point) → pos 0 ≤ℤ d
    → Each (λ p. pos 0 ≤ℤ (form c e p +ℤ d)) ps → pos 0 ≤ℤ (total c e ws ps +ℤ pos (sum ws) *ℤ d)
total_above c e d [] ps h each = omega (arith, linear, zero_mul d)
total_above c e d (w ∷ ws) [] h each =
    let s = mul_nonneg (pos (sum (w ∷ ws))) d (omega (arith, linear)) h in
    omega (arith, linear)
total_above c e d (w ∷ ws) (p ∷ ps) h each =
    let count : pos (sum (w ∷ ws))
    ≡ pos w +ℤ pos (sum ws) = ap (λ (n : ℕ). pos n) (sum_by-cons (λ (x : ℕ). x) w ws)
    ∙ pos_sum w (sum ws) in
    let others = total_above c e d ws ps h each.1 in
    let this = mul_nonneg (pos w) (form c e p +ℤ d) (omega (arith, linear)) each.0 in
    let split = one_above (pos w) (form c e p) d (total c e ws ps) (pos (sum ws)) in
    rw count (omega (arith, linear))

module _ (r s : Point) where
  left_form : (p : Point) → form (r.y -ℤ s.y) (s.x -ℤ r.x) p +ℤ cross r s ≡ side r s p
  left_form p = identity (r.x ∷ r.y ∷ s.x ∷ s.y ∷ p.x ∷ p.y ∷ []) (search reads depth 40) refl

  angle_form : (a : Point) → form (r.y -ℤ s.y) (s.x -ℤ r.x) a ≡ neg_ℤ (cross a s +ℤ cross r a)
  angle_form a = identity (r.x ∷ r.y ∷ s.x ∷ s.y ∷ a.x ∷ a.y ∷ []) (search reads depth 40) refl

  cramer_x : (a : Point) → cross a s *ℤ r.x +ℤ cross r a *ℤ s.x ≡ cross r s *ℤ a.x
  cramer_x a = identity (r.x ∷ r.y ∷ s.x ∷ s.y ∷ a.x ∷ a.y ∷ []) (search reads depth 40) refl

  cramer_y : (a : Point) → cross a s *ℤ r.y +ℤ cross r a *ℤ s.y ≡ cross r s *ℤ a.y
  cramer_y a = identity (r.x ∷ r.y ∷ s.x ∷ s.y ∷ a.x ∷ a.y ∷ []) (search reads depth 40) refl

  cramer_dot : (a : Point) → cross a s *ℤ dot r a +ℤ cross r a *ℤ dot s a ≡ cross r s *ℤ dot a a
  cramer_dot a = identity (r.x ∷ r.y ∷ s.x ∷ s.y ∷ a.x ∷ a.y ∷ []) (search reads depth 40) refl

  to_left_forms : (ps : List Point) → Each (λ p. pos 0 ≤ℤ side r s p) ps
      → Each (λ p. pos 0 ≤ℤ (form (r.y -ℤ s.y) (s.x -ℤ r.x) p +ℤ cross r s)) ps
  to_left_forms [] each = tt
  to_left_forms (p ∷ ps) each = (rw (left_form p) each.0, to_left_forms ps each.1)

scaled_form : (k c e x y : ℤ) → c *ℤ (k *ℤ x) +ℤ e *ℤ (k *ℤ y) ≡ k *ℤ (c *ℤ x +ℤ e *ℤ y)
scaled_form k c e x y = identity (k ∷ c ∷ e ∷ x ∷ y ∷ []) (search reads depth 40) refl

scaled_sum : (k f q d : ℤ) → k *ℤ f +ℤ k *ℤ q *ℤ d ≡ k *ℤ (f +ℤ q *ℤ d)
scaled_sum k f q d = identity (k ∷ f ∷ q ∷ d ∷ []) (search reads depth 40) refl

-- how far the thrust is beneath the edge
pub beneath : (points : List Point) (thrust : Thrust) (q : ℤ) (r s : Point) → LiesIn points thrust q
    → pos 0 <ℤ cross r s → Each (λ p. pos 0 ≤ℤ side r s p) points →
    pos 0 ≤ℤ (q *ℤ cross r s -ℤ (cross (point_of thrust) s +ℤ cross r (point_of thrust)))
beneath points thrust q r s lies turns left =
    let a : Point = point_of thrust in
    let k : ℤ = lies.k in
    let c : ℤ = r.y -ℤ s.y in
    let e : ℤ = s.x -ℤ r.x in
    let d : ℤ = cross r s in
    let one = lies.at_least_one in
    let k_above : pos 0 <ℤ k = omega (arith, linear) in
    let d_least : pos 0 ≤ℤ d = omega (arith, linear) in
    let sums = total_above c e d lies.weights points d_least (to_left_forms r s points left) in
    let value : total c e lies.weights points ≡ k *ℤ form c e a =
    total_is c e lies.weights points ∙ ap₂ (λ (u : ℤ) (v : ℤ). c *ℤ u +ℤ e *ℤ v) lies.x lies.y
    ∙ scaled_form k c e thrust.x thrust.y in
    let whole : pos (sum lies.weights) +ℤ pos lies.origin_weight
    ≡ k *ℤ q = sym (pos_sum (sum lies.weights) lies.origin_weight) ∙ lies.whole in
    let few : pos (sum lies.weights) ≤ℤ (k *ℤ q) = omega (arith, linear) in
    let more = mul_le_right (pos (sum lies.weights)) (k *ℤ q) d few d_least in
    let scaled = scaled_sum k (form c e a) q d in
    let product : pos 0 ≤ℤ (k *ℤ (form c e a +ℤ q *ℤ d)) = omega (arith, linear) in
    let least = nonneg_of_mul_nonneg k (form c e a +ℤ q *ℤ d) k_above product in
    let is = angle_form r s a in
    omega (arith, linear)

module _ (thrust : Thrust) (q : ℤ) (r s : Point) (turns : pos 0 <ℤ cross r s)
    (one : pos 0 ≤ℤ cross (point_of thrust) s) (two : pos 0 ≤ℤ cross r (point_of thrust))
    (under : pos 0 ≤ℤ (q *ℤ cross r s -ℤ (cross (point_of thrust) s +ℤ cross r (point_of thrust))))
  where
    -- the thrust lies in the triangle
    pub lies_in_triangle : LiesIn (r ∷ s ∷ []) thrust q
    lies_in_triangle =
        let a : Point = point_of thrust in
        let m = natural (cross a s) one in
        let n = natural (cross r a) two in
        let o = natural (q *ℤ cross r s -ℤ (cross a s +ℤ cross r a)) under in
        let m_is = m.1 in
        let n_is = n.1 in
        let o_is = o.1 in
        let x = cramer_x r s a in
        let y = cramer_y r s a in
        let turned : q *ℤ cross r s ≡ cross r s *ℤ q = *ℤ_comm q (cross r s) in
        record {
          k = cross r s;
          at_least_one = omega (arith, linear);
          weights = m.0 ∷ n.0 ∷ [];
          origin_weight = o.0;
          one_each = refl;
          whole = omega (arith, linear);
          x = rw (m_is, n_is) (omega (arith, linear));
          y = rw (m_is, n_is) (omega (arith, linear));
        }

    -- on the ray of the edge's first end
    pub lies_on_first : cross r (point_of thrust) ≡ pos 0 → LiesIn (r ∷ []) thrust q
    lies_on_first none =
        let a : Point = point_of thrust in
        let m = natural (cross a s) one in
        let o = natural (q *ℤ cross r s -ℤ (cross a s +ℤ cross r a)) under in
        let m_is = m.1 in
        let o_is = o.1 in
        let x = cramer_x r s a in
        let y = cramer_y r s a in
        let no_x : cross r a *ℤ s.x ≡ pos 0 = rw none (zero_mul s.x) in
        let no_y : cross r a *ℤ s.y ≡ pos 0 = rw none (zero_mul s.y) in
        let turned : q *ℤ cross r s ≡ cross r s *ℤ q = *ℤ_comm q (cross r s) in
        record {
          k = cross r s;
          at_least_one = omega (arith, linear);
          weights = m.0 ∷ [];
          origin_weight = o.0;
          one_each = refl;
          whole = omega (arith, linear);
          x = rw m_is (omega (arith, linear));
          y = rw m_is (omega (arith, linear));
        }

    -- on the ray of its second end
    pub lies_on_second : cross (point_of thrust) s ≡ pos 0 → LiesIn (s ∷ []) thrust q
    lies_on_second none =
        let a : Point = point_of thrust in
        let n = natural (cross r a) two in
        let o = natural (q *ℤ cross r s -ℤ (cross a s +ℤ cross r a)) under in
        let n_is = n.1 in
        let o_is = o.1 in
        let x = cramer_x r s a in
        let y = cramer_y r s a in
        let no_x : cross a s *ℤ r.x ≡ pos 0 = rw none (zero_mul r.x) in
        let no_y : cross a s *ℤ r.y ≡ pos 0 = rw none (zero_mul r.y) in
        let turned : q *ℤ cross r s ≡ cross r s *ℤ q = *ℤ_comm q (cross r s) in
        record {
          k = cross r s;
          at_least_one = omega (arith, linear);
          weights = n.0 ∷ [];
          origin_weight = o.0;
          one_each = refl;
          whole = omega (arith, linear);
          x = rw n_is (omega (arith, linear));
          y = rw n_is (omega (arith, linear));
        }

-- where it is on the ray of an end it is ahead
pub ahead_first : (r s a : Point) → pos 0 <ℤ cross r s → pos 0 <ℤ dot a a → pos 0 ≤ℤ cross a s
    → cross r a ≡ pos 0 → pos 0 <ℤ dot r a
ahead_first r s a turns nonzero one none =
    let no : cross r a *ℤ dot s a ≡ pos 0 = rw none (zero_mul (dot s a)) in
    let is = cramer_dot r s a in
    let above = mul_pos (cross r s) (dot a a) turns nonzero in
    let product : pos 0 <ℤ (cross a s *ℤ dot r a) = omega (arith, linear) in
    pos_of_mul_pos (cross a s) (dot r a) one product

pub ahead_second : (r s a : Point) → pos 0 <ℤ cross r s → pos 0 <ℤ dot a a → pos 0 ≤ℤ cross r a
    → cross a s ≡ pos 0 → pos 0 <ℤ dot s a
ahead_second r s a turns nonzero two none =
    let no : cross a s *ℤ dot r a ≡ pos 0 = rw none (zero_mul (dot r a)) in
    let is = cramer_dot r s a in
    let above = mul_pos (cross r s) (dot a a) turns nonzero in
    let product : pos 0 <ℤ (cross r a *ℤ dot s a) = omega (arith, linear) in
    pos_of_mul_pos (cross r a) (dot s a) two product
