-- The hull of a piece's points and the origin: a thrust of it is a mix of two points and the
-- origin.
use Rattle.std.proofs.Common.{◌≡◌, ◌⊎◌, inl, inr, ℕ, ◌+◌, ℤ, pos, ◌+ℤ◌, ◌-ℤ◌, ◌*ℤ◌, negsuc, neg_ℤ}
use Rattle.std.proofs.Common.{◌≤ℤ◌, ◌<ℤ◌, List, [], ◌∷◌, length, nat_abs, arith, refl, sym, subst}
use Rattle.std.proofs.Common.{ap, ap₂, ◌∙◌}
use Rattle.std.specs.Prelude.{sum, Any}
use Rattle.std.proofs.lemmas.Int.{by_lt_z, ints}
use Rattle.std.proofs.lemmas.List.Sums.{sum_by-cons}
use Rattle.int_ring.proofs.Laws.{linear, mul_nonneg, mul_pos, mul_zero, square_nonneg}
use Rattle.int_ring.proofs.Ring.{ring, ring_with, reads}
use Rattle.int_ring.proofs.Order.{cancel_le, cancel_le_left, mul_le_left, mul_le_right}
use Rattle.int_ring.proofs.Order.{pos_of_mul_pos, zero_factor}
use Rattle.plant_model.specs.Lies.{LiesIn, weighted_x, weighted_y}
use Rattle.plant_model.specs.Numbers.{IsWithin}
use Rattle.plant_model.specs.Rings.{cross, dot}
use Rattle.plant_model.specs.declared.thrust.Point.{Point}
use Rattle.plant_model.specs.declared.thrust.Thrust.{Thrust}
use Rattle.certificate.specs.Sides.{IsInTriangle, IsNextTo, IsOnWay, place_of}
use Rattle.certificate.proofs.Among.{Among, among_at, any_among}
use Rattle.certificate.proofs.Lines.{IsBelow, Crosses, crossing, crosses_or_below}

-- ---- mixes of two points

-- k times the thrust is the sum of two points with weights, which make at most k times q
pub record IsMix (p r : Point) (a : Thrust) (q : ℤ) : Type 0 where
  pub k : ℤ
  pub u : ℤ
  pub v : ℤ
  pub k_above_0 : pos 0 <ℤ k
  pub u_from_0 : pos 0 ≤ℤ u
  pub v_from_0 : pos 0 ≤ℤ v
  pub within : (u +ℤ v) ≤ℤ (k *ℤ q)
  pub x : k *ℤ a.x ≡ u *ℤ p.x +ℤ v *ℤ r.x
  pub y : k *ℤ a.y ≡ u *ℤ p.y +ℤ v *ℤ r.y

pub mix_of_triangle : (p r : Point) (a : Thrust) (q : ℤ) → IsInTriangle p r a q → IsMix p r a q
mix_of_triangle p r a q t = record {
  k = cross p r;
  u = neg_ℤ (cross r (place_of a));
  v = cross p (place_of a);
  k_above_0 = t.turns;
  u_from_0 = opposite (cross r (place_of a)) t.before;
  v_from_0 = t.after;
  within = swapped (cross p (place_of a)) (cross r (place_of a)) (cross p r *ℤ q) t.within;
  x = ring (p.x ∷ p.y ∷ r.x ∷ r.y ∷ a.x ∷ a.y ∷ []) (search reads depth 40) refl;
  y = ring (p.x ∷ p.y ∷ r.x ∷ r.y ∷ a.x ∷ a.y ∷ []) (search reads depth 40) refl;
}
  where
    opposite : (z : ℤ) → z ≤ℤ pos 0 → pos 0 ≤ℤ neg_ℤ z
    opposite z h = omega (arith, linear)

    swapped : (s t m : ℤ) → (s -ℤ t) ≤ℤ m → (neg_ℤ t +ℤ s) ≤ℤ m
    swapped s t m h = omega (arith, linear)

-- a point that some thrust is ahead along isn't the origin
reaches : (h d q : ℤ) → pos 1 ≤ℤ q → pos 0 <ℤ h → h ≤ℤ (d *ℤ q) → pos 0 <ℤ d
reaches h d q one g l =
    let e : d *ℤ q ≡ q *ℤ d = ring (d ∷ q ∷ []) (search reads depth 40) refl in
    pos_of_mul_pos q d (omega (arith, linear)) (omega (arith, linear))

pub mix_of_way : (p : Point) (a : Thrust) (q : ℤ) → pos 1 ≤ℤ q → IsOnWay p a q → IsMix p p a q
mix_of_way p a q one w = record {
  k = dot p p;
  u = dot p (place_of a);
  v = pos 0;
  k_above_0 = reaches (dot p (place_of a)) (dot p p) q one w.ahead w.not_past;
  u_from_0 = weaker (dot p (place_of a)) w.ahead;
  v_from_0 = omega (arith, linear);
  within = alone (dot p (place_of a)) (dot p p *ℤ q) w.not_past;
  x = ring_with (p.x ∷ p.y ∷ a.x ∷ a.y ∷ []) (neg_ℤ p.y) w.along (search reads depth 40) refl;
  y = ring_with (p.x ∷ p.y ∷ a.x ∷ a.y ∷ []) p.x w.along (search reads depth 40) refl;
}
  where
    weaker : (z : ℤ) → pos 0 <ℤ z → pos 0 ≤ℤ z
    weaker z h = omega (arith, linear)

    alone : (z m : ℤ) → z ≤ℤ m → (z +ℤ pos 0) ≤ℤ m
    alone z m h = omega (arith, linear)

-- a mix of coordinates is over q no farther than they are
pub mix_at_most : (k u v q most x p r : ℤ) → pos 0 <ℤ k → pos 0 ≤ℤ u → pos 0 ≤ℤ v → pos 0 ≤ℤ most →
    (u +ℤ v) ≤ℤ (k *ℤ q) → p ≤ℤ most → r ≤ℤ most → k *ℤ x ≡ u *ℤ p +ℤ v *ℤ r → x ≤ℤ (most *ℤ q)
mix_at_most k u v q most x p r κ υ ν μ within g h is =
    let a = mul_le_left p most u g υ in
    let b = mul_le_left r most v h ν in
    let c = mul_le_left (u +ℤ v) (k *ℤ q) most within μ in
    let d : most *ℤ (u +ℤ v) ≡ u *ℤ most +ℤ v *ℤ most =
    ring (most ∷ u ∷ v ∷ []) (search reads depth 40) refl in
    let e : k *ℤ (most *ℤ q) ≡ most *ℤ (k *ℤ q) =
    ring (most ∷ k ∷ q ∷ []) (search reads depth 40) refl in
    cancel_le_left x (most *ℤ q) k κ (omega (arith, linear, a, b, c, d, e))

pub mix_within : (k u v q most x p r : ℤ) → pos 0 <ℤ k → pos 0 ≤ℤ u → pos 0 ≤ℤ v → pos 0 ≤ℤ most →
    (u +ℤ v) ≤ℤ (k *ℤ q) → IsWithin most p → IsWithin most r → k *ℤ x ≡ u *ℤ p +ℤ v *ℤ r →
    IsWithin (most *ℤ q) x
mix_within k u v q most x p r κ υ ν μ within g h is =
    let pl = g.low in
    let rl = h.low in
    let turned : k *ℤ neg_ℤ x ≡ u *ℤ neg_ℤ p +ℤ v *ℤ neg_ℤ r =
    ring_with (k ∷ u ∷ v ∷ x ∷ p ∷ r ∷ []) (negsuc 0) is (search reads depth 40) refl in
    let down =
    mix_at_most k u v q most (neg_ℤ x) (neg_ℤ p) (neg_ℤ r) κ υ ν μ within (omega (arith, linear))
    (omega (arith, linear)) turned in
    record {
      low = omega (arith, linear, down);
      high = mix_at_most k u v q most x p r κ υ ν μ within g.high h.high is;
    }

-- ---- weights

-- some weights of the points make n, and the points with them make x and y
record Weighs (points : List Point) (n : ℕ) (x y : ℤ) : Type 0 where
  weights : List ℕ
  one_each : length weights ≡ length points
  whole : sum weights ≡ n
  x_is : weighted_x weights points ≡ x
  y_is : weighted_y weights points ≡ y

weighs_as : (points : List Point) {m n : ℕ} {a b x y : ℤ} → m ≡ n → a ≡ x → b ≡ y →
    Weighs points m a b → Weighs points n x y
weighs_as points e f g w = record {
  weights = w.weights;
  one_each = w.one_each;
  whole = w.whole ∙ e;
  x_is = w.x_is ∙ f;
  y_is = w.y_is ∙ g;
}

next : (w : ℕ) (p : Point) (points : List Point) {n : ℕ} {x y : ℤ} → Weighs points n x y →
    Weighs (p ∷ points) (w + n) (pos w *ℤ p.x +ℤ x) (pos w *ℤ p.y +ℤ y)
next w p points later =
    let one_each = later.one_each in
    record {
      weights = w ∷ later.weights;
      one_each = omega arith;
      whole = sum_by-cons (λ (x : ℕ). x) w later.weights ∙ ap (λ (n : ℕ). w + n) later.whole;
      x_is = ap (λ (z : ℤ). pos w *ℤ p.x +ℤ z) later.x_is;
      y_is = ap (λ (z : ℤ). pos w *ℤ p.y +ℤ z) later.y_is;
    }

none : (points : List Point) → Weighs points 0 (pos 0) (pos 0)
none [] = record { weights = []; one_each = refl; whole = refl; x_is = refl; y_is = refl }
none (p ∷ points) =
    weighs_as (p ∷ points) refl (no_weight p.x) (no_weight p.y) (next 0 p points (none points))
  where
    no_weight : (z : ℤ) → pos 0 *ℤ z +ℤ pos 0 ≡ pos 0
    no_weight z = ring (z ∷ []) (search reads depth 40) refl

one : (points : List Point) (p : Point) → Among points p → (u : ℕ) →
    Weighs points u (pos u *ℤ p.x) (pos u *ℤ p.y)
one [] p among u = absurd among
one (h ∷ points) p (inl same) u =
    subst (λ (z : Point). Weighs (h ∷ points) u (pos u *ℤ z.x) (pos u *ℤ z.y)) same
    (weighs_as (h ∷ points) (omega arith) (alone (pos u) h.x) (alone (pos u) h.y)
    (next u h points (none points)))
  where
    alone : (u z : ℤ) → u *ℤ z +ℤ pos 0 ≡ u *ℤ z
    alone u z = ring (u ∷ z ∷ []) (search reads depth 40) refl
one (h ∷ points) p (inr later) u =
    weighs_as (h ∷ points) (omega arith) (skipped h.x (pos u *ℤ p.x)) (skipped h.y (pos u *ℤ p.y))
    (next 0 h points (one points p later u))
  where
    skipped : (h z : ℤ) → pos 0 *ℤ h +ℤ z ≡ z
    skipped h z = ring (h ∷ z ∷ []) (search reads depth 40) refl

two : (points : List Point) (p r : Point) → Among points p → Among points r → (u v : ℕ) →
    Weighs points (u + v) (pos u *ℤ p.x +ℤ pos v *ℤ r.x) (pos u *ℤ p.y +ℤ pos v *ℤ r.y)
two [] p r among r_among u v = absurd among
two (h ∷ points) p r (inl same) (inl r_same) u v =
    subst (λ (z : Point). Weighs (h ∷ points) (u + v) (pos u *ℤ z.x +ℤ pos v *ℤ r.x)
    (pos u *ℤ z.y +ℤ pos v *ℤ r.y)) same
    (subst (λ (z : Point). Weighs (h ∷ points) (u + v) (pos u *ℤ h.x +ℤ pos v *ℤ z.x)
    (pos u *ℤ h.y +ℤ pos v *ℤ z.y)) r_same
    (weighs_as (h ∷ points) (omega arith) (both h.x) (both h.y)
    (next (u + v) h points (none points))))
  where
    both : (z : ℤ) → pos (u + v) *ℤ z +ℤ pos 0 ≡ pos u *ℤ z +ℤ pos v *ℤ z
    both z = ring (pos u ∷ pos v ∷ z ∷ []) (search reads depth 40) refl
two (h ∷ points) p r (inl same) (inr r_later) u v =
    subst (λ (z : Point). Weighs (h ∷ points) (u + v) (pos u *ℤ z.x +ℤ pos v *ℤ r.x)
    (pos u *ℤ z.y +ℤ pos v *ℤ r.y)) same
    (next u h points (one points r r_later v))
two (h ∷ points) p r (inr later) (inl r_same) u v =
    subst (λ (z : Point). Weighs (h ∷ points) (u + v) (pos u *ℤ p.x +ℤ pos v *ℤ z.x)
    (pos u *ℤ p.y +ℤ pos v *ℤ z.y)) r_same
    (weighs_as (h ∷ points) (omega arith) (turned (pos v *ℤ h.x) (pos u *ℤ p.x))
    (turned (pos v *ℤ h.y) (pos u *ℤ p.y)) (next v h points (one points p later u)))
  where
    turned : (y z : ℤ) → y +ℤ z ≡ z +ℤ y
    turned y z = ring (y ∷ z ∷ []) (search reads depth 40) refl
two (h ∷ points) p r (inr later) (inr r_later) u v =
    weighs_as (h ∷ points) (omega arith) (skipped h.x (pos u *ℤ p.x +ℤ pos v *ℤ r.x))
    (skipped h.y (pos u *ℤ p.y +ℤ pos v *ℤ r.y))
    (next 0 h points (two points p r later r_later u v))
  where
    skipped : (h z : ℤ) → pos 0 *ℤ h +ℤ z ≡ z
    skipped h z = ring (h ∷ z ∷ []) (search reads depth 40) refl

lies_of_weights : (points : List Point) (a : Thrust) (q k : ℤ) (n : ℕ) {x y : ℤ} → pos 0 <ℤ k →
    pos n ≤ℤ (k *ℤ q) → x ≡ k *ℤ a.x → y ≡ k *ℤ a.y → Weighs points n x y → LiesIn points a q
lies_of_weights points a q k n κ within e f w = record {
  k = k;
  at_least_one = omega (arith, linear);
  weights = w.weights;
  origin_weight = nat_abs (k *ℤ q -ℤ pos n);
  one_each = w.one_each;
  whole = ap (λ (m : ℕ). pos (m + nat_abs (k *ℤ q -ℤ pos n))) w.whole ∙ filled n (k *ℤ q) within;
  x = w.x_is ∙ e;
  y = w.y_is ∙ f;
}
  where
    filled : (n : ℕ) (m : ℤ) → pos n ≤ℤ m → pos (n + nat_abs (m -ℤ pos n)) ≡ m
    filled n m h = omega (arith, ints)

pub lies_of_mix : (points : List Point) (p r : Point) (a : Thrust) (q : ℤ) → Among points p →
    Among points r → IsMix p r a q → LiesIn points a q
lies_of_mix points p r a q among r_among m =
    lies_of_weights points a q m.k (nat_abs m.u + nat_abs m.v) m.k_above_0
    (least m.u m.v (m.k *ℤ q) m.u_from_0 m.v_from_0 m.within)
    (along m.u m.v p.x r.x m.u_from_0 m.v_from_0 ∙ sym m.x)
    (along m.u m.v p.y r.y m.u_from_0 m.v_from_0 ∙ sym m.y)
    (two points p r among r_among (nat_abs m.u) (nat_abs m.v))
  where
    size : (z : ℤ) → pos 0 ≤ℤ z → pos (nat_abs z) ≡ z
    size z h = omega (arith, ints)

    least : (u v m : ℤ) → pos 0 ≤ℤ u → pos 0 ≤ℤ v → (u +ℤ v) ≤ℤ m → pos (nat_abs u + nat_abs v) ≤ℤ m
    least u v m g h l = omega (arith, ints)

    along : (u v p r : ℤ) → pos 0 ≤ℤ u → pos 0 ≤ℤ v → pos (nat_abs u) *ℤ p +ℤ pos (nat_abs v) *ℤ r
        ≡ u *ℤ p +ℤ v *ℤ r
    along u v p r g h = ap₂ (λ (x y : ℤ). x *ℤ p +ℤ y *ℤ r) (size u g) (size v h)

pub lies_of_zero : (points : List Point) (a : Thrust) (q : ℤ) → pos 1 ≤ℤ q → a.x ≡ pos 0 →
    a.y ≡ pos 0 → LiesIn points a q
lies_of_zero points a q from_1 e f =
    lies_of_weights points a q (pos 1) 0 (omega (arith, linear)) (omega (arith, ints))
    (omega (arith, ints)) (omega (arith, ints)) (none points)

-- ---- what a thrust that lies in the hull is near

-- where a linear form is at most c on each point, the points' weighted sum has at most c times the
-- weights
pub weighted_at_most : (a b c : ℤ) (weights : List ℕ) (points : List Point) →
    length weights ≡ length points →
    ((p : Point) → Among points p → (a *ℤ p.x +ℤ b *ℤ p.y) ≤ℤ c) →
    (a *ℤ weighted_x weights points +ℤ b *ℤ weighted_y weights points) ≤ℤ (c *ℤ pos (sum weights))
weighted_at_most a b c [] [] each most = omega (arith, linear, mul_zero a, mul_zero b, mul_zero c)
weighted_at_most a b c [] (p ∷ points) each most = absurd (omega arith)
weighted_at_most a b c (w ∷ weights) [] each most = absurd (omega arith)
weighted_at_most a b c (w ∷ weights) (p ∷ points) each most =
    more a b c (pos w) p.x p.y (weighted_x weights points) (weighted_y weights points)
    (pos (sum weights)) (from w) (most p (inl refl))
    (weighted_at_most a b c weights points (omega arith) (λ r among. most r (inr among)))
    (ap (λ (n : ℕ). c *ℤ pos n) (sum_by-cons (λ (x : ℕ). x) w weights)
    ∙ ring (c ∷ pos w ∷ pos (sum weights) ∷ []) (search reads depth 40) refl)
  where
    from : (w : ℕ) → pos 0 ≤ℤ pos w
    from w = omega (arith, ints)

    more : (a b c w x y wx wy n : ℤ) {z : ℤ} → pos 0 ≤ℤ w → (a *ℤ x +ℤ b *ℤ y) ≤ℤ c →
        (a *ℤ wx +ℤ b *ℤ wy) ≤ℤ (c *ℤ n) → z ≡ c *ℤ w +ℤ c *ℤ n →
        (a *ℤ (w *ℤ x +ℤ wx) +ℤ b *ℤ (w *ℤ y +ℤ wy)) ≤ℤ z
    more a b c w x y wx wy n {z} ω g h is =
        let m = mul_le_right (a *ℤ x +ℤ b *ℤ y) c w g ω in
        let e : a *ℤ (w *ℤ x +ℤ wx) +ℤ b *ℤ (w *ℤ y +ℤ wy) ≡ (a *ℤ x +ℤ b *ℤ y) *ℤ w
        +ℤ (a *ℤ wx +ℤ b *ℤ wy) =
        ring (a ∷ b ∷ w ∷ x ∷ y ∷ wx ∷ wy ∷ []) (search reads depth 40) refl in
        omega (arith, linear, m, e)

-- no line with all points below it has a thrust of their hull on or above it
not_below : (points : List Point) (a : Thrust) (q : ℤ) → pos 1 ≤ℤ q →
    pos 0 <ℤ dot (place_of a) (place_of a) → LiesIn points a q →
    IsBelow (λ p. cross p (place_of a)) (λ p. q *ℤ dot p (place_of a) -ℤ dot (place_of a)
    (place_of a)) points → ⊥
not_below points a q from_1 apart lies line =
    contradicts line.bottom q lies.k (dot (place_of a) (place_of a)) (pos (sum lies.weights))
    (pos lies.origin_weight) line.rises from_1 lies.at_least_one apart (natural lies.origin_weight)
    lies.whole
    (subst (λ (z : ℤ). z ≤ℤ ((line.bottom *ℤ dot (place_of a) (place_of a) -ℤ pos 1) *ℤ pos
    (sum lies.weights))) met
    (weighted_at_most (line.bottom *ℤ (q *ℤ a.x) -ℤ line.top *ℤ a.y)
    (line.bottom *ℤ (q *ℤ a.y) +ℤ line.top *ℤ a.x)
    (line.bottom *ℤ dot (place_of a) (place_of a) -ℤ pos 1) lies.weights points lies.one_each
    (λ p among. under line.bottom line.top p.x p.y (line.below p among))))
  where
    natural : (n : ℕ) → pos 0 ≤ℤ pos n
    natural n = omega (arith, ints)

    under : (m t x y : ℤ) → (m *ℤ (q *ℤ (x *ℤ a.x +ℤ y *ℤ a.y) -ℤ dot (place_of a) (place_of a)))
        <ℤ (t *ℤ (x *ℤ a.y -ℤ y *ℤ a.x)) →
        ((m *ℤ (q *ℤ a.x) -ℤ t *ℤ a.y) *ℤ x +ℤ (m *ℤ (q *ℤ a.y) +ℤ t *ℤ a.x) *ℤ y)
        ≤ℤ (m *ℤ dot (place_of a) (place_of a) -ℤ pos 1)
    under m t x y h =
        let e : (m *ℤ (q *ℤ a.x) -ℤ t *ℤ a.y) *ℤ x +ℤ (m *ℤ (q *ℤ a.y) +ℤ t *ℤ a.x) *ℤ y
        ≡ m *ℤ (q *ℤ (x *ℤ a.x +ℤ y *ℤ a.y) -ℤ dot (place_of a) (place_of a)) -ℤ t
        *ℤ (x *ℤ a.y -ℤ y *ℤ a.x) +ℤ m *ℤ dot (place_of a) (place_of a)
        = ring (m ∷ t ∷ q ∷ x ∷ y ∷ a.x ∷ a.y ∷ []) (search reads depth 40) refl in
        omega (arith, linear, e)

    met : (line.bottom *ℤ (q *ℤ a.x) -ℤ line.top *ℤ a.y) *ℤ weighted_x lies.weights points
        +ℤ (line.bottom *ℤ (q *ℤ a.y) +ℤ line.top *ℤ a.x) *ℤ weighted_y lies.weights points
        ≡ line.bottom *ℤ dot (place_of a) (place_of a) *ℤ (lies.k *ℤ q)
    met =
        ap₂ (λ (x y : ℤ). (line.bottom *ℤ (q *ℤ a.x) -ℤ line.top *ℤ a.y) *ℤ x
        +ℤ (line.bottom *ℤ (q *ℤ a.y) +ℤ line.top *ℤ a.x) *ℤ y) lies.x lies.y
        ∙ ring (line.bottom ∷ line.top ∷ q ∷ lies.k ∷ a.x ∷ a.y ∷ []) (search reads depth 40) refl

    contradicts : (m q k n w o : ℤ) → pos 0 <ℤ m → pos 1 ≤ℤ q → pos 1 ≤ℤ k → pos 0 <ℤ n →
        pos 0 ≤ℤ o → w +ℤ o ≡ k *ℤ q → (m *ℤ n *ℤ (k *ℤ q)) ≤ℤ ((m *ℤ n -ℤ pos 1) *ℤ w) → ⊥
    contradicts m q k n w o μ θ κ ν ο whole h =
        let mn = mul_pos m n μ ν in
        let kq = mul_pos k q (omega (arith, linear)) (omega (arith, linear)) in
        let l =
        mul_le_left w (k *ℤ q) (m *ℤ n -ℤ pos 1) (omega (arith, linear)) (omega (arith, linear)) in
        let e : (m *ℤ n -ℤ pos 1) *ℤ (k *ℤ q) ≡ m *ℤ n *ℤ (k *ℤ q) -ℤ k *ℤ q =
        ring (m ∷ n ∷ k ∷ q ∷ []) (search reads depth 40) refl in
        omega (arith, linear, l, e)

-- a thrust on a point's ray that isn't past it by the height is on the way
on_way : (a : Thrust) (q : ℤ) → pos 1 ≤ℤ q → pos 0 <ℤ dot (place_of a) (place_of a) → (p : Point) →
    cross p (place_of a) ≡ pos 0 →
    pos 0 ≤ℤ (q *ℤ dot p (place_of a) -ℤ dot (place_of a) (place_of a)) → IsOnWay p a q
on_way a q from_1 apart p along high = record {
  along = along;
  ahead = ahead;
  not_past =
      past (dot p (place_of a)) (dot p p) (dot (place_of a) (place_of a)) q (cross p (place_of a))
      apart ahead (square_nonneg_dot p) high along
      (ring (p.x ∷ p.y ∷ a.x ∷ a.y ∷ []) (search reads depth 40) refl);
}
  where
    first : (h n q : ℤ) → pos 1 ≤ℤ q → pos 0 <ℤ n → pos 0 ≤ℤ (q *ℤ h -ℤ n) → pos 0 <ℤ h
    first h n q g ν l = pos_of_mul_pos q h (omega (arith, linear)) (omega (arith, linear))

    ahead : pos 0 <ℤ dot p (place_of a)
    ahead = first (dot p (place_of a)) (dot (place_of a) (place_of a)) q from_1 apart high

    square_nonneg_dot : (p : Point) → pos 0 ≤ℤ dot p p
    square_nonneg_dot p = omega (arith, linear, square_nonneg p.x, square_nonneg p.y)

    past : (h d n q s : ℤ) → pos 0 <ℤ n → pos 0 <ℤ h → pos 0 ≤ℤ d → pos 0 ≤ℤ (q *ℤ h -ℤ n) →
        s ≡ pos 0 → n *ℤ d ≡ h *ℤ h +ℤ s *ℤ s → h ≤ℤ (d *ℤ q)
    past h d n q s ν η δ g zero is =
        let m = mul_nonneg (q *ℤ h -ℤ n) d g δ in
        let e : (q *ℤ h -ℤ n) *ℤ d ≡ d *ℤ q *ℤ h -ℤ n *ℤ d =
        ring (q ∷ h ∷ n ∷ d ∷ []) (search reads depth 40) refl in
        let f : s *ℤ s ≡ pos 0 = ap (λ (z : ℤ). s *ℤ z) zero ∙ mul_zero s in
        cancel_le h (d *ℤ q) h η (omega (arith, linear, m, e, f))

-- a thrust between the rays of two points that their way crosses no lower is in their triangle
in_triangle : (a : Thrust) (q : ℤ) → pos 1 ≤ℤ q → pos 0 <ℤ dot (place_of a) (place_of a) →
    (p r : Point) → pos 0 <ℤ cross p (place_of a) → cross r (place_of a) <ℤ pos 0 →
    pos 0
    ≤ℤ crossing (λ p. cross p (place_of a)) (λ p. q *ℤ dot p (place_of a) -ℤ dot (place_of a)
    (place_of a)) p r → IsInTriangle p r a q
in_triangle a q from_1 apart p r right left high = record {
  turns =
      reaches (cross p (place_of a) -ℤ cross r (place_of a)) (cross p r) q from_1
      (wide (cross p (place_of a)) (cross r (place_of a)) right left) low;
  after = omega (arith, linear, right);
  before = weaker (cross r (place_of a)) left;
  within = low;
}
  where
    wide : (s t : ℤ) → pos 0 <ℤ s → t <ℤ pos 0 → pos 0 <ℤ (s -ℤ t)
    wide s t g h = omega (arith, linear)

    weaker : (t : ℤ) → t <ℤ pos 0 → t ≤ℤ pos 0
    weaker t h = omega (arith, linear)

    lower : (n d s t h g q : ℤ) → pos 0 <ℤ n → n *ℤ d ≡ s *ℤ g -ℤ t *ℤ h →
        pos 0 ≤ℤ (s *ℤ (q *ℤ g -ℤ n) -ℤ t *ℤ (q *ℤ h -ℤ n)) → (s -ℤ t) ≤ℤ (d *ℤ q)
    lower n d s t h g q ν is l =
        let e : n *ℤ (d *ℤ q) -ℤ n *ℤ (s -ℤ t) ≡ s *ℤ (q *ℤ g -ℤ n) -ℤ t *ℤ (q *ℤ h -ℤ n) =
        ring_with (n ∷ d ∷ s ∷ t ∷ h ∷ g ∷ q ∷ []) q is (search reads depth 40) refl in
        cancel_le_left (s -ℤ t) (d *ℤ q) n ν (omega (arith, linear, e))

    low : (cross p (place_of a) -ℤ cross r (place_of a)) ≤ℤ (cross p r *ℤ q)
    low =
        lower (dot (place_of a) (place_of a)) (cross p r) (cross p (place_of a))
        (cross r (place_of a)) (dot p (place_of a)) (dot r (place_of a)) q apart
        (ring (p.x ∷ p.y ∷ r.x ∷ r.y ∷ a.x ∷ a.y ∷ []) (search reads depth 40) refl) high

-- the thrust over q is on the way to p or in the triangle of p and r
abbrev pub IsBeside : Thrust → ℤ → Point → Point → Type 0
IsBeside a q p r = IsOnWay p a q ⊎ IsInTriangle p r a q

-- a thrust of the hull is zero, on the way to a point or in a triangle of two points
pub splits : (points : List Point) (a : Thrust) (q : ℤ) → pos 1 ≤ℤ q → LiesIn points a q →
    ((a.x ≡ pos 0) × (a.y ≡ pos 0)) ⊎ Crosses (IsBeside a q) points
splits points a q from_1 lies =
    by_lt_z (pos 0) (dot (place_of a) (place_of a))
    (λ apart. inr (found apart (crosses_or_below (IsBeside a q) (λ p. cross p (place_of a))
    (λ p. q *ℤ dot p (place_of a) -ℤ dot (place_of a) (place_of a))
    (λ p along high. inl (on_way a q from_1 apart p along high))
    (λ p r right left high. inr (in_triangle a q from_1 apart p r right left high)) points)))
    (λ none. inl (zero a.x a.y none, zero a.y a.x (turned a.x a.y none)))
  where
    found : pos 0 <ℤ dot (place_of a) (place_of a) →
        Crosses (IsBeside a q) points
        ⊎ IsBelow (λ p. cross p (place_of a)) (λ p. q *ℤ dot p (place_of a) -ℤ dot (place_of a)
        (place_of a)) points → Crosses (IsBeside a q) points
    found apart (inl crosses) = crosses
    found apart (inr line) = absurd (not_below points a q from_1 apart lies line)

    either_same : {x y : ℤ} → (x ≡ y) ⊎ (x ≡ y) → x ≡ y
    either_same (inl e) = e
    either_same (inr e) = e

    zero : (x y : ℤ) → (x *ℤ x +ℤ y *ℤ y) ≤ℤ pos 0 → x ≡ pos 0
    zero x y h =
        let g = square_nonneg x in
        let l = square_nonneg y in
        either_same (zero_factor x x (omega (arith, linear, g, l)))

    turned : (x y : ℤ) → (x *ℤ x +ℤ y *ℤ y) ≤ℤ pos 0 → (y *ℤ y +ℤ x *ℤ x) ≤ℤ pos 0
    turned x y h = omega (arith, linear)

pub next_to_some : (points : List Point) (a : Thrust) (q : ℤ) → Crosses (IsBeside a q) points →
    Any (IsNextTo points a q) points
next_to_some points a q crosses =
    any_among (IsNextTo points a q) points crosses.p crosses.p_among (beside crosses.holds)
  where
    beside : IsBeside a q crosses.p crosses.r → IsNextTo points a q crosses.p
    beside (inl way) = inl way
    beside (inr within) =
        inr (any_among (λ r. IsInTriangle crosses.p r a q) points crosses.r crosses.r_among within)

pub lies_next_to : (points : List Point) (a : Thrust) (q : ℤ) → pos 1 ≤ℤ q →
    Any (IsNextTo points a q) points → LiesIn points a q
lies_next_to points a q from_1 some = here (among_at points some.0 some.1 some.2 some.3) some.4
  where
    here : Among points some.1 → IsNextTo points a q some.1 → LiesIn points a q
    here among (inl way) =
        lies_of_mix points some.1 some.1 a q among among (mix_of_way some.1 a q from_1 way)
    here among (inr found) =
        lies_of_mix points some.1 found.1 a q among (among_at points found.0 found.1 found.2
        found.3) (mix_of_triangle some.1 found.1 a q found.4)
