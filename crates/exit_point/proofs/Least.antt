-- Why weights at the quotient of a cut show that the cut is least, and why shares by Cramer's rule
-- are such weights.
use Rattle.std.proofs.Common.{◌≡◌, suc, ℤ, pos, ◌+ℤ◌, ◌*ℤ◌, ◌≤ℤ◌, ◌<ℤ◌, List, [], ◌∷◌, All, fold}
use Rattle.std.proofs.Common.{ap, sym, ◌∙◌, refl, arith, subst}
use Rattle.std.proofs.lemmas.Int.{ints}
use Rattle.int_ring.proofs.Laws.{linear, mul_nonneg, mul_pos}
use Rattle.int_ring.proofs.Order.{cancel_le_left, cancel_left, mul_le_left, mul_le_right}
use Rattle.int_ring.proofs.Order.{nonneg_of_mul_nonneg, pos_of_mul_pos}
use Rattle.int_ring.proofs.Ring.{ring, reads}
use Rattle.arrayvec.specs.ArrayVec.{ArrayVec}
use Rattle.wrench_geometry.specs.declared.cut.Cut.{Cut}
use Rattle.wrench_geometry.specs.declared.vector.Vec3.{Vec3}
use Rattle.plant_model.specs.Numbers.{IsWithin}
use Rattle.wrench_geometry.specs.declared.vertices.TheConstants.{MOST_DETERMINANT}
use Rattle.wrench_geometry.specs.Cuts.{IsCut}
use Rattle.wrench_geometry.specs.Vectors.{cross_of, det_of, dot_of, greatest_of, scaled_by, sum_of}
use Rattle.wrench_geometry.specs.Vectors.{support_of, zero_vector}
use Rattle.wrench_geometry.proofs.Bounds.{same_vector}
use Rattle.wrench_geometry.proofs.Supports.{greatest_at_least, greatest_from_0, support_cons}
use Rattle.wrench_geometry.proofs.VertexSums.{dot-sum}
use Rattle.exit_point.specs.declared.weights.ExitWeights.{ExitWeights}
use Rattle.exit_point.specs.declared.weights.Shares.{Shares}
use Rattle.exit_point.specs.declared.weights.TheConstants.{MOST_WEIGHT}
use Rattle.exit_point.specs.Exits.{AreWeights, EachHasWeights, IsExit, weighted, weighted_sum}
use Rattle.exit_point.specs.Corners.{AreShares, AreSharesOf, IsBetween, IsBetweenTwo, shared}
use Rattle.exit_point.specs.Corners.{total_of}
use Rattle.exit_point.proofs.Rows.{start_at_most, tail_from_0}

pub dot-scaled : (w : Vec3) (k : ℤ) (v : Vec3) → dot_of w (scaled_by k v) ≡ k *ℤ dot_of w v
dot-scaled w k v = ring (w.x ∷ w.y ∷ w.z ∷ k ∷ v.x ∷ v.y ∷ v.z ∷ []) (search reads depth 40) refl

dot-zero : (w : Vec3) → dot_of w zero_vector ≡ pos 0
dot-zero w = ring (w.x ∷ w.y ∷ w.z ∷ []) (search reads depth 40) refl

-- ---- a mean of points is no farther along u than the farthest point

one_more : (a k b p r s v : ℤ) → pos 0 ≤ℤ k → p ≤ℤ b → v ≡ k *ℤ p +ℤ r → ((a +ℤ k) *ℤ b +ℤ r) ≤ℤ s →
    (a *ℤ b +ℤ v) ≤ℤ s
one_more a k b p r s v h l e m =
    let part = mul_le_left p b k l h in
    let both : (a +ℤ k) *ℤ b ≡ a *ℤ b +ℤ k *ℤ b = ring (a ∷ k ∷ b ∷ []) (search reads depth 40) refl
    in
    omega (arith, linear, part, both)

list_at_most : (u : Vec3) (b a : ℤ) (images : List Vec3) (weights : List ℤ) → pos 0 ≤ℤ b →
    All (λ v. dot_of u v ≤ℤ b) images → All (λ k. pos 0 ≤ℤ k) weights →
    (a *ℤ b +ℤ dot_of u (weighted weights images)) ≤ℤ (fold ◌+ℤ◌ a weights *ℤ b)
list_at_most u b a images [] h p k = omega (arith, linear, dot-zero u)
list_at_most u b a [] (w ∷ weights) h p k =
    omega (
      arith,
      linear,
      dot-zero u,
      mul_le_right a (fold ◌+ℤ◌ a (w ∷ weights)) b
          (start_at_most a (w ∷ weights) k) h,
    )
list_at_most u b a (v ∷ images) (w ∷ weights) h p k =
    one_more a w b (dot_of u v) (dot_of u (weighted weights images)) _ _ (k 0 (pos 0) (omega arith))
    (p 0 v (omega arith))
    (dot-sum u (scaled_by w v) (weighted weights images)
    ∙ ap (λ (z : ℤ). z +ℤ dot_of u (weighted weights images)) (dot-scaled u w v))
    (list_at_most u b (a +ℤ w) images weights h (λ i d q. p (suc i) d (omega arith))
    (tail_from_0 w weights k))

mean_at_most : (u : Vec3) (q : ℤ) (images : List Vec3) (weights : List ℤ) →
    AreWeights q images weights → dot_of u (weighted weights images) ≤ℤ (q *ℤ greatest_of u images)
mean_at_most u q images weights h =
    let g = greatest_of u images in
    let most = list_at_most u g (pos 0) images weights (greatest_from_0 u images)
    (greatest_at_least u images) h.from_0 in
    let nothing : pos 0 *ℤ g ≡ pos 0 = ring (g ∷ []) (search reads depth 40) refl in
    let all = ap (λ (z : ℤ). z *ℤ g) h.sum in
    omega (arith, linear, most, nothing, all)

means_at_most : (u : Vec3) (q : ℤ) (lists : List (List Vec3)) (rows : List (ArrayVec ℤ)) →
    EachHasWeights q lists rows → dot_of u (weighted_sum rows lists) ≤ℤ (q *ℤ support_of lists u)
means_at_most u q [] [] h = let nothing : q *ℤ pos 0 ≡ pos 0 =
    ring (q ∷ []) (search reads depth 40) refl in omega (arith, linear, dot-zero u, nothing)
means_at_most u q [] (r ∷ rows) h = absurd h
means_at_most u q (l ∷ lists) [] h = absurd h
means_at_most u q (l ∷ lists) (r ∷ rows) h =
    let here = mean_at_most u q l r.items h.0 in
    let later = means_at_most u q lists rows h.1 in
    let parts = dot-sum u (weighted r.items l) (weighted_sum rows lists) in
    let both : q *ℤ (greatest_of u l +ℤ support_of lists u) ≡ q *ℤ greatest_of u l +ℤ q *ℤ
    support_of lists u = ring (q ∷ greatest_of u l ∷ support_of lists u ∷ [])
    (search reads depth 40) refl in
    let all = ap (λ (z : ℤ). q *ℤ z) (support_cons u l lists) in
    omega (arith, linear, here, later, parts, both, all)

-- ---- weights at a cut's quotient

-- from t·b = q·a and t·p at most q·h: a·p at most h·b
quotient_least : (q t a b p h : ℤ) → pos 1 ≤ℤ q → pos 1 ≤ℤ b → t *ℤ b ≡ q *ℤ a →
    (t *ℤ p) ≤ℤ (q *ℤ h) → (a *ℤ p) ≤ℤ (h *ℤ b)
quotient_least q t a b p h g k e m =
    let above : pos 0 ≤ℤ b = omega (arith, ints) in
    let times = mul_le_right (t *ℤ p) (q *ℤ h) b m above in
    let left : q *ℤ (a *ℤ p) ≡ t *ℤ p *ℤ b = ring (q ∷ a ∷ p ∷ []) (search reads depth 40) refl
    ∙ ap (λ (z : ℤ). z *ℤ p) (sym e) ∙ ring (t ∷ p ∷ b ∷ []) (search reads depth 40) refl in
    let right : q *ℤ (h *ℤ b) ≡ q *ℤ h *ℤ b = ring (q ∷ h ∷ b ∷ []) (search reads depth 40) refl in
    cancel_le_left (a *ℤ p) (h *ℤ b) q (omega (arith, ints))
    (omega (arith, linear, times, left, right))

pub exit_is : (lists : List (List Vec3)) (d : Vec3) (e : ExitWeights) → IsCut lists d e.cut →
    pos 1 ≤ℤ e.q → e.q ≤ℤ MOST_WEIGHT → EachHasWeights e.q lists e.weights.items →
    weighted_sum e.weights.items lists ≡ scaled_by e.t d → e.t *ℤ e.cut.bottom ≡ e.q *ℤ e.cut.top →
    IsExit lists d e
exit_is lists d e cut low high weights meets same = record {
  cut = record {
    bottom = cut.bottom;
    top = cut.top;
    bottom_from_1 = cut.bottom_from_1;
    bottom_below = cut.bottom_below;
    top_below = cut.top_below;
    least = λ u p. quotient_least e.q e.t e.cut.top e.cut.bottom (dot_of u d)
        (support_of lists u) low cut.bottom_from_1 same (most u);
  };
  q_from_1 = low;
  q_within = high;
  weights = weights;
  meets = meets;
  same_quotient = same;
}
  where
    most : (u : Vec3) → (e.t *ℤ dot_of u d) ≤ℤ (e.q *ℤ support_of lists u)
    most u =
        let at = means_at_most u e.q lists e.weights.items weights in
        let is = ap (dot_of u) meets ∙ dot-scaled u e.t d in
        omega (arith, linear, at, is)

-- ---- Cramer's rule

cramer_x : (d a b c : Vec3) →
    det_of d b c *ℤ a.x +ℤ det_of d c a *ℤ b.x +ℤ det_of d a b *ℤ c.x ≡ det_of a b c *ℤ d.x
cramer_x d a b c = ring (d.x ∷ d.y ∷ d.z ∷ a.x ∷ a.y ∷ a.z ∷ b.x ∷ b.y ∷ b.z ∷ c.x ∷ c.y ∷ c.z ∷ [])
    (search reads depth 40) refl

cramer_y : (d a b c : Vec3) →
    det_of d b c *ℤ a.y +ℤ det_of d c a *ℤ b.y +ℤ det_of d a b *ℤ c.y ≡ det_of a b c *ℤ d.y
cramer_y d a b c = ring (d.x ∷ d.y ∷ d.z ∷ a.x ∷ a.y ∷ a.z ∷ b.x ∷ b.y ∷ b.z ∷ c.x ∷ c.y ∷ c.z ∷ [])
    (search reads depth 40) refl

cramer_z : (d a b c : Vec3) →
    det_of d b c *ℤ a.z +ℤ det_of d c a *ℤ b.z +ℤ det_of d a b *ℤ c.z ≡ det_of a b c *ℤ d.z
cramer_z d a b c = ring (d.x ∷ d.y ∷ d.z ∷ a.x ∷ a.y ∷ a.z ∷ b.x ∷ b.y ∷ b.z ∷ c.x ∷ c.y ∷ c.z ∷ [])
    (search reads depth 40) refl

pub cramer : (d a b c : Vec3) (s : Shares) → s.first ≡ det_of d b c → s.second ≡ det_of d c a →
    s.third ≡ det_of d a b → shared s a b c ≡ scaled_by (det_of a b c) d
cramer d a b c s e f g = together e f g ∙ same_vector (cramer_x d a b c) (cramer_y d a b c)
    (cramer_z d a b c)
  where
    together : {p q r : ℤ} → s.first ≡ p → s.second ≡ q → s.third ≡ r →
        shared s a b c ≡ sum_of (sum_of (scaled_by p a) (scaled_by q b)) (scaled_by r c)
    together e f g = λ i. sum_of (sum_of (scaled_by (e i) a) (scaled_by (f i) b))
        (scaled_by (g i) c)

-- the product of a direction with shared corners that have one product with it
shared_product : (w : Vec3) (s : Shares) (a b c : Vec3) (top : ℤ) → dot_of w a ≡ top →
    dot_of w b ≡ top → dot_of w c ≡ top → dot_of w (shared s a b c) ≡ total_of s *ℤ top
shared_product w s a b c top e f g =
    let p = s.first in
    let q = s.second in
    let r = s.third in
    let parts = dot-sum w (sum_of (scaled_by p a) (scaled_by q b)) (scaled_by r c) in
    let front = dot-sum w (scaled_by p a) (scaled_by q b) in
    let first = dot-scaled w p a ∙ ap (λ (z : ℤ). p *ℤ z) e in
    let second = dot-scaled w q b ∙ ap (λ (z : ℤ). q *ℤ z) f in
    let third = dot-scaled w r c ∙ ap (λ (z : ℤ). r *ℤ z) g in
    let all : (p +ℤ q +ℤ r) *ℤ top ≡ p *ℤ top +ℤ q *ℤ top +ℤ r *ℤ top = ring (p ∷ q ∷ r ∷ top ∷ [])
    (search reads depth 40) refl in
    omega (arith, linear, parts, front, first, second, third, all)

-- ---- two corners

module _ (cut : Cut) (axis d a b : Vec3) (s : Shares)
    (is : IsBetweenTwo d cut.w a b cut.top) where
  first_times : s.first ≡ det_of axis d b → is.times *ℤ s.first ≡ is.first *ℤ det_of axis a b
  first_times first = ap (λ (z : ℤ). is.times *ℤ z) first ∙ sym (det_second is.times axis d b)
      ∙ ap (λ (p : Vec3). det_of axis p b) is.meets ∙ det_sum_second is.first is.second axis a b
    where
      det_second : (n : ℤ) (axis d b : Vec3) →
          det_of axis (scaled_by n d) b ≡ n *ℤ det_of axis d b
      det_second n axis d b =
          ring (n ∷ axis.x ∷ axis.y ∷ axis.z ∷ d.x ∷ d.y ∷ d.z ∷ b.x ∷ b.y ∷ b.z ∷ [])
          (search reads depth 40) refl

      det_sum_second : (k m : ℤ) (axis a b : Vec3) →
          det_of axis (sum_of (scaled_by k a) (scaled_by m b)) b ≡ k *ℤ det_of axis a b
      det_sum_second k m axis a b =
          ring (k ∷ m ∷ axis.x ∷ axis.y ∷ axis.z ∷ a.x ∷ a.y ∷ a.z ∷ b.x ∷ b.y ∷ b.z ∷ [])
          (search reads depth 40) refl

  second_times : s.second ≡ det_of axis a d → is.times *ℤ s.second ≡ is.second *ℤ det_of axis a b
  second_times second = ap (λ (z : ℤ). is.times *ℤ z) second ∙ sym (det_third is.times axis a d)
      ∙ ap (λ (p : Vec3). det_of axis a p) is.meets ∙ det_sum_third is.first is.second axis a b
    where
      det_third : (n : ℤ) (axis a d : Vec3) →
          det_of axis a (scaled_by n d) ≡ n *ℤ det_of axis a d
      det_third n axis a d =
          ring (n ∷ axis.x ∷ axis.y ∷ axis.z ∷ d.x ∷ d.y ∷ d.z ∷ a.x ∷ a.y ∷ a.z ∷ [])
          (search reads depth 40) refl

      det_sum_third : (k m : ℤ) (axis a b : Vec3) →
          det_of axis a (sum_of (scaled_by k a) (scaled_by m b)) ≡ m *ℤ det_of axis a b
      det_sum_third k m axis a b =
          ring (k ∷ m ∷ axis.x ∷ axis.y ∷ axis.z ∷ a.x ∷ a.y ∷ a.z ∷ b.x ∷ b.y ∷ b.z ∷ [])
          (search reads depth 40) refl

  positive : {z : ℤ} → pos 1 ≤ℤ z → pos 0 <ℤ z
  positive h = omega (arith, linear)

  from_0 : {z : ℤ} → pos 1 ≤ℤ z → pos 0 ≤ℤ z
  from_0 h = omega (arith, linear)

  from_1 : {z : ℤ} → pos 0 <ℤ z → pos 1 ≤ℤ z
  from_1 h = omega (arith, linear)

  first_from_0 : pos 1 ≤ℤ det_of axis a b → s.first ≡ det_of axis d b → pos 0 ≤ℤ s.first
  first_from_0 ahead first =
      nonneg_of_mul_nonneg is.times s.first (positive is.times_from_1)
      (subst (λ (z : ℤ). pos 0 ≤ℤ z) (sym (first_times first))
      (mul_nonneg is.first (det_of axis a b) is.first_from_0 (from_0 ahead)))

  second_from_1 : pos 1 ≤ℤ det_of axis a b → s.second ≡ det_of axis a d → pos 1 ≤ℤ s.second
  second_from_1 ahead second =
      from_1 (pos_of_mul_pos is.times s.second (from_0 is.times_from_1)
      (subst (λ (z : ℤ). pos 0 <ℤ z) (sym (second_times second))
      (mul_pos is.second (det_of axis a b) (positive is.second_from_1) (positive ahead))))

  pub two_shares : pos 1 ≤ℤ det_of axis a b → IsWithin MOST_DETERMINANT s.first →
      IsWithin MOST_DETERMINANT s.second → s.first ≡ det_of axis d b →
      s.second ≡ det_of axis a d → s.third ≡ pos 0 → AreShares s
  two_shares ahead f g first second third = record {
    first = record { low = first_from_0 ahead first; high = f.high };
    second = record { low = from_0 (second_from_1 ahead second); high = g.high };
    third = record { low = omega (arith, ints, third); high = omega (arith, ints, third) };
  }

  two_some : pos 1 ≤ℤ det_of axis a b → s.first ≡ det_of axis d b → s.second ≡ det_of axis a d →
      s.third ≡ pos 0 → pos 1 ≤ℤ total_of s
  two_some ahead first second third =
      omega (arith, linear, first_from_0 ahead first, second_from_1 ahead second, third)

  two_meet : s.first ≡ det_of axis d b → s.second ≡ det_of axis a d → s.third ≡ pos 0 →
      shared s a b b ≡ scaled_by (det_of axis a b) d
  two_meet first second third = same_vector
      (part a.x b.x d.x (ap (λ (p : Vec3). p.x) is.meets))
      (part a.y b.y d.y (ap (λ (p : Vec3). p.y) is.meets))
      (part a.z b.z d.z (ap (λ (p : Vec3). p.z) is.meets))
    where
      spread : (n p q r a b : ℤ) → n *ℤ (p *ℤ a +ℤ q *ℤ b +ℤ r *ℤ b) ≡
          n *ℤ p *ℤ a +ℤ n *ℤ q *ℤ b +ℤ n *ℤ r *ℤ b
      spread n p q r a b = ring (n ∷ p ∷ q ∷ r ∷ a ∷ b ∷ []) (search reads depth 40) refl

      back : (n k m t a b : ℤ) → k *ℤ t *ℤ a +ℤ m *ℤ t *ℤ b +ℤ n *ℤ pos 0 *ℤ b ≡
          t *ℤ (k *ℤ a +ℤ m *ℤ b)
      back n k m t a b = ring (n ∷ k ∷ m ∷ t ∷ a ∷ b ∷ []) (search reads depth 40) refl

      turned : (n t d : ℤ) → t *ℤ (n *ℤ d) ≡ n *ℤ (t *ℤ d)
      turned n t d = ring (n ∷ t ∷ d ∷ []) (search reads depth 40) refl

      part : (p q r : ℤ) → is.times *ℤ r ≡ is.first *ℤ p +ℤ is.second *ℤ q →
          s.first *ℤ p +ℤ s.second *ℤ q +ℤ s.third *ℤ q ≡ det_of axis a b *ℤ r
      part p q r meets =
          let f = first_times first in
          let g = second_times second in
          cancel_left (s.first *ℤ p +ℤ s.second *ℤ q +ℤ s.third *ℤ q) (det_of axis a b *ℤ r)
          is.times (positive is.times_from_1)
          (spread is.times s.first s.second s.third p q
          ∙ (λ i. f i *ℤ p +ℤ g i *ℤ q +ℤ is.times *ℤ third i *ℤ q)
          ∙ back is.times is.first is.second (det_of axis a b) p q
          ∙ ap (λ (z : ℤ). det_of axis a b *ℤ z) (sym meets)
          ∙ turned is.times (det_of axis a b) r)

-- weights of corners that the cut touches, by shares whose sum is a multiple of the demand
pub exit_shared : (lists : List (List Vec3)) (d : Vec3) (e : ExitWeights) (a b c : Vec3)
    (s : Shares) → IsCut lists d e.cut → AreShares s → pos 1 ≤ℤ total_of s →
    dot_of e.cut.w a ≡ e.cut.top → dot_of e.cut.w b ≡ e.cut.top → dot_of e.cut.w c ≡ e.cut.top →
    e.q ≡ total_of s → shared s a b c ≡ scaled_by e.t d →
    EachHasWeights (total_of s) lists e.weights.items →
    weighted_sum e.weights.items lists ≡ shared s a b c → IsExit lists d e
exit_shared lists d e a b c s cut within some touches_a touches_b touches_c q_is is weights sum =
    let meets : weighted_sum e.weights.items lists ≡ scaled_by e.t d = sum ∙ is in
    let low : pos 1 ≤ℤ e.q = omega (arith, ints) in
    let first = within.first.high in
    let second = within.second.high in
    let third = within.third.high in
    let high : e.q ≤ℤ MOST_WEIGHT = omega (arith, ints) in
    let product = shared_product e.cut.w s a b c e.cut.top touches_a touches_b touches_c in
    let same : e.t *ℤ e.cut.bottom ≡ e.q *ℤ e.cut.top =
    ap (λ (z : ℤ). e.t *ℤ z) cut.bottom ∙ sym (dot-scaled e.cut.w e.t d)
    ∙ ap (dot_of e.cut.w) (sym meets ∙ sum) ∙ product
    ∙ ap (λ (z : ℤ). z *ℤ e.cut.top) (sym q_is) in
    exit_is lists d e cut low high
    (subst (λ (k : ℤ). EachHasWeights k lists e.weights.items) (sym q_is) weights) meets same

-- the weights that a face gives
pub exit_on_face : (lists : List (List Vec3)) (d : Vec3) (e : ExitWeights) (a b c : Vec3)
    (s : Shares) → IsCut lists d e.cut → AreShares s → AreSharesOf d a b c s → pos 1 ≤ℤ total_of s →
    dot_of e.cut.w a ≡ e.cut.top → dot_of e.cut.w b ≡ e.cut.top → dot_of e.cut.w c ≡ e.cut.top →
    e.q ≡ total_of s → e.t ≡ det_of a b c → EachHasWeights (total_of s) lists e.weights.items →
    weighted_sum e.weights.items lists ≡ shared s a b c → IsExit lists d e
exit_on_face lists d e a b c s cut within of some touches_a touches_b touches_c q_is t_is =
    exit_shared lists d e a b c s cut within some touches_a touches_b touches_c q_is
    (cramer d a b c s of.first of.second of.third ∙ ap (λ (k : ℤ). scaled_by k d) (sym t_is))

-- the weights of two corners, of which a multiple of the demand is a sum, by Cramer's rule with an
-- axis as the third vector
pub exit_of_two : (lists : List (List Vec3)) (d : Vec3) (e : ExitWeights) (axis a b : Vec3)
    (s : Shares) → IsCut lists d e.cut → IsBetweenTwo d e.cut.w a b e.cut.top →
    pos 1 ≤ℤ dot_of axis (cross_of a b) → IsWithin MOST_DETERMINANT s.first →
    IsWithin MOST_DETERMINANT s.second →
    s.first ≡ det_of axis d b → s.second ≡ det_of axis a d → s.third ≡ pos 0 →
    e.q ≡ total_of s → e.t ≡ det_of axis a b → EachHasWeights (total_of s) lists e.weights.items →
    weighted_sum e.weights.items lists ≡ shared s a b b → IsExit lists d e
exit_of_two lists d e axis a b s cut is ahead f g first second third q_is t_is =
    exit_shared lists d e a b b s cut
    (two_shares e.cut axis d a b s is ahead f g first second third)
    (two_some e.cut axis d a b s is ahead first second third)
    is.touches_first is.touches_second is.touches_second q_is
    (two_meet e.cut axis d a b s is first second third
    ∙ ap (λ (k : ℤ). scaled_by k d) (sym t_is))

-- the weights at the origin
pub exit_at_origin : (lists : List (List Vec3)) (d : Vec3) (e : ExitWeights) (origin : Vec3)
    (s : Shares) → IsCut lists d e.cut → e.cut.top ≡ pos 0 → origin ≡ zero_vector → e.q ≡ pos 1 →
    e.t ≡ pos 0 →
    total_of s ≡ pos 1 → EachHasWeights (total_of s) lists e.weights.items →
    weighted_sum e.weights.items lists ≡ shared s origin origin origin → IsExit lists d e
exit_at_origin lists d e origin s cut top is q_is t_is one weights sum =
    exit_is lists d e cut (omega (arith, ints)) (omega (arith, ints))
    (subst (λ (k : ℤ). EachHasWeights k lists e.weights.items) (one ∙ sym q_is) weights)
    (sum ∙ ap (λ (v : Vec3). shared s v v v) is ∙ nothing
    ∙ ap (λ (k : ℤ). scaled_by k d) (sym t_is))
    (ap (λ (z : ℤ). z *ℤ e.cut.bottom) t_is ∙ none e.cut.bottom e.q
    ∙ ap (λ (z : ℤ). e.q *ℤ z) (sym top))
  where
    part : (p q r z : ℤ) → p *ℤ pos 0 +ℤ q *ℤ pos 0 +ℤ r *ℤ pos 0 ≡ pos 0 *ℤ z
    part p q r z = ring (p ∷ q ∷ r ∷ z ∷ []) (search reads depth 40) refl

    nothing : shared s zero_vector zero_vector zero_vector ≡ scaled_by (pos 0) d
    nothing = same_vector (part s.first s.second s.third d.x) (part s.first s.second s.third d.y)
        (part s.first s.second s.third d.z)

    none : (b q : ℤ) → pos 0 *ℤ b ≡ q *ℤ pos 0
    none b q = ring (b ∷ q ∷ []) (search reads depth 40) refl

-- the weights of one corner
pub exit_at_corner : (lists : List (List Vec3)) (d : Vec3) (e : ExitWeights) (p : Vec3) →
    IsCut lists d e.cut → pos 1 ≤ℤ e.q → e.q ≤ℤ MOST_WEIGHT →
    EachHasWeights e.q lists e.weights.items →
    weighted_sum e.weights.items lists ≡ scaled_by e.q p → scaled_by e.q p ≡ scaled_by e.t d →
    e.t *ℤ e.cut.bottom ≡ e.q *ℤ e.cut.top → IsExit lists d e
exit_at_corner lists d e p cut low high weights sum is same =
    exit_is lists d e cut low high weights (sum ∙ is) same

-- shares that are not below 0, where those of a multiple are
pub shares_between : (d w a b c : Vec3) (top : ℤ) (s : Shares) → IsBetween d w a b c top →
    s.first ≡ det_of d b c → s.second ≡ det_of d c a → s.third ≡ det_of d a b →
    IsWithin MOST_DETERMINANT s.first → IsWithin MOST_DETERMINANT s.second →
    IsWithin MOST_DETERMINANT s.third → AreShares s
shares_between d w a b c top s is first second third f g h = record {
  first = record { low = omega (arith, linear, first, is.first); high = f.high };
  second = record { low = omega (arith, linear, second, is.second); high = g.high };
  third = record { low = omega (arith, linear, third, is.third); high = h.high };
}

pub exit_between : (lists : List (List Vec3)) (d : Vec3) (e : ExitWeights) (a b c : Vec3)
    (s : Shares) → IsCut lists d e.cut → IsBetween d e.cut.w a b c e.cut.top → AreShares s →
    s.first ≡ det_of d b c → s.second ≡ det_of d c a → s.third ≡ det_of d a b →
    e.q ≡ total_of s → e.t ≡ det_of a b c → EachHasWeights (total_of s) lists e.weights.items →
    weighted_sum e.weights.items lists ≡ shared s a b c → IsExit lists d e
exit_between lists d e a b c s cut is within first second third =
    exit_on_face lists d e a b c s cut within
    (record { first = first; second = second; third = third })
    (omega (arith, linear, first, second, third, is.some))
    is.touches_first is.touches_second is.touches_third
