-- The shares of a demand among a corner on a least cut and two on the edge of the cut's face are
-- not below 0.
use Rattle.std.proofs.Common.{◌≡◌, ℤ, pos, ◌+ℤ◌, ◌-ℤ◌, ◌*ℤ◌, ◌≤ℤ◌, ◌<ℤ◌, [], ◌∷◌, sym, ap, ap₂, ◌∙◌}
use Rattle.std.proofs.Common.{refl, subst, arith}
use Rattle.int_ring.proofs.Laws.{linear, mul_nonneg, mul_pos, square_nonneg}
use Rattle.int_ring.proofs.Order.{cancel_left, nonneg_of_mul_nonneg, pos_of_mul_pos, cancel_le_left}
use Rattle.int_ring.proofs.Ring.{ring, reads}
use Rattle.wrench_geometry.specs.declared.vector.Vec3.{Vec3}
use Rattle.wrench_geometry.specs.Vectors.{cross_of, det_of, dot_of, scaled_by, sum_of}
use Rattle.exit_point.proofs.Planes.{along_normal, both_along, det_parts, det_scaled, edge_point}
use Rattle.exit_point.proofs.Planes.{first_of_e, first_of_s, first_of_v, normal_share, parts_of}
use Rattle.exit_point.proofs.Planes.{second_of, second_of_e, second_of_v, turned_det}

-- what is known of a demand d, of a corner v on the cut along w, and of the edge along the normal
-- of w and u: e is from v to the edge, l and r are from there to its ends, and s is how far, times
-- m, the ray meets it from there
pub record IsEdge (d w u v e s l r : Vec3) (top top_beside k m : ℤ) : Type 0 where
  pub meets : scaled_by (top *ℤ top_beside) d ≡ parts_of k v m e s
  pub on_cut : dot_of w v ≡ top
  pub on_edge : dot_of u e ≡ top_beside
  pub top_from_1 : pos 1 ≤ℤ top
  pub beside_from_1 : pos 1 ≤ℤ top_beside
  pub e_flat : dot_of w e ≡ pos 0
  pub s_flat : dot_of w s ≡ pos 0
  pub s_level : dot_of u s ≡ pos 0
  pub l_flat : dot_of w l ≡ pos 0
  pub l_level : dot_of u l ≡ pos 0
  pub r_flat : dot_of w r ≡ pos 0
  pub r_level : dot_of u r ≡ pos 0
  pub from_1 : pos 1 ≤ℤ m
  pub at_most : m ≤ℤ k
  pub from_least : (m *ℤ dot_of (cross_of w u) l) ≤ℤ dot_of (cross_of w u) s
  pub to_greatest : dot_of (cross_of w u) s ≤ℤ (m *ℤ dot_of (cross_of w u) r)

-- ---- numbers

pub long : (c d : Vec3) → pos 1 ≤ℤ dot_of d c → pos 0 <ℤ dot_of c c
long c d ahead =
    let n = cross_of c d in
    let square : dot_of d d *ℤ dot_of c c ≡ dot_of d c *ℤ dot_of d c +ℤ dot_of n n =
    ring (c.x ∷ c.y ∷ c.z ∷ d.x ∷ d.y ∷ d.z ∷ []) (search reads depth 40) refl in
    pos_of_mul_pos (dot_of d d) (dot_of c c) (squares d)
    (omega (
      arith,
      linear,
      square,
      squares n,
      mul_pos (dot_of d c) (dot_of d c) (omega (arith, linear)) (omega (arith, linear)),
    ))
  where
    squares : (v : Vec3) → pos 0 ≤ℤ dot_of v v
    squares v = omega (arith, linear, square_nonneg v.x, square_nonneg v.y, square_nonneg v.z)

module _ (n gg k m R L S gr gl gs : ℤ) (some : pos 0 <ℤ n) (r_is : gg *ℤ R ≡ gr *ℤ n)
    (l_is : gg *ℤ L ≡ gl *ℤ n) (s_is : gg *ℤ S ≡ gs *ℤ n) where
  first_number : (share : ℤ) → n *ℤ share ≡ k *ℤ (R -ℤ L) +ℤ m *ℤ (L -ℤ R) →
      gg *ℤ share ≡ (k -ℤ m) *ℤ (gr -ℤ gl)
  first_number share is =
      cancel_left (gg *ℤ share) ((k -ℤ m) *ℤ (gr -ℤ gl)) n some
      (ring (n ∷ gg ∷ share ∷ []) (search reads depth 40) refl ∙ ap (λ (z : ℤ). gg *ℤ z) is
      ∙ split ∙ ap₂ (λ (p : ℤ) (q : ℤ). (k -ℤ m) *ℤ p -ℤ (k -ℤ m) *ℤ q) r_is l_is ∙ joined)
    where
      split : gg *ℤ (k *ℤ (R -ℤ L) +ℤ m *ℤ (L -ℤ R)) ≡
          (k -ℤ m) *ℤ (gg *ℤ R) -ℤ (k -ℤ m) *ℤ (gg *ℤ L)
      split = ring (gg ∷ k ∷ m ∷ R ∷ L ∷ []) (search reads depth 40) refl

      joined : (k -ℤ m) *ℤ (gr *ℤ n) -ℤ (k -ℤ m) *ℤ (gl *ℤ n) ≡ n *ℤ ((k -ℤ m) *ℤ (gr -ℤ gl))
      joined = ring (n ∷ k ∷ m ∷ gr ∷ gl ∷ []) (search reads depth 40) refl

  second_number : (share : ℤ) → n *ℤ share ≡ m *ℤ R -ℤ S → gg *ℤ share ≡ m *ℤ gr -ℤ gs
  second_number share is =
      cancel_left (gg *ℤ share) (m *ℤ gr -ℤ gs) n some
      (ring (n ∷ gg ∷ share ∷ []) (search reads depth 40) refl ∙ ap (λ (z : ℤ). gg *ℤ z) is
      ∙ split ∙ ap₂ (λ (p : ℤ) (q : ℤ). m *ℤ p -ℤ q) r_is s_is ∙ joined)
    where
      split : gg *ℤ (m *ℤ R -ℤ S) ≡ m *ℤ (gg *ℤ R) -ℤ gg *ℤ S
      split = ring (gg ∷ m ∷ R ∷ S ∷ []) (search reads depth 40) refl

      joined : m *ℤ (gr *ℤ n) -ℤ gs *ℤ n ≡ n *ℤ (m *ℤ gr -ℤ gs)
      joined = ring (n ∷ m ∷ gr ∷ gs ∷ []) (search reads depth 40) refl

  third_number : (share : ℤ) → n *ℤ share ≡ S -ℤ m *ℤ L → gg *ℤ share ≡ gs -ℤ m *ℤ gl
  third_number share is =
      cancel_left (gg *ℤ share) (gs -ℤ m *ℤ gl) n some
      (ring (n ∷ gg ∷ share ∷ []) (search reads depth 40) refl ∙ ap (λ (z : ℤ). gg *ℤ z) is
      ∙ split ∙ ap₂ (λ (p : ℤ) (q : ℤ). q -ℤ m *ℤ p) l_is s_is ∙ joined)
    where
      split : gg *ℤ (S -ℤ m *ℤ L) ≡ gg *ℤ S -ℤ m *ℤ (gg *ℤ L)
      split = ring (gg ∷ m ∷ L ∷ S ∷ []) (search reads depth 40) refl

      joined : gs *ℤ n -ℤ m *ℤ (gl *ℤ n) ≡ n *ℤ (gs -ℤ m *ℤ gl)
      joined = ring (n ∷ m ∷ gl ∷ gs ∷ []) (search reads depth 40) refl

-- ---- shares

-- the shares of v and of the two ends of the edge, and how far the demand touches the cut
pub record HasShares (d w v a b : Vec3) (top : ℤ) : Type 0 where
  pub first : pos 0 ≤ℤ det_of d a b
  pub second : pos 0 ≤ℤ det_of d b v
  pub third : pos 0 ≤ℤ det_of d v a
  pub touches_a : dot_of w a ≡ top
  pub touches_b : dot_of w b ≡ top

module _ (d w u v e s l r : Vec3) (top top_beside k m : ℤ)
    (is : IsEdge d w u v e s l r top top_beside k m) where
  abbrev n : ℤ
  n = top *ℤ top_beside

  n_from_1 : pos 0 <ℤ n
  n_from_1 = mul_pos top top_beside (omega (arith, linear, is.top_from_1))
      (omega (arith, linear, is.beside_from_1))

  abbrev g : Vec3
  g = cross_of w u

  pub at_normal : det_of v e g ≡ n
  at_normal = normal_share w u v e is.e_flat ∙ ap₂ ◌*ℤ◌ is.on_cut is.on_edge

  pub det_dot : (v e x : Vec3) → det_of v e x ≡ dot_of (cross_of v e) x
  det_dot v e x =
      ring (v.x ∷ v.y ∷ v.z ∷ e.x ∷ e.y ∷ e.z ∷ x.x ∷ x.y ∷ x.z ∷ []) (search reads depth 40) refl

  pub gg_above : pos 0 <ℤ dot_of g g
  gg_above = long g (cross_of v e)
      (from_1 (sym (det_dot v e g) ∙ at_normal) n_from_1)
    where
      from_1 : {a b : ℤ} → a ≡ b → pos 0 <ℤ b → pos 1 ≤ℤ a
      from_1 e h = omega (arith, linear)

  along : (x : Vec3) → dot_of w x ≡ pos 0 → dot_of u x ≡ pos 0 →
      dot_of g g *ℤ det_of v e x ≡ dot_of g x *ℤ n
  along x flat level = ap (λ (z : ℤ). dot_of g g *ℤ z) (det_dot v e x)
      ∙ along_normal w u x (cross_of v e) flat level
      ∙ ap (λ (z : ℤ). dot_of g x *ℤ z) (sym (det_dot v e g) ∙ at_normal)

  none : (x y a : Vec3) → dot_of w x ≡ pos 0 → dot_of u x ≡ pos 0 → dot_of w y ≡ pos 0 →
      dot_of u y ≡ pos 0 → dot_of a (cross_of x y) ≡ pos 0
  none x y a = both_along w u x y a gg_above

  of_parts : (a b : Vec3) → n *ℤ det_of d a b ≡
      k *ℤ det_of v a b +ℤ m *ℤ det_of e a b +ℤ det_of s a b
  of_parts a b = sym (det_scaled n d a b) ∙ ap (λ (p : Vec3). det_of p a b) is.meets
      ∙ det_parts k v m e s a b

  abbrev a : Vec3
  a = edge_point v e l

  abbrev b : Vec3
  b = edge_point v e r

  first_of_d : n *ℤ det_of d a b ≡ k *ℤ (det_of v e r -ℤ det_of v e l) +ℤ m *ℤ
      (det_of v e l -ℤ det_of v e r)
  first_of_d = of_parts a b
      ∙ ap₂ ◌+ℤ◌
      (ap₂ (λ (p : ℤ) (q : ℤ). k *ℤ p +ℤ m *ℤ q)
      (first_of_v v e l r ∙ plus_0 (det_of v e r) (det_of v e l) (dot_of v (cross_of l r))
      (none l r v is.l_flat is.l_level is.r_flat is.r_level))
      (first_of_e v e l r ∙ plus_0 (det_of v e l) (det_of v e r) (dot_of e (cross_of l r))
      (none l r e is.l_flat is.l_level is.r_flat is.r_level)))
      (first_of_s v e s l r
      ∙ all_0 (dot_of (sum_of v e) (cross_of s l)) (dot_of (sum_of v e) (cross_of s r))
      (dot_of s (cross_of l r))
      (none s l (sum_of v e) is.s_flat is.s_level is.l_flat is.l_level)
      (none s r (sum_of v e) is.s_flat is.s_level is.r_flat is.r_level)
      (none l r s is.l_flat is.l_level is.r_flat is.r_level))
      ∙ last (k *ℤ (det_of v e r -ℤ det_of v e l) +ℤ m *ℤ (det_of v e l -ℤ det_of v e r))
    where
      plus_0 : (x y z : ℤ) → z ≡ pos 0 → x -ℤ y +ℤ z ≡ x -ℤ y
      plus_0 x y z i = omega (arith, linear)

      all_0 : (x y z : ℤ) → x ≡ pos 0 → y ≡ pos 0 → z ≡ pos 0 → x -ℤ y +ℤ z ≡ pos 0
      all_0 x y z i j o = omega (arith, linear)

      last : (x : ℤ) → x +ℤ pos 0 ≡ x
      last x = omega (arith, linear)

  second_of_d : n *ℤ det_of d b v ≡ m *ℤ det_of v e r -ℤ det_of v e s
  second_of_d = of_parts b v
      ∙ ap₂ ◌+ℤ◌
      (ap₂ (λ (p : ℤ) (q : ℤ). k *ℤ p +ℤ m *ℤ q) (second_of_v v e r) (second_of_e v e r))
      (second_of v e s r)
      ∙ last (dot_of v (cross_of s r)) (m *ℤ det_of v e r) (det_of v e s)
      (none s r v is.s_flat is.s_level is.r_flat is.r_level)
    where
      last : (c p q : ℤ) → c ≡ pos 0 → k *ℤ pos 0 +ℤ p +ℤ (c -ℤ q) ≡ p -ℤ q
      last c p q i = let gone : k *ℤ pos 0 ≡ pos 0 = ring (k ∷ []) (search reads depth 40) refl in
          omega (arith, linear, gone)

  third_of_d : n *ℤ det_of d v a ≡ det_of v e s -ℤ m *ℤ det_of v e l
  third_of_d = ap (λ (z : ℤ). n *ℤ z) (turned_det d v a) ∙ minus n (det_of d a v)
      ∙ ap (λ (z : ℤ). pos 0 -ℤ z)
      (of_parts a v
      ∙ ap₂ ◌+ℤ◌
      (ap₂ (λ (p : ℤ) (q : ℤ). k *ℤ p +ℤ m *ℤ q) (second_of_v v e l) (second_of_e v e l))
      (second_of v e s l))
      ∙ last (dot_of v (cross_of s l)) (m *ℤ det_of v e l) (det_of v e s)
      (none s l v is.s_flat is.s_level is.l_flat is.l_level)
    where
      minus : (y x : ℤ) → y *ℤ (pos 0 -ℤ x) ≡ pos 0 -ℤ y *ℤ x
      minus y x = ring (y ∷ x ∷ []) (search reads depth 40) refl

      last : (c p q : ℤ) → c ≡ pos 0 → pos 0 -ℤ (k *ℤ pos 0 +ℤ p +ℤ (c -ℤ q)) ≡ q -ℤ p
      last c p q i = let gone : k *ℤ pos 0 ≡ pos 0 = ring (k ∷ []) (search reads depth 40) refl in
          omega (arith, linear, gone)

  r_is : dot_of g g *ℤ det_of v e r ≡ dot_of g r *ℤ n
  r_is = along r is.r_flat is.r_level

  l_is : dot_of g g *ℤ det_of v e l ≡ dot_of g l *ℤ n
  l_is = along l is.l_flat is.l_level

  s_is : dot_of g g *ℤ det_of v e s ≡ dot_of g s *ℤ n
  s_is = along s is.s_flat is.s_level

  first_is : dot_of g g *ℤ det_of d a b ≡ (k -ℤ m) *ℤ (dot_of g r -ℤ dot_of g l)
  first_is = first_number n (dot_of g g) k m (det_of v e r) (det_of v e l) (det_of v e s)
      (dot_of g r) (dot_of g l) (dot_of g s) n_from_1 r_is l_is s_is (det_of d a b) first_of_d

  second_is : dot_of g g *ℤ det_of d b v ≡ m *ℤ dot_of g r -ℤ dot_of g s
  second_is = second_number n (dot_of g g) k m (det_of v e r) (det_of v e l) (det_of v e s)
      (dot_of g r) (dot_of g l) (dot_of g s) n_from_1 r_is l_is s_is (det_of d b v) second_of_d

  third_is : dot_of g g *ℤ det_of d v a ≡ dot_of g s -ℤ m *ℤ dot_of g l
  third_is = third_number n (dot_of g g) k m (det_of v e r) (det_of v e l) (det_of v e s)
      (dot_of g r) (dot_of g l) (dot_of g s) n_from_1 r_is l_is s_is (det_of d v a) third_of_d

  from_l_to_r : dot_of g l ≤ℤ dot_of g r
  from_l_to_r = cancel_le_left (dot_of g l) (dot_of g r) m (omega (arith, linear, is.from_1))
      (omega (arith, linear, is.from_least, is.to_greatest))

  touches : (x : Vec3) → dot_of w x ≡ pos 0 → dot_of w (edge_point v e x) ≡ top
  touches x flat = parts w v e x
      ∙ sums (dot_of w v) (dot_of w e) (dot_of w x) is.on_cut is.e_flat flat
    where
      parts : (w v e x : Vec3) →
          dot_of w (edge_point v e x) ≡ dot_of w v +ℤ dot_of w e +ℤ dot_of w x
      parts w v e x =
          ring (w.x ∷ w.y ∷ w.z ∷ v.x ∷ v.y ∷ v.z ∷ e.x ∷ e.y ∷ e.z ∷ x.x ∷ x.y ∷ x.z ∷ [])
          (search reads depth 40) refl

      sums : (x y z : ℤ) → x ≡ top → y ≡ pos 0 → z ≡ pos 0 → x +ℤ y +ℤ z ≡ top
      sums x y z i j o = omega (arith, linear)

  pub has_shares : HasShares d w v (edge_point v e l) (edge_point v e r) top
  has_shares = record {
    first = not_below first_is
        (mul_nonneg (k -ℤ m) (dot_of g r -ℤ dot_of g l) (omega (arith, linear, is.at_most))
        (omega (arith, linear, from_l_to_r)));
    second = not_below second_is (omega (arith, linear, is.to_greatest));
    third = not_below third_is (omega (arith, linear, is.from_least));
    touches_a = touches l is.l_flat;
    touches_b = touches r is.r_flat;
  }
    where
      not_below : {x y : ℤ} → dot_of g g *ℤ x ≡ y → pos 0 ≤ℤ y → pos 0 ≤ℤ x
      not_below {x} {y} e h = nonneg_of_mul_nonneg (dot_of g g) x gg_above
          (subst (λ (z : ℤ). pos 0 ≤ℤ z) (sym e) h)

  -- where the edge's ends are apart, some share is above 0
  pub some_share : dot_of (cross_of w u) l <ℤ dot_of (cross_of w u) r →
      pos 1 ≤ℤ (det_of d (edge_point v e l) (edge_point v e r) +ℤ
      det_of d (edge_point v e r) v +ℤ det_of d v (edge_point v e l))
  some_share apart =
      above (pos_of_mul_pos (dot_of g g) (det_of d a b +ℤ det_of d b v +ℤ det_of d v a)
      (below gg_above)
      (subst (λ (z : ℤ). pos 0 <ℤ z) (sym sum)
      (mul_pos k (dot_of g r -ℤ dot_of g l) (omega (arith, linear, is.from_1, is.at_most))
      (omega (arith, linear, apart)))))
    where
      below : {x : ℤ} → pos 0 <ℤ x → pos 0 ≤ℤ x
      below h = omega (arith, linear)

      above : {x : ℤ} → pos 0 <ℤ x → pos 1 ≤ℤ x
      above h = omega (arith, linear)

      spread : (h x y z : ℤ) → h *ℤ (x +ℤ y +ℤ z) ≡ h *ℤ x +ℤ h *ℤ y +ℤ h *ℤ z
      spread h x y z = ring (h ∷ x ∷ y ∷ z ∷ []) (search reads depth 40) refl

      joined : (k m gr gl gs : ℤ) →
          (k -ℤ m) *ℤ (gr -ℤ gl) +ℤ (m *ℤ gr -ℤ gs) +ℤ (gs -ℤ m *ℤ gl) ≡ k *ℤ (gr -ℤ gl)
      joined k m gr gl gs = ring (k ∷ m ∷ gr ∷ gl ∷ gs ∷ []) (search reads depth 40) refl

      sum : dot_of g g *ℤ (det_of d a b +ℤ det_of d b v +ℤ det_of d v a) ≡
          k *ℤ (dot_of g r -ℤ dot_of g l)
      sum = spread (dot_of g g) (det_of d a b) (det_of d b v) (det_of d v a)
          ∙ ap₂ ◌+ℤ◌ (ap₂ ◌+ℤ◌ first_is second_is) third_is
          ∙ joined k m (dot_of g r) (dot_of g l) (dot_of g s)
