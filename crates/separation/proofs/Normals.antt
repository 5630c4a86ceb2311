-- Of each vector ahead of the demand, some cross product of two directions has a quotient that is
-- at most its.
use Rattle.std.proofs.Common.{◌≡◌, ◌≢◌, ◌⊎◌, inl, inr, zero, suc, ℤ, pos, negsuc, ◌+ℤ◌, ◌-ℤ◌, ◌*ℤ◌}
use Rattle.std.proofs.Common.{neg_ℤ, ◌≤ℤ◌, ◌<ℤ◌, List, [], ◌∷◌, Bool, true, false, ◌&&◌, not, refl}
use Rattle.std.proofs.Common.{sym, ap, ◌∙◌, arith}
use Rattle.std.proofs.lemmas.Int.{by_lt_z}
use Rattle.std.proofs.Math.IntN.{*ℤ_comm}
use Rattle.std.specs.Prelude.{Contains}
use Rattle.int_ring.proofs.Laws.{linear, mul_zero, mul_neg, square_nonneg, mul_nonneg, mul_pos}
use Rattle.int_ring.proofs.Order.{cancel_le, fraction_le_trans, pos_of_mul_pos}
use Rattle.int_ring.proofs.Order.{nonneg_of_mul_nonneg, zero_factor}
use Rattle.int_ring.proofs.Ring.{ring, reads}
use Rattle.wrench_geometry.specs.declared.vector.Vec3.{Vec3}
use Rattle.wrench_geometry.specs.Vectors.{opposite_of, dot_of, cross_of}
use Rattle.separation.specs.Directions.{Keeps, KeepsSigns}
use Rattle.separation.proofs.Members.{some_or_none}
use Rattle.separation.proofs.Moves.{keeps_same, IsDirectionList, Reached, move, opposite_dot}
use Rattle.separation.proofs.Moves.{commutes}

-- ---- a wall that x crosses, where one may be there already

abbrev is_0 : ℤ → Bool
is_0 (pos zero) = true
is_0 (pos (suc n)) = false
is_0 (negsuc n) = false

is_0_true : (a : ℤ) → is_0 a ≡ true → a ≡ pos 0
is_0_true (pos zero) e = refl
is_0_true (pos (suc n)) e = cc
is_0_true (negsuc n) e = cc

is_0_false : (a : ℤ) → is_0 a ≡ false → a ≢ pos 0
is_0_false (pos zero) e f = cc
is_0_false (pos (suc n)) e f = omega (arith, linear)
is_0_false (negsuc n) e f = omega (arith, linear)

-- s is 0 and a is not
abbrev crosses : ℤ → ℤ → Bool
crosses s a = is_0 s && not (is_0 a)

crosses_true : (s a : ℤ) → crosses s a ≡ true → (s ≡ pos 0) × (a ≢ pos 0)
crosses_true s a e = both (is_0 s) (is_0 a) refl refl e
  where
    both : (p q : Bool) → is_0 s ≡ p → is_0 a ≡ q → p && not q ≡ true → (s ≡ pos 0) × (a ≢ pos 0)
    both true true e f g = cc
    both true false e f g = (is_0_true s e, is_0_false a f)
    both false true e f g = cc
    both false false e f g = cc

crosses_false : (s a : ℤ) → crosses s a ≡ false → s ≡ pos 0 → a ≡ pos 0
crosses_false s a e flat = both (is_0 s) (is_0 a) refl refl e
  where
    both : (p q : Bool) → is_0 s ≡ p → is_0 a ≡ q → p && not q ≡ false → a ≡ pos 0
    both true true e f g = is_0_true a f
    both true false e f g = cc
    both false true e f g = is_0_true a f
    both false false e f g = absurd (is_0_false s e flat)

-- on a member's wall that x crosses, be it u itself or where a move ends
step : (h : Vec3 → ℤ) (directions : List Vec3) → IsDirectionList h directions → (d u x y : Vec3) →
    pos 1 ≤ℤ dot_of u d → dot_of x d ≡ pos 0 → dot_of x y ≢ pos 0 →
    Reached h directions d u x
step h directions is d u x y ahead level line =
    elim (some_or_none (λ (e : Vec3). crosses (dot_of e u) (dot_of e x)) directions) [
      | inl there ↦ stay there.0 there.1
          (crosses_true (dot_of there.0 u) (dot_of there.0 x) there.2)
      | inr none ↦ move h directions is d u x y ahead level
          (λ e among. crosses_false (dot_of e u) (dot_of e x) (none e among)) line
    ]
  where
    stay : (e : Vec3) → Contains directions e → (dot_of e u ≡ pos 0) × (dot_of e x ≢ pos 0) →
        Reached h directions d u x
    stay e among there = record {
      end = u;
      wall = e;
      among = among;
      on_wall = there.0;
      crossed = there.1;
      ahead = ahead;
      quotient = omega (arith, linear);
      kept = λ f among wall. wall;
    }

-- ---- the end of two moves

-- a vector that is perpendicular to d, and one to which it is not perpendicular
record Across (d : Vec3) : Type 0 where
  way : Vec3
  level : dot_of way d ≡ pos 0
  witness : Vec3
  line : dot_of way witness ≢ pos 0

across : (d : Vec3) → Across d
across d = by_x (is_0 d.x) refl
  where
    by_x : (b : Bool) → is_0 d.x ≡ b → Across d
    by_x true e = record {
      way = record { x = pos 1; y = pos 0; z = pos 0 };
      level = ring (d.x ∷ d.y ∷ d.z ∷ []) (search reads depth 40) refl ∙ is_0_true d.x e;
      witness = record { x = pos 1; y = pos 0; z = pos 0 };
      line = λ f. omega (arith, linear);
    }
    by_x false e = record {
      way = record { x = d.y; y = neg_ℤ d.x; z = pos 0 };
      level = ring (d.x ∷ d.y ∷ d.z ∷ []) (search reads depth 40) refl;
      witness = record { x = pos 0; y = negsuc 0; z = pos 0 };
      line = λ f. is_0_false d.x e (ring (d.x ∷ d.y ∷ []) (search reads depth 40) refl ∙ f);
    }

-- the two directions and the sign of a candidate, which are ahead of the demand and whose quotient
-- is at most u's
pub record Candidate (h : Vec3 → ℤ) (directions : List Vec3) (d u : Vec3) : Type 0 where
  pub first : Vec3
  pub second : Vec3
  pub normal : Vec3
  pub first_among : Contains directions first
  pub second_among : Contains directions second
  pub crossed : (normal ≡ cross_of first second) ⊎ (normal ≡ opposite_of (cross_of first second))
  pub ahead : pos 1 ≤ℤ dot_of normal d
  pub quotient : (h normal *ℤ dot_of u d) ≤ℤ (h u *ℤ dot_of normal d)

-- c and u are on one line
pub record Along (c u : Vec3) : Type 0 where
  pub x : c.y *ℤ u.z -ℤ c.z *ℤ u.y ≡ pos 0
  pub y : c.z *ℤ u.x -ℤ c.x *ℤ u.z ≡ pos 0
  pub z : c.x *ℤ u.y -ℤ c.y *ℤ u.x ≡ pos 0

-- Lagrange's identity
lagrange : (c u e : Vec3) → dot_of c c *ℤ dot_of e u -ℤ dot_of c u *ℤ dot_of e c ≡ dot_of
    (cross_of c e) (cross_of c u)
lagrange c u e = ring (c.x ∷ c.y ∷ c.z ∷ u.x ∷ u.y ∷ u.z ∷ e.x ∷ e.y ∷ e.z ∷ [])
    (search reads depth 40) refl

-- with every vector, the products of two vectors on one line have one quotient
pub one_line : (c u : Vec3) → Along c u → (e : Vec3) →
    dot_of c c *ℤ dot_of e u ≡ dot_of c u *ℤ dot_of e c
one_line c u along e =
    let n = cross_of c e in
    let gone : (k a : ℤ) → a ≡ pos 0 → k *ℤ a ≡ pos 0 =
    λ (k : ℤ) (a : ℤ) (g : a ≡ pos 0). ap (λ (z : ℤ). k *ℤ z) g ∙ mul_zero k in
    omega (
      arith,
      linear,
      lagrange c u e,
      gone n.x _ along.x,
      gone n.y _ along.y,
      gone n.z _
          along.z,
    )

-- the normal of two vectors and a vector perpendicular to both are on one line
along_normal : (a b u : Vec3) → dot_of a u ≡ pos 0 → dot_of b u ≡ pos 0 → Along (cross_of a b) u
along_normal a b u g k = record {
  x = same b.x a.x
      (ring (a.x ∷ a.y ∷ a.z ∷ b.x ∷ b.y ∷ b.z ∷ u.x ∷ u.y ∷ u.z ∷ [])
      (search reads depth 40) refl);
  y = same b.y a.y
      (ring (a.x ∷ a.y ∷ a.z ∷ b.x ∷ b.y ∷ b.z ∷ u.x ∷ u.y ∷ u.z ∷ [])
      (search reads depth 40) refl);
  z = same b.z a.z
      (ring (a.x ∷ a.y ∷ a.z ∷ b.x ∷ b.y ∷ b.z ∷ u.x ∷ u.y ∷ u.z ∷ [])
      (search reads depth 40) refl);
}
  where
    same : {p : ℤ} (m n : ℤ) → p ≡ m *ℤ dot_of a u -ℤ n *ℤ dot_of b u → p ≡ pos 0
    same m n e = e ∙ ap (λ (z : ℤ). m *ℤ z -ℤ n *ℤ dot_of b u) g
        ∙ ap (λ (z : ℤ). m *ℤ pos 0 -ℤ n *ℤ z) k ∙ ring (m ∷ n ∷ []) (search reads depth 40) refl

along_opposite : (c u : Vec3) → Along c u → Along (opposite_of c) u
along_opposite c u along = record {
  x = ring (c.x ∷ c.y ∷ c.z ∷ u.x ∷ u.y ∷ u.z ∷ []) (search reads depth 40) refl ∙ ap neg_ℤ along.x;
  y = ring (c.x ∷ c.y ∷ c.z ∷ u.x ∷ u.y ∷ u.z ∷ []) (search reads depth 40) refl ∙ ap neg_ℤ along.y;
  z = ring (c.x ∷ c.y ∷ c.z ∷ u.x ∷ u.y ∷ u.z ∷ []) (search reads depth 40) refl ∙ ap neg_ℤ along.z;
}

-- a vector that has a product with another is longer than 0
long : (c d : Vec3) → pos 1 ≤ℤ dot_of c d → pos 0 <ℤ dot_of c c
long c d ahead =
    let n = cross_of c d in
    let square : dot_of d d *ℤ dot_of c c ≡ dot_of c d *ℤ dot_of c d +ℤ dot_of n n =
    ring (c.x ∷ c.y ∷ c.z ∷ d.x ∷ d.y ∷ d.z ∷ []) (search reads depth 40) refl in
    let above : pos 0 <ℤ (dot_of c d *ℤ dot_of c d) =
    mul_pos (dot_of c d) (dot_of c d) (omega (arith, linear)) (omega (arith, linear)) in
    pos_of_mul_pos (dot_of d d) (dot_of c c)
    (omega (arith, linear, square_nonneg d.x, square_nonneg d.y, square_nonneg d.z))
    (omega (arith, linear, square_nonneg n.x, square_nonneg n.y, square_nonneg n.z))

-- numbers whose positive multiples are equal have one sign
pub one_sign : (k m a b : ℤ) → pos 0 <ℤ k → pos 0 <ℤ m → k *ℤ a ≡ m *ℤ b → Keeps a b
one_sign k m a b k_above m_above e = record {
  above = λ g. nonneg_of_mul_nonneg m b m_above
      (omega (arith, linear, mul_nonneg k a (omega (arith, linear)) g));
  below = λ g. below
      (nonneg_of_mul_nonneg m (neg_ℤ b) m_above
      (minus (mul_nonneg k (neg_ℤ a) (omega (arith, linear)) (omega (arith, linear)))));
}
  where
    minus : pos 0 ≤ℤ (k *ℤ neg_ℤ a) → pos 0 ≤ℤ (m *ℤ neg_ℤ b)
    minus g = omega (arith, linear, mul_neg k a, mul_neg m b)

    below : pos 0 ≤ℤ neg_ℤ b → b ≤ℤ pos 0
    below g = omega (arith, linear)

-- a normal ahead of the demand, on one line with u, has u's quotient
same_quotient : (k m hc hu cd ud : ℤ) → pos 0 <ℤ k → k *ℤ hu ≡ m *ℤ hc → k *ℤ ud ≡ m *ℤ cd →
    (hc *ℤ ud) ≤ℤ (hu *ℤ cd)
same_quotient k m hc hu cd ud k_above e f =
    let left : hc *ℤ ud *ℤ k ≡ hc *ℤ (k *ℤ ud) =
    ring (k ∷ hc ∷ ud ∷ []) (search reads depth 40) refl in
    let middle : hc *ℤ (m *ℤ cd) ≡ m *ℤ hc *ℤ cd =
    ring (m ∷ hc ∷ cd ∷ []) (search reads depth 40) refl in
    let right : k *ℤ hu *ℤ cd ≡ hu *ℤ cd *ℤ k =
    ring (k ∷ hu ∷ cd ∷ []) (search reads depth 40) refl in
    let all : hc *ℤ ud *ℤ k ≡ hu *ℤ cd *ℤ k =
    left ∙ ap (λ (z : ℤ). hc *ℤ z) f ∙ middle ∙ ap (λ (z : ℤ). z *ℤ cd) (sym e) ∙ right in
    cancel_le (hc *ℤ ud) (hu *ℤ cd) k k_above (omega (arith, linear))

normal_quotient : (h : Vec3 → ℤ) (directions : List Vec3) → IsDirectionList h directions →
    (d u c : Vec3) → Along c u → pos 1 ≤ℤ dot_of u d → pos 1 ≤ℤ dot_of c d →
    (h c *ℤ dot_of u d) ≤ℤ (h u *ℤ dot_of c d)
normal_quotient h directions is d u c along u_ahead c_ahead =
    same_quotient k m (h c) (h u) (dot_of c d) (dot_of u d) k_above at_u at_d
  where
    k : ℤ
    k = dot_of c c

    m : ℤ
    m = dot_of c u

    k_above : pos 0 <ℤ dot_of c c
    k_above = long c d c_ahead

    at_d : dot_of c c *ℤ dot_of u d ≡ dot_of c u *ℤ dot_of c d
    at_d = ap (λ (z : ℤ). dot_of c c *ℤ z) (commutes u d) ∙ one_line c u along d
        ∙ ap (λ (z : ℤ). dot_of c u *ℤ z) (commutes d c)

    m_above : pos 0 <ℤ dot_of c u
    m_above = pos_of_mul_pos (dot_of c d) (dot_of c u) (omega (arith, linear))
        (above (dot_of c c) (dot_of u d) (dot_of c u) (dot_of c d) k_above u_ahead at_d)
      where
        above : (k a m b : ℤ) → pos 0 <ℤ k → pos 1 ≤ℤ a → k *ℤ a ≡ m *ℤ b → pos 0 <ℤ (b *ℤ m)
        above k a m b g l e =
            omega (arith, linear, mul_pos k a g (omega (arith, linear)), *ℤ_comm b m)

    signs : KeepsSigns directions u c
    signs e among = one_sign (dot_of c c) (dot_of c u) (dot_of e u) (dot_of e c) k_above m_above
        (one_line c u along e)

    v : Vec3
    v = (is.linear_at u).0

    at_u : dot_of c c *ℤ h u ≡ dot_of c u *ℤ h c
    at_u = ap (λ (z : ℤ). dot_of c c *ℤ z) ((is.linear_at u).1 u (keeps_same directions u))
        ∙ one_line c u along v ∙ ap (λ (z : ℤ). dot_of c u *ℤ z) (sym ((is.linear_at u).1 c signs))

-- ---- the theorem

-- two moves end on the walls of two directions whose normal is not perpendicular to the demand
record TwoWalls (h : Vec3 → ℤ) (directions : List Vec3) (d u : Vec3) : Type 0 where
  end : Vec3
  first : Vec3
  second : Vec3
  first_among : Contains directions first
  second_among : Contains directions second
  on_first : dot_of first end ≡ pos 0
  on_second : dot_of second end ≡ pos 0
  apart : dot_of (cross_of first second) d ≢ pos 0
  ahead : pos 1 ≤ℤ dot_of end d
  quotient : (h end *ℤ dot_of u d) ≤ℤ (h u *ℤ dot_of end d)

two_walls : (h : Vec3 → ℤ) (directions : List Vec3) → IsDirectionList h directions → (d u : Vec3) →
    pos 1 ≤ℤ dot_of u d → TwoWalls h directions d u
two_walls h directions is d u ahead =
    from_first (step h directions is d u way.way way.witness ahead way.level way.line)
  where
    way : Across d
    way = across d

    from_second : (one : Reached h directions d u way.way) →
        Reached h directions d one.end (cross_of one.wall d) → TwoWalls h directions d u
    from_second one two = record {
      end = two.end;
      first = two.wall;
      second = one.wall;
      first_among = two.among;
      second_among = one.among;
      on_first = two.on_wall;
      on_second = two.kept one.wall one.among one.on_wall;
      apart = λ flat. two.crossed (turns two.wall one.wall ∙ flat);
      ahead = two.ahead;
      quotient = fraction_le_trans (h two.end) (dot_of two.end d) (h one.end) (dot_of one.end d)
          (h u) (dot_of u d) (positive two.ahead) (positive one.ahead)
          (positive ahead) two.quotient one.quotient;
    }
      where
        positive : {a : ℤ} → pos 1 ≤ℤ a → pos 0 <ℤ a
        positive {a} g = omega (arith, linear)

        turns : (a b : Vec3) → dot_of a (cross_of b d) ≡ dot_of (cross_of a b) d
        turns a b = ring (a.x ∷ a.y ∷ a.z ∷ b.x ∷ b.y ∷ b.z ∷ d.x ∷ d.y ∷ d.z ∷ [])
            (search reads depth 40) refl

    from_first : Reached h directions d u way.way → TwoWalls h directions d u
    from_first one = from_second one
        (step h directions is d one.end (cross_of one.wall d)
        (cross_of way.way one.end) one.ahead level line)
      where
        level : dot_of (cross_of one.wall d) d ≡ pos 0
        level = lies one.wall d
          where
            lies : (a d : Vec3) → dot_of (cross_of a d) d ≡ pos 0
            lies a d = ring (a.x ∷ a.y ∷ a.z ∷ d.x ∷ d.y ∷ d.z ∷ []) (search reads depth 40) refl

        product : (z d x w : Vec3) → dot_of (cross_of z d)
            (cross_of x w) ≡ dot_of z x *ℤ dot_of w d -ℤ dot_of z w *ℤ dot_of x d
        product z d x w =
            ring (z.x ∷ z.y ∷ z.z ∷ d.x ∷ d.y ∷ d.z ∷ x.x ∷ x.y ∷ x.z ∷ w.x ∷ w.y ∷ w.z ∷ [])
            (search reads depth 40) refl

        line : dot_of (cross_of one.wall d) (cross_of way.way one.end) ≢ pos 0
        line flat =
            neither (zero_factor (dot_of one.wall way.way) (dot_of one.end d)
            (left (product one.wall d way.way one.end) flat one.on_wall way.level))
          where
            left : {n p q s : ℤ} → n ≡ p -ℤ q *ℤ s → n ≡ pos 0 → q ≡ pos 0 → s ≡ pos 0 → p ≡ pos 0
            left {n} {p} {q} {s} e f g k =
                let gone : q *ℤ s ≡ pos 0 = ap (λ (z : ℤ). q *ℤ z) k ∙ mul_zero q in
                omega (arith, linear)

            neither : (dot_of one.wall way.way ≡ pos 0) ⊎ (dot_of one.end d ≡ pos 0) → ⊥
            neither (inl g) = one.crossed g
            neither (inr g) = omega (arith, linear, one.ahead)

-- of each u ahead of the demand some candidate's quotient is at most u's
pub some_candidate : (h : Vec3 → ℤ) (directions : List Vec3) → IsDirectionList h directions →
    (d u : Vec3) → pos 1 ≤ℤ dot_of u d → Candidate h directions d u
some_candidate h directions is d u ahead = from_walls (two_walls h directions is d u ahead)
  where
    from_walls : TwoWalls h directions d u → Candidate h directions d u
    from_walls walls =
        by_lt_z (pos 0) (dot_of (cross_of walls.first walls.second) d)
        (λ g. chosen (cross_of walls.first walls.second) (inl refl) along (omega (arith, linear)))
        (λ g. chosen (opposite_of (cross_of walls.first walls.second)) (inr refl)
        (along_opposite (cross_of walls.first walls.second) walls.end along)
        (turned (opposite_dot (cross_of walls.first walls.second) d) g walls.apart))
      where
        along : Along (cross_of walls.first walls.second) walls.end
        along = along_normal walls.first walls.second walls.end walls.on_first walls.on_second

        turned : {a b : ℤ} → b ≡ neg_ℤ a → a ≤ℤ pos 0 → a ≢ pos 0 → pos 1 ≤ℤ b
        turned {a} {b} e g n = by_lt_z a (pos 0) (λ k. omega (arith, linear))
            (λ k. absurd (n (omega (arith, linear))))

        positive : {a : ℤ} → pos 1 ≤ℤ a → pos 0 <ℤ a
        positive {a} g = omega (arith, linear)

        chosen : (c : Vec3) → (c ≡ cross_of walls.first walls.second) ⊎
            (c ≡ opposite_of (cross_of walls.first walls.second)) → Along c walls.end →
            pos 1 ≤ℤ dot_of c d → Candidate h directions d u
        chosen c crossed along ahead_c = record {
          first = walls.first;
          second = walls.second;
          normal = c;
          first_among = walls.first_among;
          second_among = walls.second_among;
          crossed = crossed;
          ahead = ahead_c;
          quotient = fraction_le_trans (h c) (dot_of c d) (h walls.end) (dot_of walls.end d) (h u)
              (dot_of u d) (positive ahead_c) (positive walls.ahead) (positive ahead)
              (normal_quotient h directions is d walls.end c along walls.ahead ahead_c)
              walls.quotient;
        }
