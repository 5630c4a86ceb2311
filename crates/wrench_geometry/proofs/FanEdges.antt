-- On a fan the signs of a vector on the edges settle where it is greatest.
use Rattle.std.proofs.Common.{◌≡◌, ◌≢◌, ◌⊎◌, inl, inr, ℕ, zero, suc, ◌+◌, ◌-◌, ◌<◌, ◌≤◌, ℤ, pos}
use Rattle.std.proofs.Common.{neg_ℤ, ◌+ℤ◌, ◌-ℤ◌, ◌*ℤ◌, ◌≤ℤ◌, ◌<ℤ◌, List, [], ◌∷◌, length, map, get_or}
use Rattle.std.proofs.Common.{Bool, true, false, int_le, refl, sym, subst, ap, ◌∙◌, arith}
use Rattle.std.proofs.Math.Dec.{leb}
use Rattle.std.proofs.lemmas.Bool.{and_parts}
use Rattle.std.proofs.lemmas.Bool.Decides.{nat_tests}
use Rattle.std.proofs.lemmas.Int.{by_lt_z}
use Rattle.std.proofs.lemmas.List.{length-map}
use Rattle.std.specs.List.{list_all}
use Rattle.int_ring.proofs.Laws.{linear, mul_nonneg, mul_pos, mul_zero, zero_mul}
use Rattle.int_ring.proofs.Order.{mul_neg_pos, mul_nonpos, zero_factor}
use Rattle.int_ring.proofs.Ring.{ring, reads}
use Rattle.plant_model.specs.declared.thrust.Point.{Point}
use Rattle.plant_model.specs.Rings.{cross, origin, side, way}
use Rattle.thrust_region.proofs.Plane.{form}
use Rattle.thrust_region.proofs.Signs.{at_most_from_test}
use Rattle.wrench_geometry.specs.declared.vector.Vec3.{Vec3}
use Rattle.wrench_geometry.specs.Fans.{HaveOneLever, are_left, are_left_from, corner_at, is_fan}
use Rattle.wrench_geometry.specs.Fans.{thrust_of}
use Rattle.wrench_geometry.specs.Vectors.{dot_of, zero_vector}
use Rattle.wrench_geometry.specs.Wrenches.{image_at, image_of}

-- ---- walks round a cycle

or_below : (i e : ℕ) → i ≤ suc e → (i ≡ suc e) ⊎ (i ≤ e)
or_below i e h = by_test (leb i e) refl
  where
    by_test : (b : Bool) → leb i e ≡ b → (i ≡ suc e) ⊎ (i ≤ e)
    by_test true t = inr (grind (arith, nat_tests))
    by_test false t = inl (grind (arith, nat_tests))

or_above : (start i : ℕ) → start ≤ i → (start ≡ i) ⊎ (suc start ≤ i)
or_above start i h = by_test (leb (suc start) i) refl
  where
    by_test : (b : Bool) → leb (suc start) i ≡ b → (start ≡ i) ⊎ (suc start ≤ i)
    by_test true t = inr (grind (arith, nat_tests))
    by_test false t = inl (grind (arith, nat_tests))

-- the second number is 0 or has the sign of the first
pub record Follows (a b : ℤ) : Type 0 where
  pub above : pos 0 ≤ℤ a → pos 0 ≤ℤ b
  pub below : a ≤ℤ pos 0 → b ≤ℤ pos 0

flat_follows : {a b c d : ℤ} → Follows (a -ℤ b) (c -ℤ d) → a ≡ b → c ≡ d
flat_follows {a} {b} {c} {d} f e =
    let above : pos 0 ≤ℤ (c -ℤ d) = f.above (omega (arith, linear)) in
    let below : (c -ℤ d) ≤ℤ pos 0 = f.below (omega (arith, linear)) in
    omega (arith, linear)

module _ (f g : ℕ → ℤ) (n : ℕ) (a b : ℤ)
    (follows : (i : ℕ) → i < n → Follows (f (suc i) -ℤ f i) (g (suc i) -ℤ g i))
    (top : (i : ℕ) → i ≤ n → f i ≤ℤ a) where
  -- f falls from its greatest value, where g has the value b
  pub record Falls : Type 0 where
    pub place : ℕ
    pub there : place < n
    pub level : f place ≡ a
    pub same : g place ≡ b
    pub falls : f (suc place) <ℤ f place

  -- f rises to its greatest value, where g has the value b
  pub record Rises : Type 0 where
    pub place : ℕ
    pub there : place < n
    pub level : f (suc place) ≡ a
    pub same : g (suc place) ≡ b
    pub rises : f place <ℤ f (suc place)

  abbrev IsLevel : ℕ → Type 0
  IsLevel i = (f i ≡ a) × (g i ≡ b)

  next_level : (i : ℕ) → i < n → IsLevel i → f i ≤ℤ f (suc i) → IsLevel (suc i)
  next_level i there level more =
      let high : f (suc i) ≤ℤ a = top (suc i) (omega arith) in
      let e : f (suc i) ≡ f i = meets level.0 high more in
      (e ∙ level.0, flat_follows (follows i there) e ∙ level.1)
    where
      meets : {p q r : ℤ} → p ≡ r → q ≤ℤ r → p ≤ℤ q → q ≡ p
      meets {p} {q} {r} e h k = omega (arith, linear)

  last_level : (i : ℕ) → i < n → IsLevel (suc i) → f (suc i) ≤ℤ f i → IsLevel i
  last_level i there level more =
      let high : f i ≤ℤ a = top i (omega arith) in
      let e : f (suc i) ≡ f i = meets level.0 high more in
      (sym e ∙ level.0, sym (flat_follows (follows i there) e) ∙ level.1)
    where
      meets : {p q r : ℤ} → p ≡ r → q ≤ℤ r → p ≤ℤ q → p ≡ q
      meets {p} {q} {r} e h k = omega (arith, linear)

  up : (count start : ℕ) → start + count ≤ n → IsLevel start →
      Falls ⊎ ((i : ℕ) → start ≤ i → i ≤ start + count → IsLevel i)
  up zero start fits level =
      inr (λ i low high. let same : start ≡ i = omega arith in subst IsLevel same level)
  up (suc count) start fits level =
      by_lt_z (f (suc start)) (f start)
      (λ less. inl (record {
        place = start;
        there = omega arith;
        level = level.0;
        same = level.1;
        falls = less;
      }))
      (λ more. on (up count (suc start) (omega arith)
      (next_level start (omega arith) level more)))
    where
      on : Falls ⊎ ((i : ℕ) → suc start ≤ i → i ≤ suc start + count → IsLevel i) →
          Falls ⊎ ((i : ℕ) → start ≤ i → i ≤ start + suc count → IsLevel i)
      on (inl fall) = inl fall
      on (inr later) = inr (λ i low high. elim (or_above start i low)
          [ inl same ↦ subst IsLevel same level | inr past ↦ later i past (omega arith) ])

  down : (end : ℕ) → end ≤ n → IsLevel end → Rises ⊎ ((i : ℕ) → i ≤ end → IsLevel i)
  down zero fits level =
      inr (λ i high. let same : zero ≡ i = omega arith in subst IsLevel same level)
  down (suc e) fits level =
      by_lt_z (f e) (f (suc e))
      (λ less. inl (record {
        place = e;
        there = omega arith;
        level = level.0;
        same = level.1;
        rises = less;
      }))
      (λ more. on (down e (omega arith) (last_level e (omega arith) level more)))
    where
      on : Rises ⊎ ((i : ℕ) → i ≤ e → IsLevel i) → Rises ⊎ ((i : ℕ) → i ≤ suc e → IsLevel i)
      on (inl rise) = inl rise
      on (inr before) = inr (λ i high. elim (or_below i e high)
          [ inl same ↦ subst IsLevel (sym same) level | inr below ↦ before i below ])

  abbrev AllLevel : Type 0
  AllLevel = (i : ℕ) → i ≤ n → IsLevel i

  -- round a cycle f is the same everywhere, or it rises to its greatest value and falls from it
  pub round : f n ≡ f zero → g n ≡ g zero → (k : ℕ) → k ≤ n → IsLevel k →
      AllLevel ⊎ (Falls × Rises)
  round f_closes g_closes k fits level = first (up (n - k) k (omega arith) level)
    where
      with_fall : Falls → IsLevel n → AllLevel ⊎ (Falls × Rises)
      with_fall fall at_end =
          elim (down n (omega arith) at_end)
          [ inl rise ↦ inr (fall, rise) | inr all ↦ inl all ]

      at_zero : IsLevel n → IsLevel zero
      at_zero level = (sym f_closes ∙ level.0, sym g_closes ∙ level.1)

      at_end : IsLevel zero → IsLevel n
      at_end level = (f_closes ∙ level.0, g_closes ∙ level.1)

      before : Falls → Rises ⊎ ((i : ℕ) → i ≤ k → IsLevel i) → AllLevel ⊎ (Falls × Rises)
      before fall (inl rise) = inr (fall, rise)
      before fall (inr flat) = with_fall fall (at_end (flat zero (omega arith)))

      again : IsLevel n → Falls ⊎ ((i : ℕ) → zero ≤ i → i ≤ zero + n → IsLevel i) →
          AllLevel ⊎ (Falls × Rises)
      again level (inl fall) = with_fall fall level
      again level (inr flat) = inl (λ i h. flat i (omega arith) (omega arith))

      first : Falls ⊎ ((i : ℕ) → k ≤ i → i ≤ k + (n - k) → IsLevel i) →
          AllLevel ⊎ (Falls × Rises)
      first (inl fall) = before fall (down k fits level)
      first (inr flat) =
          let end : IsLevel n = flat n fits (omega arith) in
          again end (up n zero (omega arith) (at_zero end))

-- ---- forms in the plane, between an edge that rises to their greatest value and one that falls

form_way : (c d : ℤ) (a b : Point) → form c d (way a b) ≡ form c d b -ℤ form c d a
form_way c d a b = ring (c ∷ d ∷ a.x ∷ a.y ∷ b.x ∷ b.y ∷ []) (search reads depth 40) refl

exchanged : (a b c d : ℤ) (x y : Point) →
    form a b x *ℤ form c d y -ℤ form a b y *ℤ form c d x ≡ (a *ℤ d -ℤ b *ℤ c) *ℤ cross x y
exchanged a b c d x y =
    ring (a ∷ b ∷ c ∷ d ∷ x.x ∷ x.y ∷ y.x ∷ y.y ∷ []) (search reads depth 40) refl

between : (c d : ℤ) (e h y : Point) →
    cross e h *ℤ form c d y ≡ cross e y *ℤ form c d h -ℤ cross h y *ℤ form c d e
between c d e h y =
    ring (c ∷ d ∷ e.x ∷ e.y ∷ h.x ∷ h.y ∷ y.x ∷ y.y ∷ []) (search reads depth 40) refl

not_above : (k z : ℤ) → pos 0 <ℤ k → (k *ℤ z) ≤ℤ pos 0 → z ≤ℤ pos 0
not_above k z above h =
    by_lt_z (pos 0) z (λ g. absurd (let m = mul_pos k z above g in omega (arith, linear))) (λ g. g)

product_of_below : (y z : ℤ) → y ≤ℤ pos 0 → z ≤ℤ pos 0 → pos 0 ≤ℤ (y *ℤ z)
product_of_below y z h k =
    let p : pos 0 ≤ℤ (neg_ℤ y *ℤ neg_ℤ z) =
    mul_nonneg (neg_ℤ y) (neg_ℤ z) (omega (arith, linear)) (omega (arith, linear)) in
    let e : neg_ℤ y *ℤ neg_ℤ z ≡ y *ℤ z = ring (y ∷ z ∷ []) (search reads depth 40) refl in
    omega (arith, linear)

-- along one line
on_line : (fh fy gh gy : ℤ) → fh *ℤ gy -ℤ fy *ℤ gh ≡ pos 0 → fh <ℤ pos 0 → fy ≤ℤ pos 0 →
    gh ≤ℤ pos 0 → gy ≤ℤ pos 0
on_line fh fy gh gy e fall below follow =
    by_lt_z (pos 0) gy
    (λ g. absurd (let m = mul_neg_pos fh gy fall g in
    let p = product_of_below fy gh below follow in omega (arith, linear))) (λ g. g)

-- in a cone
in_cone : (fe fh fy ge gh gy turn ey hy det : ℤ) → turn *ℤ fy ≡ ey *ℤ fh -ℤ hy *ℤ fe →
    turn *ℤ gy ≡ ey *ℤ gh -ℤ hy *ℤ ge → fe *ℤ gy -ℤ fy *ℤ ge ≡ det *ℤ ey → pos 0 ≤ℤ turn →
    pos 0 ≤ℤ ey → pos 0 ≤ℤ hy → pos 0 <ℤ fe → fh <ℤ pos 0 → fy ≤ℤ pos 0 → pos 0 ≤ℤ ge →
    gh ≤ℤ pos 0 → gy ≤ℤ pos 0
in_cone fe fh fy ge gh gy turn ey hy det ef eg ex turns e_left h_left rise fall below ge_0 gh_0 =
    by_lt_z (pos 0) turn strictly (λ g. flat (omega (arith, linear)))
  where
    strictly : pos 0 <ℤ turn → gy ≤ℤ pos 0
    strictly above =
        let p = mul_nonpos ey gh e_left gh_0 in
        let q = mul_nonneg hy ge h_left ge_0 in
        not_above turn gy above (omega (arith, linear))

    flat : turn ≡ pos 0 → gy ≤ℤ pos 0
    flat none =
        let gone : turn *ℤ fy ≡ pos 0 = ap (λ (z : ℤ). z *ℤ fy) none ∙ zero_mul fy in
        let p = mul_nonpos ey fh e_left (omega (arith, linear)) in
        let q = mul_nonneg hy fe h_left (omega (arith, linear)) in
        let product : ey *ℤ fh ≡ pos 0 = omega (arith, linear) in
        along (zero_factor ey fh product)
      where
        along : (ey ≡ pos 0) ⊎ (fh ≡ pos 0) → gy ≤ℤ pos 0
        along (inl e) =
            let zero_turn : det *ℤ ey ≡ pos 0 = ap (λ (z : ℤ). det *ℤ z) e ∙ mul_zero det in
            let p = mul_nonpos ge fy ge_0 below in
            let turned : fy *ℤ ge ≡ ge *ℤ fy =
            ring (fy ∷ ge ∷ []) (search reads depth 40) refl in
            not_above fe gy rise (omega (arith, linear))
        along (inr e) = absurd (omega (arith, linear))

-- o0 to o1 is an edge that rises to the greatest value, s0 to s1 one that falls from it, v has it
pub record IsBeside (a b c d : ℤ) (o0 o1 s0 s1 v p : Point) : Type 0 where
  pub rises : form a b o0 <ℤ form a b o1
  pub risen : form a b o1 ≡ form a b v
  pub risen_too : form c d o1 ≡ form c d v
  pub follows_up : pos 0 ≤ℤ (form c d o1 -ℤ form c d o0)
  pub falls : form a b s1 <ℤ form a b s0
  pub level : form a b s0 ≡ form a b v
  pub level_too : form c d s0 ≡ form c d v
  pub follows_down : (form c d s1 -ℤ form c d s0) ≤ℤ pos 0
  pub below : form a b p ≤ℤ form a b v
  pub left_of_first : pos 0 ≤ℤ side o0 o1 p
  pub left_of_second : pos 0 ≤ℤ side s0 s1 p
  pub turns : pos 0 ≤ℤ side o0 o1 s1

module _ (a b c d : ℤ) (o0 o1 s0 s1 v p : Point) (is : IsBeside a b c d o0 o1 s0 s1 v p) where
  abbrev det : ℤ
  det = a *ℤ d -ℤ b *ℤ c

  ends : {r s : ℤ} → r ≡ s -ℤ form c d v → s ≡ form c d p → r ≤ℤ pos 0 → form c d p ≤ℤ form c d v
  ends {r} {s} e f g = omega (arith, linear)

  at_end : form c d (way v p) ≤ℤ pos 0 → form c d p ≤ℤ form c d v
  at_end g = ends (form_way c d v p) refl g

  below_0 : form a b (way v p) ≤ℤ pos 0
  below_0 = less (form_way a b v p) is.below
    where
      less : {r s t : ℤ} → r ≡ s -ℤ t → s ≤ℤ t → r ≤ℤ pos 0
      less {r} {s} {t} e g = omega (arith, linear)

  fall_0 : form a b (way s0 s1) <ℤ pos 0
  fall_0 = less (form_way a b s0 s1) is.falls
    where
      less : {r s t : ℤ} → r ≡ s -ℤ t → s <ℤ t → r <ℤ pos 0
      less {r} {s} {t} e g = omega (arith, linear)

  rise_0 : pos 0 <ℤ form a b (way o0 o1)
  rise_0 = more (form_way a b o0 o1) is.rises
    where
      more : {r s t : ℤ} → r ≡ s -ℤ t → t <ℤ s → pos 0 <ℤ r
      more {r} {s} {t} e g = omega (arith, linear)

  up_0 : pos 0 ≤ℤ form c d (way o0 o1)
  up_0 = subst (λ (z : ℤ). pos 0 ≤ℤ z) (sym (form_way c d o0 o1)) is.follows_up

  down_0 : form c d (way s0 s1) ≤ℤ pos 0
  down_0 = subst (λ (z : ℤ). z ≤ℤ pos 0) (sym (form_way c d s0 s1)) is.follows_down

  flat : det ≡ pos 0 → form c d p ≤ℤ form c d v
  flat none =
      at_end (on_line (form a b (way s0 s1)) (form a b (way v p)) (form c d (way s0 s1))
      (form c d (way v p))
      (exchanged a b c d (way s0 s1) (way v p)
      ∙ ap (λ (z : ℤ). z *ℤ cross (way s0 s1) (way v p)) none
      ∙ zero_mul (cross (way s0 s1) (way v p)))
      fall_0 below_0 down_0)

  -- the two forms tell points apart
  same_as : det ≢ pos 0 → (q : Point) → form a b q ≡ form a b v → form c d q ≡ form c d v → q ≡ v
  same_as apart q e f =
      let at_x : q.x ≡ v.x = along q.x v.x first in
      let at_y : q.y ≡ v.y = along q.y v.y second in
      λ i. record { x = at_x i; y = at_y i }
    where
      none : {r s t : ℤ} → r ≡ s -ℤ t → s ≡ t → r ≡ pos 0
      none {r} {s} {t} e f = omega (arith, linear)

      first_0 : form a b (way v q) ≡ pos 0
      first_0 = none (form_way a b v q) e

      second_0 : form c d (way v q) ≡ pos 0
      second_0 = none (form_way c d v q) f

      cramer : (m k z r s : ℤ) → det *ℤ z ≡ m *ℤ r -ℤ k *ℤ s → r ≡ pos 0 → s ≡ pos 0 → z ≡ pos 0
      cramer m k z r s e f g =
          let p : m *ℤ r ≡ pos 0 = ap (λ (t : ℤ). m *ℤ t) f ∙ mul_zero m in
          let q : k *ℤ s ≡ pos 0 = ap (λ (t : ℤ). k *ℤ t) g ∙ mul_zero k in
          let none : det *ℤ z ≡ pos 0 = omega (arith, linear) in
          elim (zero_factor det z none) [ inl h ↦ absurd (apart h) | inr h ↦ h ]

      along : (r s : ℤ) → (r -ℤ s) ≡ pos 0 → r ≡ s
      along r s e = omega (arith, linear)

      first : (q.x -ℤ v.x) ≡ pos 0
      first = cramer d b (q.x -ℤ v.x) (form a b (way v q)) (form c d (way v q))
          (ring (a ∷ b ∷ c ∷ d ∷ q.x ∷ q.y ∷ v.x ∷ v.y ∷ []) (search reads depth 40) refl)
          first_0 second_0

      second : (q.y -ℤ v.y) ≡ pos 0
      second = cramer a c (q.y -ℤ v.y) (form c d (way v q)) (form a b (way v q))
          (ring (a ∷ b ∷ c ∷ d ∷ q.x ∷ q.y ∷ v.x ∷ v.y ∷ []) (search reads depth 40) refl)
          second_0 first_0

  from_end : (r s q : Point) → side r s q ≡ cross (way r s) (way s q)
  from_end r s q = ring (r.x ∷ r.y ∷ s.x ∷ s.y ∷ q.x ∷ q.y ∷ []) (search reads depth 40) refl

  apart_too : det ≢ pos 0 → form c d p ≤ℤ form c d v
  apart_too apart =
      let rise_end : o1 ≡ v = same_as apart o1 is.risen is.risen_too in
      let fall_start : s0 ≡ v = same_as apart s0 is.level is.level_too in
      let e_left : pos 0 ≤ℤ cross (way o0 o1) (way v p) =
      subst (λ (z : ℤ). pos 0 ≤ℤ z)
      (from_end o0 o1 p ∙ ap (λ (q : Point). cross (way o0 o1) (way q p)) rise_end)
      is.left_of_first in
      let h_left : pos 0 ≤ℤ cross (way s0 s1) (way v p) =
      subst (λ (z : ℤ). pos 0 ≤ℤ z)
      (ap (λ (q : Point). cross (way s0 s1) (way q p)) fall_start) is.left_of_second in
      let turn : pos 0 ≤ℤ cross (way o0 o1) (way s0 s1) =
      subst (λ (z : ℤ). pos 0 ≤ℤ z)
      (from_end o0 o1 s1
      ∙ ap (λ (q : Point). cross (way o0 o1) (way q s1)) (rise_end ∙ sym fall_start))
      is.turns in
      at_end (in_cone (form a b (way o0 o1)) (form a b (way s0 s1)) (form a b (way v p))
      (form c d (way o0 o1)) (form c d (way s0 s1)) (form c d (way v p))
      (cross (way o0 o1) (way s0 s1)) (cross (way o0 o1) (way v p))
      (cross (way s0 s1) (way v p)) det
      (between a b (way o0 o1) (way s0 s1) (way v p))
      (between c d (way o0 o1) (way s0 s1) (way v p))
      (exchanged a b c d (way o0 o1) (way v p)) turn e_left h_left rise_0 fall_0 below_0 up_0
      down_0)

  pub beside : form c d p ≤ℤ form c d v
  beside =
      by_lt_z det (pos 0) (λ g. apart_too (λ e. omega (arith, linear)))
      (λ g. by_lt_z (pos 0) det (λ h. apart_too (λ e. omega (arith, linear)))
      (λ h. flat (omega (arith, linear))))

-- ---- fans

-- the corners of the cycle: the origin, the points, and the origin again
abbrev pub corner_of : List Point → ℕ → Point
corner_of points zero = origin
corner_of points (suc i) = get_or points i origin

left_at : (a b : Point) (points : List Point) (j : ℕ) → pos 0 ≤ℤ side a b origin →
    list_all (λ p. int_le (pos 0) (side a b p)) points ≡ true →
    pos 0 ≤ℤ side a b (get_or points j origin)
left_at a b [] j first all = first
left_at a b (p ∷ points) zero first all =
    at_most_from_test (pos 0) (side a b p)
    (and_parts (int_le (pos 0) (side a b p))
    (list_all (λ q. int_le (pos 0) (side a b q)) points) all).0
left_at a b (p ∷ points) (suc j) first all =
    left_at a b points j first
    (and_parts (int_le (pos 0) (side a b p))
    (list_all (λ q. int_le (pos 0) (side a b q)) points) all).1

left_of_corner : (points : List Point) (a b : Point) → are_left points a b ≡ true → (j : ℕ) →
    pos 0 ≤ℤ side a b (corner_of points j)
left_of_corner points a b are j =
    let both = and_parts (int_le (pos 0) (side a b origin))
    (list_all (λ p. int_le (pos 0) (side a b p)) points) are in
    at (at_most_from_test (pos 0) (side a b origin) both.0) both.1 j
  where
    at : pos 0 ≤ℤ side a b origin → list_all (λ p. int_le (pos 0) (side a b p)) points ≡ true →
        (j : ℕ) → pos 0 ≤ℤ side a b (corner_of points j)
    at first all zero = first
    at first all (suc j) = left_at a b points j first all

-- a point, the points after it, and the origin
abbrev from_on : Point → List Point → ℕ → Point
from_on a rest zero = a
from_on a rest (suc i) = get_or rest i origin

left_from_on : (points : List Point) (a : Point) (rest : List Point) (i : ℕ) → i ≤ length rest →
    are_left_from points a rest ≡ true → (j : ℕ) →
    pos 0 ≤ℤ side (from_on a rest i) (from_on a rest (suc i)) (corner_of points j)
left_from_on points a [] zero h are j = left_of_corner points a origin are j
left_from_on points a [] (suc i) h are j = absurd (omega arith)
left_from_on points a (b ∷ rest) zero h are j =
    left_of_corner points a b
    (and_parts (are_left points a b) (are_left_from points b rest) are).0 j
left_from_on points a (b ∷ rest) (suc zero) h are j =
    left_from_on points b rest zero (omega arith)
    (and_parts (are_left points a b) (are_left_from points b rest) are).1 j
left_from_on points a (b ∷ rest) (suc (suc i)) h are j =
    left_from_on points b rest (suc i) (omega arith)
    (and_parts (are_left points a b) (are_left_from points b rest) are).1 j

pub left_of_edges : (points : List Point) → is_fan points ≡ true → (i : ℕ) → i ≤ length points →
    (j : ℕ) → pos 0 ≤ℤ side (corner_of points i) (corner_of points (suc i)) (corner_of points j)
left_of_edges points fan zero h j = left_from_on points origin points zero h fan j
left_of_edges points fan (suc i) h j = left_from_on points origin points (suc i) h fan j

past_end : (points : List Point) → get_or points (length points) origin ≡ origin
past_end [] = refl
past_end (p ∷ points) = past_end points

-- where a form is greatest in the plane, another that follows it on the edges is greatest too
module _ (a b c d : ℤ) (points : List Point) (fan : is_fan points ≡ true)
    (follows : (i : ℕ) → i ≤ length points →
    Follows (form a b (corner_of points (suc i)) -ℤ form a b (corner_of points i))
    (form c d (corner_of points (suc i)) -ℤ form c d (corner_of points i))) (k : ℕ)
    (k_there : k ≤ length points)
    (top : (i : ℕ) → form a b (corner_of points i) ≤ℤ form a b (corner_of points k)) where
  pub greatest_in_plane : (j : ℕ) → j ≤ length points →
      form c d (corner_of points j) ≤ℤ form c d (corner_of points k)
  greatest_in_plane j there =
      elim (round (λ i. form a b (corner_of points i)) (λ i. form c d (corner_of points i))
      (suc (length points)) (form a b (corner_of points k)) (form c d (corner_of points k))
      (λ i h. follows i (omega arith)) (λ i h. top i)
      (ap (form a b) (past_end points)) (ap (form c d) (past_end points)) k (omega arith)
      (refl, refl)) [
        | inl level ↦ same (level j (omega arith)).1
        | inr both ↦ beside a b c d (corner_of points both.1.place)
            (corner_of points (suc both.1.place)) (corner_of points both.0.place)
            (corner_of points (suc both.0.place)) (corner_of points k) (corner_of points j)
            (record {
              rises = both.1.rises;
              risen = both.1.level;
              risen_too = both.1.same;
              follows_up = (follows both.1.place (before both.1.there)).above (up both.1.rises);
              falls = both.0.falls;
              level = both.0.level;
              level_too = both.0.same;
              follows_down = (follows both.0.place (before both.0.there)).below
                  (down both.0.falls);
              below = top j;
              left_of_first = left_of_edges points fan both.1.place (before both.1.there) j;
              left_of_second = left_of_edges points fan both.0.place (before both.0.there) j;
              turns = left_of_edges points fan both.1.place (before both.1.there)
                  (suc both.0.place);
            })
      ]
    where
      same : {r s : ℤ} → r ≡ s → r ≤ℤ s
      same {r} {s} e = omega (arith, linear)

      before : {i m : ℕ} → i < suc m → i ≤ m
      before {i} {m} h = omega arith

      up : {r s : ℤ} → r <ℤ s → pos 0 ≤ℤ (s -ℤ r)
      up {r} {s} h = omega (arith, linear)

      down : {r s : ℤ} → r <ℤ s → (r -ℤ s) ≤ℤ pos 0
      down {r} {s} h = omega (arith, linear)

-- ---- images of a fan

-- what a vector's products with images at a lever are, as a form of the thrusts
abbrev form_x : Point → Vec3 → ℤ
form_x lever w = w.x -ℤ lever.y *ℤ w.z

abbrev form_y : Point → Vec3 → ℤ
form_y lever w = w.y +ℤ lever.x *ℤ w.z

image_form : (lever p : Point) (w : Vec3) →
    dot_of w (image_of lever p) ≡ form (form_x lever w) (form_y lever w) p
image_form lever p w =
    ring (lever.x ∷ lever.y ∷ p.x ∷ p.y ∷ w.x ∷ w.y ∷ w.z ∷ []) (search reads depth 40) refl

origin_form : (c d : ℤ) (w : Vec3) → dot_of w zero_vector ≡ form c d origin
origin_form c d w = ring (c ∷ d ∷ w.x ∷ w.y ∷ w.z ∷ []) (search reads depth 40) refl

image_at_form : (lever : Point) (points : List Point) (w : Vec3) (i : ℕ) →
    dot_of w (image_at (map (image_of lever) points) i)
    ≡ form (form_x lever w) (form_y lever w) (get_or points i origin)
image_at_form lever [] w i = origin_form (form_x lever w) (form_y lever w) w
image_at_form lever (p ∷ points) w zero = image_form lever p w
image_at_form lever (p ∷ points) w (suc i) = image_at_form lever points w i

corner_form : (lever : Point) (points : List Point) (w : Vec3) (i : ℕ) →
    dot_of w (corner_at (map (image_of lever) points) i)
    ≡ form (form_x lever w) (form_y lever w) (corner_of points i)
corner_form lever points w zero = origin_form (form_x lever w) (form_y lever w) w
corner_form lever points w (suc i) = image_at_form lever points w i

-- the products of a vector with the edges follow those of another
abbrev pub EdgesFollow : List Vec3 → ℕ → Vec3 → Vec3 → Type 0
EdgesFollow list count u w =
    (i : ℕ) → i ≤ count →
    Follows (dot_of u (corner_at list (suc i)) -ℤ dot_of u (corner_at list i))
    (dot_of w (corner_at list (suc i)) -ℤ dot_of w (corner_at list i))

at_lever : (lever : Point) (points : List Point) → is_fan points ≡ true → (u w : Vec3) →
    EdgesFollow (map (image_of lever) points) (length points) u w → (k : ℕ) → k ≤ length points →
    ((i : ℕ) → dot_of u (corner_at (map (image_of lever) points) i)
    ≤ℤ dot_of u (corner_at (map (image_of lever) points) k)) → (j : ℕ) → j ≤ length points →
    dot_of w (corner_at (map (image_of lever) points) j)
    ≤ℤ dot_of w (corner_at (map (image_of lever) points) k)
at_lever lever points fan u w follows k k_there top j j_there =
    ordered (sym (is w j)) (sym (is w k))
    (greatest_in_plane (form_x lever u) (form_y lever u) (form_x lever w) (form_y lever w) points
    fan
    (λ i h. follows_as (is u (suc i)) (is u i) (is w (suc i)) (is w i) (follows i h)) k k_there
    (λ i. ordered (is u i) (is u k) (top i)) j j_there)
  where
    is : (v : Vec3) (i : ℕ) → dot_of v (corner_at (map (image_of lever) points) i)
        ≡ form (form_x lever v) (form_y lever v) (corner_of points i)
    is v i = corner_form lever points v i

    ordered : {p q r s : ℤ} → p ≡ r → q ≡ s → p ≤ℤ q → r ≤ℤ s
    ordered {p} {q} {r} {s} e f h = omega (arith, linear)

    follows_as : {p q r s p' q' r' s' : ℤ} → p ≡ p' → q ≡ q' → r ≡ r' → s ≡ s' →
        Follows (p -ℤ q) (r -ℤ s) → Follows (p' -ℤ q') (r' -ℤ s')
    follows_as {p} {q} {r} {s} {p'} {q'} {r'} {s'} d e f g h = record {
      above = λ l. let m : pos 0 ≤ℤ (r -ℤ s) = h.above (omega (arith, linear)) in
          omega (arith, linear);
      below = λ l. let m : (r -ℤ s) ≤ℤ pos 0 = h.below (omega (arith, linear)) in
          omega (arith, linear);
    }

-- where a vector is greatest on the images of a fan, another that follows it on the edges is too
pub greatest_on_fan : (list : List Vec3) → HaveOneLever list → is_fan (map thrust_of list) ≡ true →
    (u w : Vec3) → EdgesFollow list (length list) u w → (k : ℕ) → k ≤ length list →
    ((i : ℕ) → dot_of u (corner_at list i) ≤ℤ dot_of u (corner_at list k)) → (j : ℕ) →
    j ≤ length list → dot_of w (corner_at list j) ≤ℤ dot_of w (corner_at list k)
greatest_on_fan list one fan u w follows k k_there top j j_there =
    let points : List Point = map thrust_of list in
    let count : length list ≡ length points = sym (length-map list thrust_of) in
    let P : List Vec3 → ℕ → Type 0 = λ l n.
    EdgesFollow l n u w → k ≤ n →
    ((i : ℕ) → dot_of u (corner_at l i) ≤ℤ dot_of u (corner_at l k)) → j ≤ n →
    dot_of w (corner_at l j) ≤ℤ dot_of w (corner_at l k) in
    subst (λ (l : List Vec3). P l (length list)) (sym one.are)
    (subst (P (map (image_of one.lever) points)) (sym count)
    (λ f h t g. at_lever one.lever points fan u w f k h t j g)) follows k_there top j_there
