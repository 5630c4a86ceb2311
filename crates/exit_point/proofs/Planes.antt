-- How a demand is shared among a corner on a least cut and two on the edge where the ray's rest
-- leaves the cut's face.
use Rattle.std.proofs.Common.{◌≡◌, ℤ, pos, ◌+ℤ◌, ◌-ℤ◌, ◌*ℤ◌, ◌<ℤ◌, [], ◌∷◌, sym, ap, ap₂, ◌∙◌, refl}
use Rattle.std.proofs.Common.{arith}
use Rattle.int_ring.proofs.Laws.{linear}
use Rattle.int_ring.proofs.Order.{cancel_left}
use Rattle.int_ring.proofs.Ring.{ring, reads}
use Rattle.wrench_geometry.specs.declared.vector.Vec3.{Vec3}
use Rattle.wrench_geometry.specs.Vectors.{cross_of, det_of, dot_of, scaled_by, sum_of}

-- ---- a vector that is perpendicular to two others is along their normal

-- Lagrange's identity, where x is perpendicular to w and u, and g is their normal
pub along_normal : (w u x e : Vec3) → dot_of w x ≡ pos 0 → dot_of u x ≡ pos 0 →
    dot_of (cross_of w u) (cross_of w u) *ℤ dot_of e x ≡ dot_of (cross_of w u) x *ℤ dot_of e
    (cross_of w u)
along_normal w u x e flat level =
    let g = cross_of w u in
    let lagrange : (g x e : Vec3) → dot_of g g *ℤ dot_of e x -ℤ dot_of g x *ℤ dot_of e g ≡
    (g.y *ℤ e.z -ℤ g.z *ℤ e.y) *ℤ (g.y *ℤ x.z -ℤ g.z *ℤ x.y) +ℤ
    (g.z *ℤ e.x -ℤ g.x *ℤ e.z) *ℤ (g.z *ℤ x.x -ℤ g.x *ℤ x.z) +ℤ
    (g.x *ℤ e.y -ℤ g.y *ℤ e.x) *ℤ (g.x *ℤ x.y -ℤ g.y *ℤ x.x) =
    λ (g : Vec3) (x : Vec3) (e : Vec3).
    ring (g.x ∷ g.y ∷ g.z ∷ x.x ∷ x.y ∷ x.z ∷ e.x ∷ e.y ∷ e.z ∷ [])
    (search reads depth 40) refl in
    let in_x : g.y *ℤ x.z -ℤ g.z *ℤ x.y ≡ u.x *ℤ dot_of w x -ℤ w.x *ℤ dot_of u x =
    ring (w.x ∷ w.y ∷ w.z ∷ u.x ∷ u.y ∷ u.z ∷ x.x ∷ x.y ∷ x.z ∷ [])
    (search reads depth 40) refl in
    let in_y : g.z *ℤ x.x -ℤ g.x *ℤ x.z ≡ u.y *ℤ dot_of w x -ℤ w.y *ℤ dot_of u x =
    ring (w.x ∷ w.y ∷ w.z ∷ u.x ∷ u.y ∷ u.z ∷ x.x ∷ x.y ∷ x.z ∷ [])
    (search reads depth 40) refl in
    let in_z : g.x *ℤ x.y -ℤ g.y *ℤ x.x ≡ u.z *ℤ dot_of w x -ℤ w.z *ℤ dot_of u x =
    ring (w.x ∷ w.y ∷ w.z ∷ u.x ∷ u.y ∷ u.z ∷ x.x ∷ x.y ∷ x.z ∷ [])
    (search reads depth 40) refl in
    let none : (a b : ℤ) → a *ℤ dot_of w x -ℤ b *ℤ dot_of u x ≡ pos 0 =
    λ (a : ℤ) (b : ℤ). ap₂ (λ (p : ℤ) (q : ℤ). a *ℤ p -ℤ b *ℤ q) flat level
    ∙ ring (a ∷ b ∷ []) (search reads depth 40) refl in
    let gone : (a b c p q r : ℤ) → p ≡ pos 0 → q ≡ pos 0 → r ≡ pos 0 →
    a *ℤ p +ℤ b *ℤ q +ℤ c *ℤ r ≡ pos 0 =
    λ (a : ℤ) (b : ℤ) (c : ℤ) (p : ℤ) (q : ℤ) (r : ℤ) i j k.
    ap₂ ◌+ℤ◌ (ap₂ (λ (p : ℤ) (q : ℤ). a *ℤ p +ℤ b *ℤ q) i j) (ap (λ (r : ℤ). c *ℤ r) k)
    ∙ ring (a ∷ b ∷ c ∷ []) (search reads depth 40) refl in
    let rest = lagrange g x e
    ∙ gone (g.y *ℤ e.z -ℤ g.z *ℤ e.y) (g.z *ℤ e.x -ℤ g.x *ℤ e.z) (g.x *ℤ e.y -ℤ g.y *ℤ e.x)
    (g.y *ℤ x.z -ℤ g.z *ℤ x.y) (g.z *ℤ x.x -ℤ g.x *ℤ x.z) (g.x *ℤ x.y -ℤ g.y *ℤ x.x)
    (in_x ∙ none u.x w.x) (in_y ∙ none u.y w.y) (in_z ∙ none u.z w.z) in
    omega (arith, linear, rest)

-- the determinant of v, e and the normal of w and u, where e is perpendicular to w
pub normal_share : (w u v e : Vec3) → dot_of w e ≡ pos 0 →
    det_of v e (cross_of w u) ≡ dot_of w v *ℤ dot_of u e
normal_share w u v e flat =
    let binet : det_of v e (cross_of w u) ≡
    dot_of w v *ℤ dot_of u e -ℤ dot_of u v *ℤ dot_of w e =
    ring (w.x ∷ w.y ∷ w.z ∷ u.x ∷ u.y ∷ u.z ∷ v.x ∷ v.y ∷ v.z ∷ e.x ∷ e.y ∷ e.z ∷ [])
    (search reads depth 40) refl in
    let none : dot_of u v *ℤ dot_of w e ≡ pos 0 = ap (λ (z : ℤ). dot_of u v *ℤ z) flat
    ∙ ring (dot_of u v ∷ []) (search reads depth 40) refl in
    omega (arith, linear, binet, none)

-- ---- two vectors along one normal

-- nothing has a product with the normal of two vectors that are along one normal
pub both_along : (w u x y a : Vec3) → pos 0 <ℤ dot_of (cross_of w u) (cross_of w u) →
    dot_of w x ≡ pos 0 → dot_of u x ≡ pos 0 → dot_of w y ≡ pos 0 → dot_of u y ≡ pos 0 →
    dot_of a (cross_of x y) ≡ pos 0
both_along w u x y a some x_flat x_level y_flat y_level =
    cancel_left (dot_of a (cross_of x y)) (pos 0) gg some (first ∙ second)
  where
    g : Vec3
    g = cross_of w u

    gg : ℤ
    gg = dot_of g g

    turn : (a x y : Vec3) → dot_of a (cross_of x y) ≡ dot_of (cross_of a x) y
    turn a x y = ring (a.x ∷ a.y ∷ a.z ∷ x.x ∷ x.y ∷ x.z ∷ y.x ∷ y.y ∷ y.z ∷ [])
        (search reads depth 40) refl

    back : (a x g : Vec3) → dot_of (cross_of a x) g ≡ dot_of (cross_of g a) x
    back a x g = ring (a.x ∷ a.y ∷ a.z ∷ x.x ∷ x.y ∷ x.z ∷ g.x ∷ g.y ∷ g.z ∷ [])
        (search reads depth 40) refl

    none : (a g : Vec3) → dot_of (cross_of g a) g ≡ pos 0
    none a g = ring (a.x ∷ a.y ∷ a.z ∷ g.x ∷ g.y ∷ g.z ∷ []) (search reads depth 40) refl

    nothing : (k : ℤ) → k *ℤ pos 0 ≡ pos 0
    nothing k = ring (k ∷ []) (search reads depth 40) refl

    level : dot_of (cross_of a x) g ≡ pos 0
    level = back a x g
        ∙ cancel_left (dot_of (cross_of g a) x) (pos 0) gg some
        (along_normal w u x (cross_of g a) x_flat x_level
        ∙ ap (λ (z : ℤ). dot_of g x *ℤ z) (none a g) ∙ nothing (dot_of g x)
        ∙ sym (nothing gg))

    first : gg *ℤ dot_of a (cross_of x y) ≡ dot_of g y *ℤ dot_of (cross_of a x) g
    first = ap (λ (z : ℤ). gg *ℤ z) (turn a x y)
        ∙ along_normal w u y (cross_of a x) y_flat y_level

    second : dot_of g y *ℤ dot_of (cross_of a x) g ≡ gg *ℤ pos 0
    second = ap (λ (z : ℤ). dot_of g y *ℤ z) level ∙ nothing (dot_of g y) ∙ sym (nothing gg)

-- ---- determinants by their parts

-- k times v, m times e, and s
abbrev pub parts_of : ℤ → Vec3 → ℤ → Vec3 → Vec3 → Vec3
parts_of k v m e s = sum_of (sum_of (scaled_by k v) (scaled_by m e)) s

-- v, e and a third vector
abbrev pub edge_point : Vec3 → Vec3 → Vec3 → Vec3
edge_point v e l = sum_of (sum_of v e) l

pub det_scaled : (n : ℤ) (d a b : Vec3) → det_of (scaled_by n d) a b ≡ n *ℤ det_of d a b
det_scaled n d a b =
    ring (n ∷ d.x ∷ d.y ∷ d.z ∷ a.x ∷ a.y ∷ a.z ∷ b.x ∷ b.y ∷ b.z ∷ [])
    (search reads depth 40) refl

det_sum : (x y a b : Vec3) → det_of (sum_of x y) a b ≡ det_of x a b +ℤ det_of y a b
det_sum x y a b =
    ring (x.x ∷ x.y ∷ x.z ∷ y.x ∷ y.y ∷ y.z ∷ a.x ∷ a.y ∷ a.z ∷ b.x ∷ b.y ∷ b.z ∷ [])
    (search reads depth 40) refl

pub det_parts : (k : ℤ) (v : Vec3) (m : ℤ) (e s a b : Vec3) →
    det_of (parts_of k v m e s) a b ≡ k *ℤ det_of v a b +ℤ m *ℤ det_of e a b +ℤ det_of s a b
det_parts k v m e s a b =
    det_sum (sum_of (scaled_by k v) (scaled_by m e)) s a b
    ∙ ap (λ (z : ℤ). z +ℤ det_of s a b)
    (det_sum (scaled_by k v) (scaled_by m e) a b
    ∙ ap₂ ◌+ℤ◌ (det_scaled k v a b) (det_scaled m e a b))

pub first_of_v : (v e l r : Vec3) → det_of v (edge_point v e l) (edge_point v e r) ≡
    det_of v e r -ℤ det_of v e l +ℤ dot_of v (cross_of l r)
first_of_v v e l r =
    ring (v.x ∷ v.y ∷ v.z ∷ e.x ∷ e.y ∷ e.z ∷ l.x ∷ l.y ∷ l.z ∷ r.x ∷ r.y ∷ r.z ∷ [])
    (search reads depth 40) refl

pub first_of_e : (v e l r : Vec3) → det_of e (edge_point v e l) (edge_point v e r) ≡
    det_of v e l -ℤ det_of v e r +ℤ dot_of e (cross_of l r)
first_of_e v e l r =
    ring (v.x ∷ v.y ∷ v.z ∷ e.x ∷ e.y ∷ e.z ∷ l.x ∷ l.y ∷ l.z ∷ r.x ∷ r.y ∷ r.z ∷ [])
    (search reads depth 40) refl

pub first_of_s : (v e s l r : Vec3) → det_of s (edge_point v e l) (edge_point v e r) ≡
    dot_of (sum_of v e) (cross_of s l) -ℤ dot_of (sum_of v e) (cross_of s r) +ℤ
    dot_of s (cross_of l r)
first_of_s v e s l r = generic (sum_of v e)
  where
    generic : (p : Vec3) → det_of s (sum_of p l) (sum_of p r) ≡
        dot_of p (cross_of s l) -ℤ dot_of p (cross_of s r) +ℤ dot_of s (cross_of l r)
    generic p =
        ring (p.x ∷ p.y ∷ p.z ∷ s.x ∷ s.y ∷ s.z ∷ l.x ∷ l.y ∷ l.z ∷ r.x ∷ r.y ∷ r.z ∷ [])
        (search reads depth 40) refl

pub second_of : (v e s r : Vec3) → det_of s (edge_point v e r) v ≡
    dot_of v (cross_of s r) -ℤ det_of v e s
second_of v e s r =
    ring (v.x ∷ v.y ∷ v.z ∷ e.x ∷ e.y ∷ e.z ∷ s.x ∷ s.y ∷ s.z ∷ r.x ∷ r.y ∷ r.z ∷ [])
    (search reads depth 40) refl

pub second_of_v : (v e r : Vec3) → det_of v (edge_point v e r) v ≡ pos 0
second_of_v v e r =
    ring (v.x ∷ v.y ∷ v.z ∷ e.x ∷ e.y ∷ e.z ∷ r.x ∷ r.y ∷ r.z ∷ []) (search reads depth 40) refl

pub second_of_e : (v e r : Vec3) → det_of e (edge_point v e r) v ≡ det_of v e r
second_of_e v e r =
    ring (v.x ∷ v.y ∷ v.z ∷ e.x ∷ e.y ∷ e.z ∷ r.x ∷ r.y ∷ r.z ∷ []) (search reads depth 40) refl

pub turned_det : (s v p : Vec3) → det_of s v p ≡ pos 0 -ℤ det_of s p v
turned_det s v p =
    ring (v.x ∷ v.y ∷ v.z ∷ p.x ∷ p.y ∷ p.z ∷ s.x ∷ s.y ∷ s.z ∷ []) (search reads depth 40) refl
