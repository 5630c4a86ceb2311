-- The ends of the edge that a least cut of a face touches, and the shares that they have.
use Rattle.std.proofs.Common.{◌≡◌, inl, ℕ, ℤ, pos, ◌+ℤ◌, ◌-ℤ◌, ◌≤ℤ◌, List, [], ◌∷◌, sym, ap, ap₂}
use Rattle.std.proofs.Common.{subst, ◌∙◌, refl, arith}
use Rattle.int_ring.proofs.Laws.{linear}
use Rattle.int_ring.proofs.Ring.{ring, reads}
use Rattle.wrench_geometry.specs.declared.vector.Vec3.{Vec3}
use Rattle.wrench_geometry.specs.Vectors.{cross_of, difference_of, dot_of, greatest_of, opposite_of}
use Rattle.wrench_geometry.specs.Vectors.{sum_of, support_of, zero_vector}
use Rattle.wrench_geometry.specs.Wrenches.{image_at, sum_at}
use Rattle.wrench_geometry.proofs.Bounds.{same_vector}
use Rattle.wrench_geometry.proofs.Supports.{support_cons}
use Rattle.separation.specs.Directions.{IsPoint}
use Rattle.separation.proofs.Supports.{greatest_is}
use Rattle.exit_point.specs.declared.orders.Order.{Order}
use Rattle.exit_point.specs.Faces.{along_only, face_of, faces_of}
use Rattle.exit_point.specs.Orders.{AreFarthest, IsFarthest}
use Rattle.exit_point.proofs.FacePoints.{edge_is, face_greatest, face_is, level, on_face}
use Rattle.exit_point.proofs.Faces.{AreFaces, IsFace, dot_difference, dot_sum, dot_zero, sum_of_all}
use Rattle.exit_point.proofs.Farthest.{point_at}

abbrev pub forth : Vec3 → Vec3 → Order
forth w u = record { w = w; u = u; t = u }

abbrev pub back : Vec3 → Vec3 → Order
back w u = record { w = w; u = u; t = opposite_of u }

-- ---- one list

turns : (w u p : Vec3) → dot_of w (cross_of u p) ≡ dot_of (cross_of w u) p
turns w u p = ring (w.x ∷ w.y ∷ w.z ∷ u.x ∷ u.y ∷ u.z ∷ p.x ∷ p.y ∷ p.z ∷ [])
    (search reads depth 40) refl

turns_back : (w u p : Vec3) →
    dot_of w (cross_of (opposite_of u) p) ≡ dot_of (opposite_of (cross_of w u)) p
turns_back w u p = ring (w.x ∷ w.y ∷ w.z ∷ u.x ∷ u.y ∷ u.z ∷ p.x ∷ p.y ∷ p.z ∷ [])
    (search reads depth 40) refl

spread : (g v a q : Vec3) → dot_of g (sum_of v (sum_of (difference_of a v) q)) ≡
    dot_of g a +ℤ dot_of g q
spread g v a q =
    ring (g.x ∷ g.y ∷ g.z ∷ v.x ∷ v.y ∷ v.z ∷ a.x ∷ a.y ∷ a.z ∷ q.x ∷ q.y ∷ q.z ∷ [])
    (search reads depth 40) refl

past_both : (v a b : Vec3) →
    difference_of (difference_of b v) (difference_of a v) ≡ difference_of b a
past_both v a b = same_vector (part v.x a.x b.x) (part v.y a.y b.y) (part v.z a.z b.z)
  where
    part : (v a b : ℤ) → b -ℤ v -ℤ (a -ℤ v) ≡ b -ℤ a
    part v a b = omega (arith, linear)

no_more : {x y : ℤ} → y ≡ pos 0 → x +ℤ y ≡ x
no_more {x} {y} e = omega (arith, linear)

no_difference : {x y z : ℤ} → z ≡ x -ℤ y → x ≡ y → z ≡ pos 0
no_difference {x} {y} {z} e f = omega (arith, linear)

module _ (w u v a b : Vec3) (list : List Vec3) (on_list : IsPoint list v)
    (most : (p : Vec3) → IsPoint list p → dot_of w p ≤ℤ dot_of w v) (a_point : IsPoint list a)
    (a_farthest : IsFarthest (back w u) list a) (b_point : IsPoint list b)
    (b_farthest : IsFarthest (forth w u) list b) where
  face : List Vec3
  face = face_of w v list

  is : IsFace w v list (face_of w v list)
  is = face_is w v list on_list most

  edge : List Vec3
  edge = face_of u (difference_of a v) (face_of w v list)

  pub is_edge_of : IsFace u (difference_of a v) (face_of w v list)
      (face_of u (difference_of a v) (face_of w v list))
  is_edge_of = edge_is (back w u) v list (face_of w v list) is a a_point a_farthest

  pub ends_flat : dot_of w (difference_of b a) ≡ pos 0
  ends_flat = no_difference (dot_difference w b a)
      (level (forth w u) v list (face_of w v list) is b b_point b_farthest
      ∙ sym (level (back w u) v list (face_of w v list) is a a_point a_farthest))

  same_reach : dot_of u (difference_of b v) ≡ dot_of u (difference_of a v)
  same_reach = sym (face_greatest (forth w u) v list (face_of w v list) is b b_point b_farthest)
      ∙ face_greatest (back w u) v list (face_of w v list) is a a_point a_farthest

  pub ends_level : dot_of u (difference_of b a) ≡ pos 0
  ends_level =
      from_v (dot_of u b) (dot_of u a) (dot_of u v) (dot_difference u b a) (dot_difference u b v)
      (dot_difference u a v)
      same_reach
    where
      from_v : (ub ua uv : ℤ) {x y z : ℤ} → x ≡ ub -ℤ ua → y ≡ ub -ℤ uv → z ≡ ua -ℤ uv → y ≡ z →
          x ≡ pos 0
      from_v ub ua uv {x} {y} {z} e f g h = omega (arith, linear)

  -- a point of the edge, as one of the list
  module _ (q : Vec3) (among : IsPoint (face_of u (difference_of a v) (face_of w v list)) q) where
    abbrev p : Vec3
    p = sum_of v (sum_of (difference_of a v) q)

    in_face : IsPoint (face_of w v list) (sum_of (difference_of a v) q)
    in_face = is_edge_of.only q among

    in_list : IsPoint list (sum_of v (sum_of (difference_of a v) q))
    in_list = is.only (sum_of (difference_of a v) q) in_face

    w_same : dot_of w (sum_of v (sum_of (difference_of a v) q)) ≡ dot_of w v
    w_same = dot_sum w v (sum_of (difference_of a v) q)
        ∙ no_more (is.flat (sum_of (difference_of a v) q) in_face)

    u_same : dot_of u (sum_of v (sum_of (difference_of a v) q)) ≡ dot_of u a
    u_same = spread u v a q ∙ no_more (is_edge_of.flat q among)

    a_level : dot_of w v ≡ dot_of w a
    a_level = sym (level (back w u) v list (face_of w v list) is a a_point a_farthest)

    b_level : dot_of w v ≡ dot_of w b
    b_level = sym (level (forth w u) v list (face_of w v list) is b b_point b_farthest)

    u_ends : dot_of u a ≡ dot_of u b
    u_ends = apart (dot_difference u b a) ends_level
      where
        apart : {x y z : ℤ} → z ≡ y -ℤ x → z ≡ pos 0 → x ≡ y
        apart {x} {y} {z} e f = omega (arith, linear)

    to_b : dot_of (cross_of w u) q ≤ℤ dot_of (cross_of w u) (difference_of b a)
    to_b = shifted (dot_of (cross_of w u) a) (sym (turns w u p)) (turns w u b)
        (spread (cross_of w u) v a q)
        (dot_difference (cross_of w u) b a)
        ((b_farthest p in_list).third (w_same ∙ b_level) (u_same ∙ u_ends))
      where
        shifted : (ga : ℤ) {gp tp gb tb gq gba : ℤ} → gp ≡ tp → tb ≡ gb → gp ≡ ga +ℤ gq →
            gba ≡ gb -ℤ ga → tp ≤ℤ tb → gq ≤ℤ gba
        shifted ga {gp} {tp} {gb} {tb} {gq} {gba} e f g h k = omega (arith, linear)

    to_a : dot_of (opposite_of (cross_of w u)) q ≤ℤ pos 0
    to_a = shifted (sym (turns_back w u p)) (turns_back w u a)
        (spread (opposite_of (cross_of w u)) v a q)
        ((a_farthest p in_list).third (w_same ∙ a_level) u_same)
      where
        shifted : {gp tp ga ta gq : ℤ} → gp ≡ tp → ta ≡ ga → gp ≡ ga +ℤ gq → tp ≤ℤ ta →
            gq ≤ℤ pos 0
        shifted {gp} {tp} {ga} {ta} {gq} e f g k = omega (arith, linear)

  pub edge_greatest : greatest_of (cross_of w u)
      (face_of u (difference_of a v) (face_of w v list)) ≡
      dot_of (cross_of w u) (difference_of b a)
  edge_greatest =
      let P : Vec3 → Type 0 = IsPoint (face_of u (difference_of a v) (face_of w v list)) in
      greatest_is (cross_of w u) (face_of u (difference_of a v) (face_of w v list))
      (difference_of b a)
      (subst P (past_both v a b)
      (is_edge_of.has (difference_of b v)
      (on_face (forth w u) v list (face_of w v list) is b b_point b_farthest) same_reach))
      to_b

  pub edge_least : greatest_of (opposite_of (cross_of w u))
      (face_of u (difference_of a v) (face_of w v list)) ≡ pos 0
  edge_least =
      greatest_is (opposite_of (cross_of w u)) (face_of u (difference_of a v) (face_of w v list))
      zero_vector (inl refl)
      (λ q among. at_zero (dot_zero (opposite_of (cross_of w u))) (to_a q among))
      ∙ dot_zero (opposite_of (cross_of w u))
    where
      at_zero : {x y : ℤ} → y ≡ pos 0 → x ≤ℤ pos 0 → x ≤ℤ y
      at_zero {x} {y} e f = omega (arith, linear)

-- ---- all lists

abbrev pub pasts_at : List (List Vec3) → List ℕ → List ℕ → List Vec3
pasts_at (list ∷ lists) (place ∷ places) (c ∷ chosen) =
    difference_of (image_at list c) (image_at list place) ∷ pasts_at lists places chosen
pasts_at _ _ _ = []

abbrev pub edges_of : Vec3 → Vec3 → List (List Vec3) → List ℕ → List ℕ → List (List Vec3)
edges_of w u (list ∷ lists) (place ∷ places) (c ∷ chosen) =
    face_of u (difference_of (image_at list c) (image_at list place))
    (face_of w (image_at list place) list) ∷ edges_of w u lists places chosen
edges_of w u _ _ _ = []

-- what is known of the edge and its ends
pub record AreEdges (w u : Vec3) (lists : List (List Vec3)) (places second third : List ℕ)
    : Type 0 where
  pub are : AreFaces u (faces_of w lists places) (pasts_at lists places second)
      (edges_of w u lists places second)
  pub past : sum_of_all (pasts_at lists places second) ≡
      difference_of (sum_at lists second) (sum_at lists places)
  pub flat : dot_of w (difference_of (sum_at lists third) (sum_at lists second)) ≡ pos 0
  pub level : dot_of u (difference_of (sum_at lists third) (sum_at lists second)) ≡ pos 0
  pub greatest : dot_of (cross_of w u)
      (difference_of (sum_at lists third) (sum_at lists second)) ≡
      support_of (edges_of w u lists places second) (cross_of w u)
  pub least : support_of (edges_of w u lists places second) (opposite_of (cross_of w u)) ≡ pos 0

joined : (a v s t : Vec3) → sum_of (difference_of a v) (difference_of s t) ≡
    difference_of (sum_of a s) (sum_of v t)
joined a v s t = same_vector (part a.x v.x s.x t.x) (part a.y v.y s.y t.y) (part a.z v.z s.z t.z)
  where
    part : (a v s t : ℤ) → a -ℤ v +ℤ (s -ℤ t) ≡ a +ℤ s -ℤ (v +ℤ t)
    part a v s t = omega (arith, linear)

dot_joined : (w a v s t : Vec3) → dot_of w (difference_of (sum_of a s) (sum_of v t)) ≡
    dot_of w (difference_of a v) +ℤ dot_of w (difference_of s t)
dot_joined w a v s t = ap (dot_of w) (sym (joined a v s t))
    ∙ dot_sum w (difference_of a v) (difference_of s t)

pub are_edges : (w u : Vec3) (lists : List (List Vec3)) (places second third : List ℕ) →
    AreFarthest (along_only w) lists places → AreFarthest (back w u) lists second →
    AreFarthest (forth w u) lists third → AreEdges w u lists places second third
are_edges w u [] [] [] [] f g h = record {
  are = tt;
  past = refl;
  flat = dot_zero w;
  level = dot_zero u;
  greatest = dot_zero (cross_of w u);
  least = refl;
}
are_edges w u [] [] [] (c ∷ third) f g h = absurd h
are_edges w u [] [] (b ∷ second) third f g h = absurd g
are_edges w u [] (a ∷ places) second third f g h = absurd f
are_edges w u (list ∷ lists) [] second third f g h = absurd f
are_edges w u (list ∷ lists) (a ∷ places) [] third f g h = absurd g
are_edges w u (list ∷ lists) (a ∷ places) (b ∷ second) [] f g h = absurd h
are_edges w u (list ∷ lists) (place ∷ places) (i ∷ second) (j ∷ third) f g h =
    let v = image_at list place in
    let a = image_at list i in
    let b = image_at list j in
    let point = point_at list place in
    let most : (p : Vec3) → IsPoint list p → dot_of w p ≤ℤ dot_of w v =
    λ p among. (f.0 p among).first in
    let a_point = point_at list i in
    let b_point = point_at list j in
    let later = are_edges w u lists places second third f.1 g.1 h.1 in
    let edge = face_of u (difference_of a v) (face_of w v list) in
    record {
      are = (is_edge_of w u v a b list point most a_point g.0 b_point h.0, later.are);
      past = ap (sum_of (difference_of a v)) later.past
          ∙ joined a v (sum_at lists second) (sum_at lists places);
      flat = dot_joined w b a (sum_at lists third) (sum_at lists second)
          ∙ both (ends_flat w u v a b list point most a_point g.0 b_point h.0) later.flat;
      level = dot_joined u b a (sum_at lists third) (sum_at lists second)
          ∙ both (ends_level w u v a b list point most a_point g.0 b_point h.0) later.level;
      greatest = dot_joined (cross_of w u) b a (sum_at lists third) (sum_at lists second)
          ∙ ap₂ ◌+ℤ◌ (sym (edge_greatest w u v a b list point most a_point g.0 b_point h.0))
          later.greatest
          ∙ sym (support_cons (cross_of w u) edge (edges_of w u lists places second));
      least = support_cons (opposite_of (cross_of w u)) edge (edges_of w u lists places second)
          ∙ both (edge_least w u v a b list point most a_point g.0 b_point h.0) later.least;
    }
  where
    both : {x y : ℤ} → x ≡ pos 0 → y ≡ pos 0 → x +ℤ y ≡ pos 0
    both {x} {y} e k = omega (arith, linear)
