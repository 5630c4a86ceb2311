-- The face on which a least cut is reached, and how far its points lie in other directions.
use Rattle.std.proofs.Common.{◌≡◌, ℤ, pos, ◌+ℤ◌, ◌-ℤ◌, ◌*ℤ◌, ◌≤ℤ◌, ◌<ℤ◌, List, [], ◌∷◌, sym, ap}
use Rattle.std.proofs.Common.{◌∙◌, refl, subst, arith}
use Rattle.std.specs.Prelude.{⊤}
use Rattle.std.proofs.lemmas.Int.{by_lt_z}
use Rattle.int_ring.proofs.Laws.{linear}
use Rattle.int_ring.proofs.Order.{mul_le_left, mul_le_right}
use Rattle.int_ring.proofs.Ring.{ring, reads}
use Rattle.wrench_geometry.specs.declared.vector.Vec3.{Vec3}
use Rattle.wrench_geometry.specs.Vectors.{difference_of, dot_of, greatest_of, scaled_by, sum_of}
use Rattle.wrench_geometry.specs.Vectors.{support_of, zero_vector}
use Rattle.wrench_geometry.proofs.Supports.{greatest_from_0, support_cons}
use Rattle.separation.specs.Directions.{IsPoint}
use Rattle.exit_point.specs.Faces.{IsLeastAlong}
use Rattle.separation.proofs.Supports.{greatest_reached, point_at_most}

-- ---- definitions

-- v is a point of the list that is greatest for w, and the face has what the other such points are
-- more than v
pub record IsFace (w v : Vec3) (list face : List Vec3) : Type 0 where
  pub chosen : IsPoint list v
  pub greatest : greatest_of w list ≡ dot_of w v
  pub has : (p : Vec3) → IsPoint list p → dot_of w p ≡ dot_of w v → IsPoint face (difference_of p v)
  pub only : (e : Vec3) → IsPoint face e → IsPoint list (sum_of v e)
  pub flat : (e : Vec3) → IsPoint face e → dot_of w e ≡ pos 0

-- such a point and such a face of each list
abbrev pub AreFaces : Vec3 → List (List Vec3) → List Vec3 → List (List Vec3) → Type 0
AreFaces w (list ∷ lists) (v ∷ points) (face ∷ faces) = IsFace w v list face ×
    AreFaces w lists points faces
AreFaces w [] [] [] = ⊤
AreFaces w _ _ _ = ⊥

abbrev pub sum_of_all : List Vec3 → Vec3
sum_of_all [] = zero_vector
sum_of_all (v ∷ points) = sum_of v (sum_of_all points)

-- n times w and u
abbrev pub towards : ℤ → Vec3 → Vec3 → Vec3
towards n w u = sum_of (scaled_by n w) u

-- ---- numbers

-- what a least cut says at n times its direction and another one, where the support there is at
-- most n times the cut's top and what the other direction has on the face
face_quotient : (n top bottom along at h all : ℤ) → pos 0 ≤ℤ bottom →
    (top *ℤ (n *ℤ bottom +ℤ along)) ≤ℤ (all *ℤ bottom) → all ≤ℤ (n *ℤ top +ℤ at +ℤ h) →
    (top *ℤ along -ℤ bottom *ℤ at) ≤ℤ (bottom *ℤ h)
face_quotient n top bottom along at h all low cut reach =
    let times = mul_le_right all (n *ℤ top +ℤ at +ℤ h) bottom reach low in
    let left : top *ℤ (n *ℤ bottom +ℤ along) ≡ n *ℤ top *ℤ bottom +ℤ top *ℤ along =
    ring (n ∷ top ∷ bottom ∷ along ∷ []) (search reads depth 40) refl in
    let right : (n *ℤ top +ℤ at +ℤ h) *ℤ bottom ≡
    n *ℤ top *ℤ bottom +ℤ bottom *ℤ at +ℤ bottom *ℤ h =
    ring (n ∷ top ∷ bottom ∷ at ∷ h ∷ []) (search reads depth 40) refl in
    omega (arith, linear, times, cut, left, right)

-- a point's product with n times the direction and another one: p and s are the point's products
-- with the two, b and t those of the chosen point, h is what the other direction has on the face
off_face : (n p s b t h : ℤ) → pos 0 ≤ℤ n → pos 0 ≤ℤ h → p <ℤ b → (s -ℤ t) ≤ℤ n →
    (n *ℤ p +ℤ s) ≤ℤ (n *ℤ b +ℤ t +ℤ h)
off_face n p s b t h from low below near =
    let times = mul_le_left (p +ℤ pos 1) b n (omega (arith, linear)) from in
    let parts : n *ℤ (p +ℤ pos 1) ≡ n *ℤ p +ℤ n = ring (n ∷ p ∷ []) (search reads depth 40) refl in
    omega (arith, linear, times, parts)

on_face : (n p s b t h : ℤ) → p ≡ b → (s -ℤ t) ≤ℤ h → (n *ℤ p +ℤ s) ≤ℤ (n *ℤ b +ℤ t +ℤ h)
on_face n p s b t h same near =
    let times : n *ℤ p ≡ n *ℤ b = ap (λ (z : ℤ). n *ℤ z) same in
    omega (arith, linear, times)

both_ways : {a b : ℤ} → a ≤ℤ b → b ≤ℤ a → a ≡ b
both_ways g h = omega (arith, linear)

-- ---- products

pub dot_towards : (n : ℤ) (w u p : Vec3) →
    dot_of (towards n w u) p ≡ n *ℤ dot_of w p +ℤ dot_of u p
dot_towards n w u p = ring (n ∷ w.x ∷ w.y ∷ w.z ∷ u.x ∷ u.y ∷ u.z ∷ p.x ∷ p.y ∷ p.z ∷ [])
    (search reads depth 40) refl

pub dot_difference : (u p v : Vec3) → dot_of u (difference_of p v) ≡ dot_of u p -ℤ dot_of u v
dot_difference u p v = ring (u.x ∷ u.y ∷ u.z ∷ p.x ∷ p.y ∷ p.z ∷ v.x ∷ v.y ∷ v.z ∷ [])
    (search reads depth 40) refl

pub dot_sum : (u p v : Vec3) → dot_of u (sum_of p v) ≡ dot_of u p +ℤ dot_of u v
dot_sum u p v = ring (u.x ∷ u.y ∷ u.z ∷ p.x ∷ p.y ∷ p.z ∷ v.x ∷ v.y ∷ v.z ∷ [])
    (search reads depth 40) refl

pub dot_zero : (u : Vec3) → dot_of u zero_vector ≡ pos 0
dot_zero u = ring (u.x ∷ u.y ∷ u.z ∷ []) (search reads depth 40) refl

-- ---- one list

-- how far n times the direction and another one reach
face_reach : (n : ℤ) (w u v : Vec3) (list face : List Vec3) → IsFace w v list face → pos 0 ≤ℤ n →
    (greatest_of u list -ℤ dot_of u v) ≤ℤ n →
    greatest_of (towards n w u) list ≤ℤ (n *ℤ greatest_of w list +ℤ dot_of u v +ℤ
    greatest_of u face)
face_reach n w u v list face is from near = at (greatest_reached (towards n w u) list)
  where
    Bound : ℤ → ℤ → Type 0
    Bound a b = a ≤ℤ (n *ℤ b +ℤ dot_of u v +ℤ greatest_of u face)

    point : (p : Vec3) → IsPoint list p → Bound (n *ℤ dot_of w p +ℤ dot_of u p) (dot_of w v)
    point p among =
        by_lt_z (dot_of w p) (dot_of w v)
        (λ below. off_face n (dot_of w p) (dot_of u p) (dot_of w v) (dot_of u v)
        (greatest_of u face) from (greatest_from_0 u face) below
        (spread (point_at_most u list p among)))
        (λ above. on_face n (dot_of w p) (dot_of u p) (dot_of w v) (dot_of u v)
        (greatest_of u face) (level above)
        (subst (λ (z : ℤ). z ≤ℤ greatest_of u face) (dot_difference u p v)
        (point_at_most u face (difference_of p v) (is.has p among (level above)))))
      where
        spread : dot_of u p ≤ℤ greatest_of u list → (dot_of u p -ℤ dot_of u v) ≤ℤ n
        spread g = omega (arith, linear)

        level : dot_of w v ≤ℤ dot_of w p → dot_of w p ≡ dot_of w v
        level above = both_ways
            (subst (λ (z : ℤ). dot_of w p ≤ℤ z) is.greatest (point_at_most w list p among)) above

    at : (p : Vec3) × IsPoint list p × (greatest_of (towards n w u) list ≡
        dot_of (towards n w u) p) →
        Bound (greatest_of (towards n w u) list) (greatest_of w list)
    at found =
        subst (λ (z : ℤ). Bound z (greatest_of w list))
        (sym (found.2 ∙ dot_towards n w u found.0))
        (subst (λ (z : ℤ). Bound (n *ℤ dot_of w found.0 +ℤ dot_of u found.0) z) (sym is.greatest)
        (point found.0 found.1))

-- ---- all lists

-- the chosen points are no farther than the lists reach
pub chosen_at_most : (w u : Vec3) (lists : List (List Vec3)) (points : List Vec3)
    (faces : List (List Vec3)) → AreFaces w lists points faces →
    dot_of u (sum_of_all points) ≤ℤ support_of lists u
chosen_at_most w u [] [] [] are = let none = dot_zero u in omega (arith, linear)
chosen_at_most w u [] [] (face ∷ faces) are = elim are [ ]
chosen_at_most w u [] (v ∷ points) faces are = elim are [ ]
chosen_at_most w u (list ∷ lists) [] faces are = elim are [ ]
chosen_at_most w u (list ∷ lists) (v ∷ points) [] are = elim are [ ]
chosen_at_most w u (list ∷ lists) (v ∷ points) (face ∷ faces) are =
    let here = point_at_most u list v (are.0.chosen) in
    let later = chosen_at_most w u lists points faces are.1 in
    let parts = dot_sum u v (sum_of_all points) in
    let reach = support_cons u list lists in
    omega (arith, linear)

-- the chosen points reach as far as the lists in their own direction
pub chosen_greatest : (w : Vec3) (lists : List (List Vec3)) (points : List Vec3)
    (faces : List (List Vec3)) → AreFaces w lists points faces →
    support_of lists w ≡ dot_of w (sum_of_all points)
chosen_greatest w [] [] [] are = sym (dot_zero w)
chosen_greatest w [] [] (face ∷ faces) are = elim are [ ]
chosen_greatest w [] (v ∷ points) faces are = elim are [ ]
chosen_greatest w (list ∷ lists) [] faces are = elim are [ ]
chosen_greatest w (list ∷ lists) (v ∷ points) [] are = elim are [ ]
chosen_greatest w (list ∷ lists) (v ∷ points) (face ∷ faces) are =
    let here = are.0.greatest in
    let later = chosen_greatest w lists points faces are.1 in
    let parts = dot_sum w v (sum_of_all points) in
    let reach = support_cons w list lists in
    omega (arith, linear)

faces_reach : (n : ℤ) (w u : Vec3) (lists : List (List Vec3)) (points : List Vec3)
    (faces : List (List Vec3)) → AreFaces w lists points faces → pos 0 ≤ℤ n →
    (support_of lists u -ℤ dot_of u (sum_of_all points)) ≤ℤ n →
    support_of lists (towards n w u) ≤ℤ (n *ℤ support_of lists w +ℤ
    dot_of u (sum_of_all points) +ℤ support_of faces u)
faces_reach n w u [] [] [] are from near =
    let none = dot_zero u in
    let times : n *ℤ pos 0 ≡ pos 0 = ring (n ∷ []) (search reads depth 40) refl in
    omega (arith, linear)
faces_reach n w u [] [] (face ∷ faces) are from near = elim are [ ]
faces_reach n w u [] (v ∷ points) faces are from near = elim are [ ]
faces_reach n w u (list ∷ lists) [] faces are from near = elim are [ ]
faces_reach n w u (list ∷ lists) (v ∷ points) [] are from near = elim are [ ]
faces_reach n w u (list ∷ lists) (v ∷ points) (face ∷ faces) are from near =
    let parts = dot_sum u v (sum_of_all points) in
    let reach = support_cons u list lists in
    let chosen = chosen_at_most w u lists points faces are.1 in
    let first = point_at_most u list v (are.0.chosen) in
    let here = face_reach n w u v list face are.0 from (omega (arith, linear)) in
    let later = faces_reach n w u lists points faces are.1 from (omega (arith, linear)) in
    let reach_all = support_cons (towards n w u) list lists in
    let reach_w = support_cons w list lists in
    let reach_face = support_cons u face faces in
    let times : n *ℤ (greatest_of w list +ℤ support_of lists w) ≡
    n *ℤ greatest_of w list +ℤ n *ℤ support_of lists w =
    ring (n ∷ greatest_of w list ∷ support_of lists w ∷ []) (search reads depth 40) refl in
    let times_w : n *ℤ support_of (list ∷ lists) w ≡
    n *ℤ greatest_of w list +ℤ n *ℤ support_of lists w =
    ap (λ (z : ℤ). n *ℤ z) reach_w ∙ times in
    omega (arith, linear)

-- in no direction does the demand's ray, where it meets the cut, lie past the face
pub face_bound : (lists : List (List Vec3)) (d w u : Vec3) (top bottom : ℤ) (points : List Vec3)
    (faces : List (List Vec3)) → IsLeastAlong lists d w top bottom →
    AreFaces w lists points faces →
    (top *ℤ dot_of u d -ℤ bottom *ℤ dot_of u (sum_of_all points)) ≤ℤ (bottom *ℤ
    support_of faces u)
face_bound lists d w u top bottom points faces is are =
    by_lt_z (dot_of u d) (pos 0)
    (λ g. from_n (gap +ℤ pos 1 -ℤ dot_of u d) (omega (arith, linear))
    (omega (arith, linear, gap_from_0)))
    (λ g. from_n (gap +ℤ pos 1) (omega (arith, linear)) (omega (arith, linear, gap_from_0)))
  where
    gap : ℤ
    gap = support_of lists u -ℤ dot_of u (sum_of_all points)

    gap_from_0 : pos 0 ≤ℤ gap
    gap_from_0 = let at_most = chosen_at_most w u lists points faces are in omega (arith, linear)

    from_n : (n : ℤ) → gap ≤ℤ n → pos 1 ≤ℤ (n +ℤ dot_of u d) →
        (top *ℤ dot_of u d -ℤ bottom *ℤ dot_of u (sum_of_all points)) ≤ℤ (bottom *ℤ
        support_of faces u)
    from_n n wide far =
        face_quotient n top bottom (dot_of u d) (dot_of u (sum_of_all points))
        (support_of faces u) (support_of lists (towards n w u)) (omega (arith, linear, is.ahead))
        (subst (λ (z : ℤ). (top *ℤ z) ≤ℤ (support_of lists (towards n w u) *ℤ bottom)) product
        (is.least (towards n w u) ahead))
        (subst
        (λ (z : ℤ). support_of lists (towards n w u) ≤ℤ (n *ℤ z +ℤ dot_of u (sum_of_all points) +ℤ
        support_of faces u)) (sym is.top_is)
        (faces_reach n w u lists points faces are from_0 wide))
      where
        from_0 : pos 0 ≤ℤ n
        from_0 = omega (arith, linear, gap_from_0)

        product : dot_of (towards n w u) d ≡ n *ℤ bottom +ℤ dot_of u d
        product = dot_towards n w u d
            ∙ ap (λ (z : ℤ). n *ℤ z +ℤ dot_of u d) (sym is.bottom_is)

        ahead : pos 1 ≤ℤ dot_of (towards n w u) d
        ahead =
            let times = mul_le_left (pos 1) bottom n is.ahead from_0 in
            let one : n *ℤ pos 1 ≡ n = ring (n ∷ []) (search reads depth 40) refl in
            omega (arith, linear, product)
