-- A least cut of the face of a least cut bounds an edge by which the demand has its shares.
use Rattle.std.proofs.Common.{◌≡◌, ℤ, pos, ◌+ℤ◌, ◌-ℤ◌, ◌*ℤ◌, ◌≤ℤ◌, ◌<ℤ◌, List, [], ◌∷◌, sym, ap}
use Rattle.std.proofs.Common.{ap₂, ◌∙◌, refl, arith}
use Rattle.int_ring.proofs.Laws.{linear}
use Rattle.int_ring.proofs.Order.{pos_of_mul_pos}
use Rattle.int_ring.proofs.Ring.{ring, reads}
use Rattle.wrench_geometry.specs.declared.vector.Vec3.{Vec3}
use Rattle.wrench_geometry.specs.Vectors.{cross_of, dot_of, opposite_of, support_of}
use Rattle.wrench_geometry.proofs.Bounds.{same_vector}
use Rattle.exit_point.specs.Faces.{IsLeastAlong, rest_of}
use Rattle.exit_point.proofs.Faces.{AreFaces, chosen_greatest, dot_sum, dot_zero, face_bound}
use Rattle.exit_point.proofs.Faces.{sum_of_all}
use Rattle.exit_point.proofs.Shares.{IsEdge}

pub dot_rest : (w : Vec3) (top : ℤ) (d : Vec3) (bottom : ℤ) (v : Vec3) →
    dot_of w (rest_of top d bottom v) ≡ top *ℤ dot_of w d -ℤ bottom *ℤ dot_of w v
dot_rest w top d bottom v =
    ring (top ∷ bottom ∷ w.x ∷ w.y ∷ w.z ∷ d.x ∷ d.y ∷ d.z ∷ v.x ∷ v.y ∷ v.z ∷ [])
    (search reads depth 40) refl

opposite_rest : (w : Vec3) (top : ℤ) (d : Vec3) (bottom : ℤ) (v : Vec3) →
    top *ℤ dot_of (opposite_of w) d -ℤ bottom *ℤ dot_of (opposite_of w) v ≡
    pos 0 -ℤ dot_of w (rest_of top d bottom v)
opposite_rest w top d bottom v =
    ring (top ∷ bottom ∷ w.x ∷ w.y ∷ w.z ∷ d.x ∷ d.y ∷ d.z ∷ v.x ∷ v.y ∷ v.z ∷ [])
    (search reads depth 40) refl

-- points of the faces have no product with the cut's direction
pub faces_flat : (w u : Vec3) (lists : List (List Vec3)) (points : List Vec3)
    (faces : List (List Vec3)) (chosen : List Vec3) (edges : List (List Vec3)) →
    AreFaces w lists points faces → AreFaces u faces chosen edges →
    dot_of w (sum_of_all chosen) ≡ pos 0
faces_flat w u [] [] [] [] edges are beside = dot_zero w
faces_flat w u [] [] [] (e ∷ chosen) edges are beside = elim beside [ ]
faces_flat w u [] [] (face ∷ faces) chosen edges are beside = elim are [ ]
faces_flat w u [] (v ∷ points) faces chosen edges are beside = elim are [ ]
faces_flat w u (list ∷ lists) [] faces chosen edges are beside = elim are [ ]
faces_flat w u (list ∷ lists) (v ∷ points) [] chosen edges are beside = elim are [ ]
faces_flat w u (list ∷ lists) (v ∷ points) (face ∷ faces) [] edges are beside = elim beside [ ]
faces_flat w u (list ∷ lists) (v ∷ points) (face ∷ faces) (e ∷ chosen) [] are beside =
    elim beside [ ]
faces_flat w u (list ∷ lists) (v ∷ points) (face ∷ faces) (e ∷ chosen) (edge ∷ edges) are beside =
    let here = are.0.flat e beside.0.chosen in
    let later = faces_flat w u lists points faces chosen edges are.1 beside.1 in
    let parts = dot_sum w e (sum_of_all chosen) in
    omega (arith, linear, here, later, parts)

meets_part : (top beside d bottom v m e : ℤ) → top *ℤ beside *ℤ d ≡
    beside *ℤ bottom *ℤ v +ℤ m *ℤ e +ℤ (beside *ℤ (top *ℤ d -ℤ bottom *ℤ v) -ℤ m *ℤ e)
meets_part top beside d bottom v m e =
    ring (top ∷ beside ∷ d ∷ bottom ∷ v ∷ m ∷ e ∷ []) (search reads depth 40) refl

-- u is a least cut of the faces of w in the direction of what is left past v; l and r are the ends
-- of its face, along the normal of both
module _ (lists : List (List Vec3)) (d w u l r : Vec3) (top bottom top_beside bottom_beside : ℤ)
    (points : List Vec3) (faces : List (List Vec3)) (chosen : List Vec3)
    (edges : List (List Vec3)) (is : IsLeastAlong lists d w top bottom)
    (are : AreFaces w lists points faces)
    (is_beside : IsLeastAlong faces (rest_of top d bottom (sum_of_all points)) u top_beside
    bottom_beside) (are_beside : AreFaces u faces chosen edges) where
  abbrev v : Vec3
  v = sum_of_all points

  abbrev e : Vec3
  e = sum_of_all chosen

  abbrev rest : Vec3
  rest = rest_of top d bottom (sum_of_all points)

  abbrev last : Vec3
  last = rest_of top_beside rest bottom_beside (sum_of_all chosen)

  on_cut : dot_of w v ≡ top
  on_cut = sym (is.top_is ∙ chosen_greatest w lists points faces are)

  on_edge : dot_of u e ≡ top_beside
  on_edge = sym (is_beside.top_is ∙ chosen_greatest u faces chosen edges are_beside)

  none : (a b : ℤ) → a *ℤ b -ℤ b *ℤ a ≡ pos 0
  none a b = ring (a ∷ b ∷ []) (search reads depth 40) refl

  rest_flat : dot_of w rest ≡ pos 0
  rest_flat = dot_rest w top d bottom v
      ∙ ap₂ (λ (p : ℤ) (q : ℤ). top *ℤ p -ℤ bottom *ℤ q) (sym is.bottom_is) on_cut
      ∙ none top bottom

  e_flat : dot_of w e ≡ pos 0
  e_flat = faces_flat w u lists points faces chosen edges are are_beside

  last_flat : dot_of w last ≡ pos 0
  last_flat = dot_rest w top_beside rest bottom_beside e
      ∙ ap₂ (λ (p : ℤ) (q : ℤ). top_beside *ℤ p -ℤ bottom_beside *ℤ q) rest_flat e_flat
      ∙ ring (top_beside ∷ bottom_beside ∷ []) (search reads depth 40) refl

  last_level : dot_of u last ≡ pos 0
  last_level = dot_rest u top_beside rest bottom_beside e
      ∙ ap₂ (λ (p : ℤ) (q : ℤ). top_beside *ℤ p -ℤ bottom_beside *ℤ q) (sym is_beside.bottom_is)
      on_edge
      ∙ none top_beside bottom_beside

  -- the ray doesn't leave the face before it leaves the sums
  at_most : bottom_beside ≤ℤ (top_beside *ℤ bottom)
  at_most = order (sym (dot_rest u top d bottom v) ∙ sym is_beside.bottom_is)
      (ap (λ (z : ℤ). bottom *ℤ z) (sym is_beside.top_is) ∙ swap bottom top_beside)
      (face_bound lists d w u top bottom points faces is are)
    where
      swap : (a b : ℤ) → a *ℤ b ≡ b *ℤ a
      swap a b = ring (a ∷ b ∷ []) (search reads depth 40) refl

      order : {a b c f : ℤ} → a ≡ b → c ≡ f → a ≤ℤ c → b ≤ℤ f
      order {a} {b} {c} {f} i j h = omega (arith, linear)

  beside_from_1 : pos 1 ≤ℤ top_beside
  beside_from_1 = above (pos_of_mul_pos bottom top_beside (omega (arith, linear, is.ahead))
      (turned (swap top_beside bottom) (is_beside.ahead) at_most))
    where
      swap : (a b : ℤ) → a *ℤ b ≡ b *ℤ a
      swap a b = ring (a ∷ b ∷ []) (search reads depth 40) refl

      turned : {a b c : ℤ} → a ≡ b → pos 1 ≤ℤ c → c ≤ℤ a → pos 0 <ℤ b
      turned {a} {b} {c} i j h = omega (arith, linear)

      above : {a : ℤ} → pos 0 <ℤ a → pos 1 ≤ℤ a
      above {a} h = omega (arith, linear)

  abbrev g : Vec3
  g = cross_of w u

  to_greatest : dot_of g r ≡ support_of edges g → dot_of g last ≤ℤ (bottom_beside *ℤ dot_of g r)
  to_greatest reach = order (sym (dot_rest g top_beside rest bottom_beside e))
      (ap (λ (z : ℤ). bottom_beside *ℤ z) (sym reach))
      (face_bound faces rest u g top_beside bottom_beside chosen edges is_beside are_beside)
    where
      order : {a b c f : ℤ} → a ≡ b → c ≡ f → a ≤ℤ c → b ≤ℤ f
      order {a} {b} {c} {f} i j h = omega (arith, linear)

  from_least : pos 0 -ℤ dot_of g l ≡ support_of edges (opposite_of g) →
      (bottom_beside *ℤ dot_of g l) ≤ℤ dot_of g last
  from_least reach = order (dot_of g last) (bottom_beside *ℤ dot_of g l)
      (opposite_rest g top_beside rest bottom_beside e)
      (ap (λ (z : ℤ). bottom_beside *ℤ z) (sym reach) ∙ minus bottom_beside (dot_of g l))
      (face_bound faces rest u (opposite_of g) top_beside bottom_beside chosen edges is_beside
      are_beside)
    where
      minus : (a b : ℤ) → a *ℤ (pos 0 -ℤ b) ≡ pos 0 -ℤ a *ℤ b
      minus a b = ring (a ∷ b ∷ []) (search reads depth 40) refl

      order : {a c : ℤ} (b f : ℤ) → a ≡ pos 0 -ℤ b → c ≡ pos 0 -ℤ f → a ≤ℤ c → f ≤ℤ b
      order {a} {c} b f i j h = omega (arith, linear)

  pub is_edge : pos 1 ≤ℤ top → dot_of w l ≡ pos 0 → dot_of u l ≡ pos 0 → dot_of w r ≡ pos 0 →
      dot_of u r ≡ pos 0 → dot_of (cross_of w u) r ≡ support_of edges (cross_of w u) →
      pos 0 -ℤ dot_of (cross_of w u) l ≡ support_of edges (opposite_of (cross_of w u)) →
      IsEdge d w u (sum_of_all points) (sum_of_all chosen)
      (rest_of top_beside (rest_of top d bottom (sum_of_all points)) bottom_beside
      (sum_of_all chosen)) l r top top_beside (top_beside *ℤ bottom) bottom_beside
  is_edge some l_flat l_level r_flat r_level greatest least = record {
    meets = same_vector
        (meets_part top top_beside d.x bottom (v.x) bottom_beside (e.x))
        (meets_part top top_beside d.y bottom (v.y) bottom_beside (e.y))
        (meets_part top top_beside d.z bottom (v.z) bottom_beside (e.z));
    on_cut = on_cut;
    on_edge = on_edge;
    top_from_1 = some;
    beside_from_1 = beside_from_1;
    e_flat = e_flat;
    s_flat = last_flat;
    s_level = last_level;
    l_flat = l_flat;
    l_level = l_level;
    r_flat = r_flat;
    r_level = r_level;
    from_1 = is_beside.ahead;
    at_most = at_most;
    from_least = from_least least;
    to_greatest = to_greatest greatest;
  }
