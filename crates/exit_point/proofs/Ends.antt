-- The shares of a demand on the edge of a face, and what they show.
use Rattle.std.proofs.Common.{◌≡◌, ◌≢◌, ℤ, pos, ◌+ℤ◌, ◌-ℤ◌, ◌*ℤ◌, ◌≤ℤ◌, ◌<ℤ◌, List, [], ◌∷◌, ℕ, sym}
use Rattle.std.proofs.Common.{ap, ap₂, subst, ◌∙◌, refl, arith}
use Rattle.std.proofs.lemmas.Int.{by_lt_z, ints}
use Rattle.int_ring.proofs.Laws.{linear, mul_pos}
use Rattle.int_ring.proofs.Order.{cancel_left, nonneg_of_mul_nonneg}
use Rattle.int_ring.proofs.Ring.{ring, reads}
use Rattle.wrench_geometry.specs.declared.cut.Cut.{Cut}
use Rattle.wrench_geometry.specs.declared.vector.Vec3.{Vec3}
use Rattle.wrench_geometry.specs.Cuts.{IsCut, IsLeastCut}
use Rattle.wrench_geometry.specs.Vectors.{cross_of, det_of, difference_of, dot_of, scaled_by}
use Rattle.wrench_geometry.specs.Vectors.{sum_of, zero_vector}
use Rattle.wrench_geometry.specs.Wrenches.{sum_at}
use Rattle.wrench_geometry.proofs.Bounds.{same_vector}
use Rattle.exit_point.specs.Corners.{IsBetween, IsBetweenTwo, shared}
use Rattle.exit_point.specs.Faces.{IsLeastAlong, along_only, faces_of, rest_of}
use Rattle.exit_point.specs.Orders.{AreFarthest}
use Rattle.exit_point.proofs.Beside.{least_along_cut}
use Rattle.exit_point.proofs.EdgeEnds.{AreEdges, are_edges, back, edges_of, forth, pasts_at}
use Rattle.separation.proofs.Moves.{commutes}
use Rattle.separation.proofs.Supports.{support_from_0}
use Rattle.wrench_geometry.specs.declared.cut.TheConstants.{CUT_PARTS_BELOW}
use Rattle.exit_point.specs.declared.weights.ExitWeights.{ExitWeights}
use Rattle.exit_point.specs.declared.weights.TheConstants.{MOST_WEIGHT}
use Rattle.exit_point.specs.Exits.{EachHasWeights, IsExit, weighted_sum}
use Rattle.exit_point.proofs.Least.{exit_at_corner}
use Rattle.exit_point.proofs.Edges.{dot_rest, is_edge}
use Rattle.exit_point.proofs.FacePoints.{faces_are, points_at, sum_of_points}
use Rattle.exit_point.proofs.Faces.{chosen_greatest, dot_zero, sum_of_all}
use Rattle.exit_point.proofs.Planes.{along_normal, edge_point}
use Rattle.exit_point.proofs.Shares.{HasShares, IsEdge, at_normal, gg_above, has_shares, long}
use Rattle.exit_point.proofs.Shares.{some_share}

pub cut_of_least : (lists : List (List Vec3)) (d : Vec3) (cut : Cut) → IsLeastCut lists d cut →
    IsCut lists d cut
cut_of_least lists d cut is = record {
  bottom = is.bottom;
  top = is.top;
  bottom_from_1 = is.bottom_from_1;
  bottom_below = is.bottom_below;
  top_below = is.top_below;
}

-- ---- one corner

pub alone : (q : ℤ) (p : Vec3) →
    shared (record { first = q; second = pos 0; third = pos 0 }) p p p ≡ scaled_by q p
alone q p = same_vector (part q p.x) (part q p.y) (part q p.z)
  where
    part : (q a : ℤ) → q *ℤ a +ℤ pos 0 *ℤ a +ℤ pos 0 *ℤ a ≡ q *ℤ a
    part q a = ring (q ∷ a ∷ []) (search reads depth 40) refl

-- where nothing is left of the demand past a corner
pub meets_corner : (top : ℤ) (d : Vec3) (bottom : ℤ) (v : Vec3) →
    rest_of top d bottom v ≡ zero_vector → scaled_by bottom v ≡ scaled_by top d
meets_corner top d bottom v none = same_vector
    (same (ap (λ (p : Vec3). p.x) none)) (same (ap (λ (p : Vec3). p.y) none))
    (same (ap (λ (p : Vec3). p.z) none))
  where
    same : {a b : ℤ} → a -ℤ b ≡ pos 0 → b ≡ a
    same {a} {b} e = omega (arith, linear)

-- what is left past a corner on the cut is perpendicular to the cut's direction
pub face_flat : (lists : List (List Vec3)) (d : Vec3) (cut : Cut) (places : List ℕ) (p : Vec3) →
    IsLeastCut lists d cut → AreFarthest (along_only cut.w) lists places →
    p ≡ sum_at lists places → dot_of cut.w (rest_of cut.top d cut.bottom p) ≡ pos 0
face_flat lists d cut places p is farthest at =
    dot_rest cut.w cut.top d cut.bottom p
    ∙ ap₂ (λ (x : ℤ) (y : ℤ). cut.top *ℤ x -ℤ cut.bottom *ℤ y) (sym is.bottom) touches
    ∙ none cut.top cut.bottom
  where
    touches : dot_of cut.w p ≡ cut.top
    touches = ap (dot_of cut.w) (at ∙ sym (sum_of_points lists places))
        ∙ sym (chosen_greatest cut.w lists (points_at lists places) (faces_of cut.w lists places)
        (faces_are (along_only cut.w) lists places farthest))
        ∙ sym is.top

    none : (a b : ℤ) → a *ℤ b -ℤ b *ℤ a ≡ pos 0
    none a b = ring (a ∷ b ∷ []) (search reads depth 40) refl

pub top_from_0 : (lists : List (List Vec3)) (d : Vec3) (cut : Cut) → IsLeastCut lists d cut →
    pos 0 ≤ℤ cut.top
top_from_0 lists d cut is = subst (λ (z : ℤ). pos 0 ≤ℤ z) (sym is.top) (support_from_0 lists cut.w)

pub ahead_not_zero : (lists : List (List Vec3)) (d : Vec3) (cut : Cut) → IsLeastCut lists d cut →
    pos 0 <ℤ dot_of cut.w cut.w
ahead_not_zero lists d cut is = long cut.w d
    (subst (λ (z : ℤ). pos 1 ≤ℤ z) (is.bottom ∙ commutes cut.w d) is.bottom_from_1)

-- ---- exits of one corner

pub exit_at_start : (lists : List (List Vec3)) (d : Vec3) (e : ExitWeights) (cut : Cut)
    (p : Vec3) → IsLeastCut lists d cut → cut.top ≡ pos 0 → p ≡ zero_vector → e.cut ≡ cut →
    e.q ≡ pos 1 → e.t ≡ pos 0 → EachHasWeights (pos 1) lists e.weights.items →
    weighted_sum e.weights.items lists ≡ scaled_by (pos 1) p → IsExit lists d e
exit_at_start lists d e cut p is top origin cut_is q_is t_is weights sum =
    exit_at_corner lists d e p (subst (IsCut lists d) (sym cut_is) (cut_of_least lists d cut is))
    (omega (arith, linear, q_is)) (omega (arith, ints, q_is))
    (subst (λ (k : ℤ). EachHasWeights k lists e.weights.items) (sym q_is) weights)
    (sum ∙ ap (λ (k : ℤ). scaled_by k p) (sym q_is))
    (ap₂ scaled_by q_is origin ∙ nothing ∙ ap (λ (k : ℤ). scaled_by k d) (sym t_is))
    (ap₂ (λ (x : ℤ) (y : Cut). x *ℤ y.bottom) t_is cut_is ∙ none cut.bottom
    ∙ ap (λ (x : ℤ). pos 1 *ℤ x) (sym top)
    ∙ ap₂ (λ (x : ℤ) (y : Cut). x *ℤ y.top) (sym q_is) (sym cut_is))
  where
    part : (a : ℤ) → pos 1 *ℤ pos 0 ≡ pos 0 *ℤ a
    part a = ring (a ∷ []) (search reads depth 40) refl

    nothing : scaled_by (pos 1) zero_vector ≡ scaled_by (pos 0) d
    nothing = same_vector (part d.x) (part d.y) (part d.z)

    none : (b : ℤ) → pos 0 *ℤ b ≡ pos 1 *ℤ pos 0
    none b = ring (b ∷ []) (search reads depth 40) refl

pub exit_at_meeting : (lists : List (List Vec3)) (d : Vec3) (e : ExitWeights) (cut : Cut)
    (p : Vec3) (q t : ℤ) → IsLeastCut lists d cut → q ≡ cut.bottom → t ≡ cut.top →
    scaled_by cut.bottom p ≡ scaled_by cut.top d → e.cut ≡ cut →
    e.q ≡ q → e.t ≡ t → EachHasWeights q lists e.weights.items →
    weighted_sum e.weights.items lists ≡ scaled_by q p → IsExit lists d e
exit_at_meeting lists d e cut p q t is bottom top meets cut_is q_is t_is weights sum =
    exit_at_corner lists d e p (subst (IsCut lists d) (sym cut_is) (cut_of_least lists d cut is))
    (low (q_is ∙ bottom) is.bottom_from_1) (high (q_is ∙ bottom) is.bottom_below)
    (subst (λ (k : ℤ). EachHasWeights k lists e.weights.items) (sym q_is) weights)
    (sum ∙ ap (λ (k : ℤ). scaled_by k p) (sym q_is))
    (ap (λ (k : ℤ). scaled_by k p) (q_is ∙ bottom) ∙ meets
    ∙ ap (λ (k : ℤ). scaled_by k d) (sym (t_is ∙ top)))
    (ap₂ (λ (x : ℤ) (y : Cut). x *ℤ y.bottom) (t_is ∙ top) cut_is ∙ swap cut.top cut.bottom
    ∙ ap₂ (λ (x : ℤ) (y : Cut). x *ℤ y.top) (sym (q_is ∙ bottom)) (sym cut_is))
  where
    low : {a b : ℤ} → a ≡ b → pos 1 ≤ℤ b → pos 1 ≤ℤ a
    low {a} {b} f g = omega (arith, linear)

    high : {a b : ℤ} → a ≡ b → b <ℤ CUT_PARTS_BELOW → a ≤ℤ MOST_WEIGHT
    high {a} {b} f g = omega (arith, ints)

    swap : (a b : ℤ) → a *ℤ b ≡ b *ℤ a
    swap a b = ring (a ∷ b ∷ []) (search reads depth 40) refl

-- ---- a vector that is perpendicular to two others and to their normal

none_left : (w u x : Vec3) → pos 0 <ℤ dot_of (cross_of w u) (cross_of w u) →
    dot_of w x ≡ pos 0 → dot_of u x ≡ pos 0 → dot_of (cross_of w u) x ≡ pos 0 → x ≡ zero_vector
none_left w u x some flat level normal =
    same_vector {b = zero_vector} (sym first ∙ none (record { x = pos 1; y = pos 0; z = pos 0 }))
    (sym second ∙ none (record { x = pos 0; y = pos 1; z = pos 0 }))
    (sym third ∙ none (record { x = pos 0; y = pos 0; z = pos 1 }))
  where
    first : dot_of (record { x = pos 1; y = pos 0; z = pos 0 }) x ≡ x.x
    first = ring (x.x ∷ x.y ∷ x.z ∷ []) (search reads depth 40) refl

    second : dot_of (record { x = pos 0; y = pos 1; z = pos 0 }) x ≡ x.y
    second = ring (x.x ∷ x.y ∷ x.z ∷ []) (search reads depth 40) refl

    third : dot_of (record { x = pos 0; y = pos 0; z = pos 1 }) x ≡ x.z
    third = ring (x.x ∷ x.y ∷ x.z ∷ []) (search reads depth 40) refl

    zero_times : (k : ℤ) → pos 0 *ℤ k ≡ pos 0
    zero_times k = ring (k ∷ []) (search reads depth 40) refl

    times_zero : (k : ℤ) → k *ℤ pos 0 ≡ pos 0
    times_zero k = ring (k ∷ []) (search reads depth 40) refl

    none : (e : Vec3) → dot_of e x ≡ pos 0
    none e = cancel_left (dot_of e x) (pos 0) (dot_of (cross_of w u) (cross_of w u)) some
        (along_normal w u x e flat level
        ∙ ap (λ (z : ℤ). z *ℤ dot_of e (cross_of w u)) normal
        ∙ zero_times (dot_of e (cross_of w u))
        ∙ sym (times_zero (dot_of (cross_of w u) (cross_of w u))))

-- ---- the edge

to_second : (v a : Vec3) → edge_point v (difference_of a v) zero_vector ≡ a
to_second v a = same_vector (part v.x a.x) (part v.y a.y) (part v.z a.z)
  where
    part : (a b : ℤ) → a +ℤ (b -ℤ a) +ℤ pos 0 ≡ b
    part a b = omega (arith, linear)

to_third : (v a b : Vec3) → edge_point v (difference_of a v) (difference_of b a) ≡ b
to_third v a b = same_vector (part v.x a.x b.x) (part v.y a.y b.y) (part v.z a.z b.z)
  where
    part : (a b c : ℤ) → a +ℤ (b -ℤ a) +ℤ (c -ℤ b) ≡ c
    part a b c = omega (arith, linear)

-- d's cut is along w, and the cut of its face past the corner along u
module _ (lists : List (List Vec3)) (d : Vec3) (cut : Cut) (u : Vec3)
    (top_beside bottom_beside : ℤ) (places second third : List ℕ)
    (is : IsLeastCut lists d cut) (top : pos 1 ≤ℤ cut.top)
    (farthest : AreFarthest (along_only cut.w) lists places)
    (farthest_back : AreFarthest (back cut.w u) lists second)
    (farthest_forth : AreFarthest (forth cut.w u) lists third)
    (least : IsLeastAlong (faces_of cut.w lists places)
    (rest_of cut.top d cut.bottom (sum_at lists places)) u top_beside bottom_beside) where
  abbrev v : Vec3
  v = sum_of_all (points_at lists places)

  abbrev e : Vec3
  e = sum_of_all (pasts_at lists places second)

  abbrev r : Vec3
  r = difference_of (sum_at lists third) (sum_at lists second)

  ends : AreEdges cut.w u lists places second third
  ends = are_edges cut.w u lists places second third farthest farthest_back farthest_forth

  v_is : sum_of_all (points_at lists places) ≡ sum_at lists places
  v_is = sum_of_points lists places

  beside : IsLeastAlong (faces_of cut.w lists places)
      (rest_of cut.top d cut.bottom (sum_of_all (points_at lists places))) u top_beside
      bottom_beside
  beside =
      let P : Vec3 → Type 0 = λ p. IsLeastAlong (faces_of cut.w lists places)
      (rest_of cut.top d cut.bottom p) u top_beside bottom_beside in
      subst P (sym v_is) least

  abbrev past_edge : Vec3
  past_edge = rest_of top_beside
      (rest_of cut.top d cut.bottom (sum_of_all (points_at lists places))) bottom_beside
      (sum_of_all (pasts_at lists places second))

  edge : IsEdge d cut.w u (sum_of_all (points_at lists places))
      (sum_of_all (pasts_at lists places second))
      (rest_of top_beside (rest_of cut.top d cut.bottom (sum_of_all (points_at lists places)))
      bottom_beside (sum_of_all (pasts_at lists places second)))
      zero_vector (difference_of (sum_at lists third) (sum_at lists second)) cut.top top_beside
      (top_beside *ℤ cut.bottom) bottom_beside
  edge = is_edge lists d cut.w u zero_vector
      (difference_of (sum_at lists third) (sum_at lists second)) cut.top cut.bottom top_beside
      bottom_beside (points_at lists places) (faces_of cut.w lists places)
      (pasts_at lists places second) (edges_of cut.w u lists places second)
      (least_along_cut lists d cut is) (faces_are (along_only cut.w) lists places farthest) beside
      ends.are top (dot_zero cut.w) (dot_zero u) ends.flat ends.level ends.greatest
      (nothing (dot_zero (cross_of cut.w u)) ∙ sym ends.least)
    where
      nothing : {a : ℤ} → a ≡ pos 0 → pos 0 -ℤ a ≡ pos 0
      nothing {a} k = omega (arith, linear)

  second_is : edge_point (sum_of_all (points_at lists places))
      (sum_of_all (pasts_at lists places second)) zero_vector ≡ sum_at lists second
  second_is = ap₂ (λ (p : Vec3) (q : Vec3). edge_point p q zero_vector) v_is ends.past
      ∙ to_second (sum_at lists places) (sum_at lists second)

  third_is : edge_point (sum_of_all (points_at lists places))
      (sum_of_all (pasts_at lists places second))
      (difference_of (sum_at lists third) (sum_at lists second)) ≡ sum_at lists third
  third_is = ap₂ (λ (p : Vec3) (q : Vec3). edge_point p q
      (difference_of (sum_at lists third) (sum_at lists second))) v_is ends.past
      ∙ to_third (sum_at lists places) (sum_at lists second) (sum_at lists third)

  gg : pos 0 <ℤ dot_of (cross_of cut.w u) (cross_of cut.w u)
  gg = gg_above d cut.w u _ _ _ _ _ cut.top top_beside (top_beside *ℤ cut.bottom) bottom_beside
      edge

  from_0 : pos 0 ≤ℤ dot_of (cross_of cut.w u)
      (difference_of (sum_at lists third) (sum_at lists second))
  from_0 = order (dot_zero (cross_of cut.w u)) edge.from_least edge.to_greatest edge.from_1
    where
      order : {m s gr gl : ℤ} → gl ≡ pos 0 → (m *ℤ gl) ≤ℤ s → s ≤ℤ (m *ℤ gr) → pos 1 ≤ℤ m →
          pos 0 ≤ℤ gr
      order {m} {s} {gr} {gl} k f g h =
          nonneg_of_mul_nonneg m gr (omega (arith, linear))
          (at_least (ap (λ (z : ℤ). m *ℤ z) k ∙ times_zero m) f g)
        where
          times_zero : (k : ℤ) → k *ℤ pos 0 ≡ pos 0
          times_zero k = ring (k ∷ []) (search reads depth 40) refl

          at_least : {a b c : ℤ} → a ≡ pos 0 → a ≤ℤ b → b ≤ℤ c → pos 0 ≤ℤ c
          at_least {a} {b} {c} f g h = omega (arith, linear)

  -- where the ends are apart
  pub apart_forth : sum_at lists second ≢ sum_at lists third →
      dot_of (cross_of cut.w u) zero_vector <ℤ dot_of (cross_of cut.w u)
      (difference_of (sum_at lists third) (sum_at lists second))
  apart_forth apart =
      by_lt_z (dot_of (cross_of cut.w u) zero_vector) (dot_of (cross_of cut.w u)
      (difference_of (sum_at lists third) (sum_at lists second))) (λ h. h)
      (λ h. absurd (apart (same (none_left cut.w u
      (difference_of (sum_at lists third) (sum_at lists second)) gg ends.flat ends.level
      (both (dot_zero (cross_of cut.w u)) from_0 h)))))
    where
      both : {a b : ℤ} → a ≡ pos 0 → pos 0 ≤ℤ b → b ≤ℤ a → b ≡ pos 0
      both {a} {b} f g h = omega (arith, linear)

      level : {a b : ℤ} → a -ℤ b ≡ pos 0 → b ≡ a
      level {a} {b} f = omega (arith, linear)

      same : difference_of (sum_at lists third) (sum_at lists second) ≡ zero_vector →
          sum_at lists second ≡ sum_at lists third
      same none = same_vector (level (ap (λ (p : Vec3). p.x) none))
          (level (ap (λ (p : Vec3). p.y) none)) (level (ap (λ (p : Vec3). p.z) none))

  shares_at : HasShares d cut.w (sum_at lists places) (sum_at lists second) (sum_at lists third)
      cut.top
  shares_at =
      let P : Vec3 → Type 0 = λ p. HasShares d cut.w p (edge_point
      (sum_of_all (points_at lists places)) (sum_of_all (pasts_at lists places second)) zero_vector)
      (edge_point (sum_of_all (points_at lists places))
      (sum_of_all (pasts_at lists places second))
      (difference_of (sum_at lists third) (sum_at lists second))) cut.top in
      let Q : Vec3 → Type 0 = λ p. HasShares d cut.w (sum_at lists places) p (edge_point
      (sum_of_all (points_at lists places)) (sum_of_all (pasts_at lists places second))
      (difference_of (sum_at lists third) (sum_at lists second))) cut.top in
      let R : Vec3 → Type 0 = λ p. HasShares d cut.w (sum_at lists places) (sum_at lists second) p
      cut.top in
      subst R third_is (subst Q second_is (subst P v_is
      (has_shares d cut.w u _ _ _ _ _ cut.top top_beside (top_beside *ℤ cut.bottom) bottom_beside
      edge)))

  some_at : sum_at lists second ≢ sum_at lists third →
      pos 1 ≤ℤ (det_of d (sum_at lists second) (sum_at lists third) +ℤ
      det_of d (sum_at lists third) (sum_at lists places) +ℤ
      det_of d (sum_at lists places) (sum_at lists second))
  some_at apart =
      let P : Vec3 → Vec3 → Vec3 → Type 0 =
      λ p a b. pos 1 ≤ℤ (det_of d a b +ℤ det_of d b p +ℤ det_of d p a) in
      let a = edge_point (sum_of_all (points_at lists places))
      (sum_of_all (pasts_at lists places second)) zero_vector in
      let b = edge_point (sum_of_all (points_at lists places))
      (sum_of_all (pasts_at lists places second))
      (difference_of (sum_at lists third) (sum_at lists second)) in
      subst (λ (p : Vec3). P (sum_at lists places) (sum_at lists second) p) third_is
      (subst (λ (p : Vec3). P (sum_at lists places) p b) second_is
      (subst (λ (p : Vec3). P p a b) v_is
      (some_share d cut.w u _ _ _ _ _ cut.top top_beside (top_beside *ℤ cut.bottom) bottom_beside
      edge (apart_forth apart))))

  touches_corner : dot_of cut.w (sum_at lists places) ≡ cut.top
  touches_corner = ap (dot_of cut.w) (sym v_is) ∙ edge.on_cut

  pub between_three : sum_at lists second ≢ sum_at lists third →
      IsBetween d cut.w (sum_at lists places) (sum_at lists second) (sum_at lists third) cut.top
  between_three apart = record {
    first = shares_at.first;
    second = shares_at.second;
    third = shares_at.third;
    some = some_at apart;
    touches_first = touches_corner;
    touches_second = shares_at.touches_a;
    touches_third = shares_at.touches_b;
  }

  -- where the ends are one point
  module _ (one : sum_at lists second ≡ sum_at lists third) where
    no_ends : dot_of (cross_of cut.w u)
        (difference_of (sum_at lists third) (sum_at lists second)) ≡ pos 0
    no_ends = ap (λ (p : Vec3). dot_of (cross_of cut.w u) (difference_of p (sum_at lists second)))
        (sym one) ∙ itself (cross_of cut.w u) (sum_at lists second)
      where
        itself : (g p : Vec3) → dot_of g (difference_of p p) ≡ pos 0
        itself g p = ring (g.x ∷ g.y ∷ g.z ∷ p.x ∷ p.y ∷ p.z ∷ []) (search reads depth 40) refl

    nothing_past : rest_of top_beside
        (rest_of cut.top d cut.bottom (sum_of_all (points_at lists places))) bottom_beside
        (sum_of_all (pasts_at lists places second)) ≡ zero_vector
    nothing_past = none_left cut.w u past_edge gg edge.s_flat edge.s_level
        (between (dot_zero (cross_of cut.w u)) no_ends edge.from_least edge.to_greatest)
      where
        times_zero : (k : ℤ) → k *ℤ pos 0 ≡ pos 0
        times_zero k = ring (k ∷ []) (search reads depth 40) refl

        order : {a b s : ℤ} → a ≡ pos 0 → b ≡ pos 0 → a ≤ℤ s → s ≤ℤ b → s ≡ pos 0
        order {a} {b} {s} i j g h = omega (arith, linear)

        between : {l s r : ℤ} → l ≡ pos 0 → r ≡ pos 0 → (bottom_beside *ℤ l) ≤ℤ s →
            s ≤ℤ (bottom_beside *ℤ r) → s ≡ pos 0
        between i j g h =
            order (ap (λ (z : ℤ). bottom_beside *ℤ z) i ∙ times_zero bottom_beside)
            (ap (λ (z : ℤ). bottom_beside *ℤ z) j ∙ times_zero bottom_beside) g h

    meets_two : scaled_by (cut.top *ℤ top_beside) d ≡
        sum_of (scaled_by (top_beside *ℤ cut.bottom -ℤ bottom_beside) (sum_at lists places))
        (scaled_by bottom_beside (sum_at lists second))
    meets_two = edge.meets
        ∙ ap₂ (λ (p : Vec3) (s : Vec3). sum_of (sum_of (scaled_by (top_beside *ℤ cut.bottom) p)
        (scaled_by bottom_beside (sum_of_all (pasts_at lists places second)))) s) v_is nothing_past
        ∙ ap (λ (p : Vec3). sum_of (sum_of (scaled_by (top_beside *ℤ cut.bottom)
        (sum_at lists places)) (scaled_by bottom_beside p)) zero_vector) ends.past
        ∙ shifted (top_beside *ℤ cut.bottom) bottom_beside (sum_at lists places)
        (sum_at lists second)
      where
        part : (k m v a : ℤ) → k *ℤ v +ℤ m *ℤ (a -ℤ v) +ℤ pos 0 ≡ (k -ℤ m) *ℤ v +ℤ m *ℤ a
        part k m v a = ring (k ∷ m ∷ v ∷ a ∷ []) (search reads depth 40) refl

        shifted : (k m : ℤ) (v a : Vec3) →
            sum_of (sum_of (scaled_by k v) (scaled_by m (difference_of a v))) zero_vector ≡
            sum_of (scaled_by (k -ℤ m) v) (scaled_by m a)
        shifted k m v a = same_vector (part k m v.x a.x) (part k m v.y a.y) (part k m v.z a.z)

    not_along : cross_of (sum_at lists places) (sum_at lists second) ≢ zero_vector
    not_along along =
        not_0 (at_normal d cut.w u _ _ _ _ _ cut.top top_beside (top_beside *ℤ cut.bottom)
        bottom_beside edge) (ap₂ (λ (p : Vec3) (q : Vec3). det_of p q (cross_of cut.w u)) v_is
        ends.past ∙ by_cross (sum_at lists places) (sum_at lists second) (cross_of cut.w u)
        ∙ ap (λ (p : Vec3). dot_of p (cross_of cut.w u)) along ∙ none (cross_of cut.w u))
        (n_above)
      where
        by_cross : (v a g : Vec3) → det_of v (difference_of a v) g ≡ dot_of (cross_of v a) g
        by_cross v a g =
            ring (v.x ∷ v.y ∷ v.z ∷ a.x ∷ a.y ∷ a.z ∷ g.x ∷ g.y ∷ g.z ∷ [])
            (search reads depth 40) refl

        none : (g : Vec3) → dot_of zero_vector g ≡ pos 0
        none g = ring (g.x ∷ g.y ∷ g.z ∷ []) (search reads depth 40) refl

        n_above : pos 0 <ℤ (cut.top *ℤ top_beside)
        n_above = mul_pos cut.top top_beside (omega (arith, linear, edge.top_from_1))
            (omega (arith, linear, edge.beside_from_1))

        not_0 : {a b : ℤ} → a ≡ b → a ≡ pos 0 → pos 0 <ℤ b → ⊥
        not_0 {a} {b} i f g = omega (arith, linear)

    pub between_two : IsBetweenTwo d cut.w (sum_at lists places) (sum_at lists second) cut.top
    between_two = record {
      times = cut.top *ℤ top_beside;
      first = top_beside *ℤ cut.bottom -ℤ bottom_beside;
      second = bottom_beside;
      times_from_1 = from_1 (mul_pos cut.top top_beside (omega (arith, linear, edge.top_from_1))
          (omega (arith, linear, edge.beside_from_1)));
      first_from_0 = omega (arith, linear, edge.at_most);
      second_from_1 = edge.from_1;
      meets = meets_two;
      apart = not_along;
      touches_first = touches_corner;
      touches_second = shares_at.touches_a;
    }
      where
        from_1 : {a : ℤ} → pos 0 <ℤ a → pos 1 ≤ℤ a
        from_1 {a} h = omega (arith, linear)
