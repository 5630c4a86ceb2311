-- The axes and the differences of a face's points, whose normals have a least cut of the face.
use Rattle.std.proofs.Common.{◌≡◌, ◌⊎◌, inl, inr, ℕ, zero, suc, ℤ, pos, neg_ℤ, ◌+ℤ◌, ◌-ℤ◌, ◌*ℤ◌}
use Rattle.std.proofs.Common.{◌<ℤ◌, List, [], ◌∷◌, ◌++◌, All, sym, ap, subst, ◌∙◌, refl, arith}
use Rattle.std.specs.Prelude.{Contains}
use Rattle.std.proofs.lemmas.List.Elements.{Contains-append_cases, Contains-append_left}
use Rattle.std.proofs.lemmas.List.Elements.{Contains-append_right, Contains-push_cases}
use Rattle.int_ring.proofs.Laws.{linear}
use Rattle.int_ring.proofs.Order.{cancel_left}
use Rattle.int_ring.proofs.Ring.{ring, reads}
use Rattle.wrench_geometry.specs.declared.vector.Vec3.{Vec3}
use Rattle.wrench_geometry.specs.Vectors.{cross_of, det_of, difference_of, dot_of, opposite_of}
use Rattle.wrench_geometry.specs.Vectors.{sum_of, support_of, zero_vector}
use Rattle.wrench_geometry.specs.Wrenches.{image_at}
use Rattle.wrench_geometry.proofs.Bounds.{same_vector}
use Rattle.separation.specs.Directions.{IsPoint, SettlesDifferences, Spans}
use Rattle.separation.proofs.DirectionLists.{Within, axes, axes_span, differences_within}
use Rattle.separation.proofs.DirectionLists.{settles_member, spans_within}
use Rattle.separation.proofs.LeastCuts.{directions_of_sums}
use Rattle.separation.proofs.Members.{among_head, among_tail, none_among}
use Rattle.separation.proofs.Moves.{IsDirectionList}
use Rattle.exit_point.specs.declared.face_cuts.Face.{Face}
use Rattle.exit_point.specs.declared.face_cuts.FaceCut.{FaceCut}
use Rattle.exit_point.specs.Faces.{IsFaceCut, IsLeastAlong, IsNoMoreAcross, IsNoMoreAlong, faces_at}
use Rattle.exit_point.specs.Faces.{faces_of, face_of, vector_of}
use Rattle.exit_point.proofs.Beside.{IsAtMostNormals, least_beside}
use Rattle.exit_point.proofs.FacePoints.{points_at}
use Rattle.exit_point.proofs.Faces.{AreFaces, IsFace, dot_difference, dot_sum}
use Rattle.exit_point.proofs.NoMore.{IsNoMoreOfLists, no_more_flat}

-- ---- differences

abbrev pub differences_from : Vec3 → List Vec3 → List Vec3
differences_from a [] = []
differences_from a (b ∷ points) = difference_of a b ∷ differences_from a points

abbrev pub differences_of : List Vec3 → List Vec3 → List Vec3
differences_of [] others = []
differences_of (a ∷ points) others = differences_from a others ++ differences_of points others

from_has : (a : Vec3) (points : List Vec3) (b : Vec3) → Contains points b →
    Contains (differences_from a points) (difference_of a b)
from_has a [] b among = none_among b among
from_has a (p ∷ points) b among =
    cases (λ tail. from_has a points b tail) (Contains-append_cases (p ∷ []) points b among)
  where
    single : Contains [] b ⊎ (p ≡ b) →
        Contains (differences_from a (p ∷ points)) (difference_of a b)
    single (inl none) = none_among b none
    single (inr same) =
        let P : Vec3 → Type 0 =
        λ x. Contains (differences_from a (p ∷ points)) (difference_of a x) in
        subst P same (among_head (difference_of a p) (differences_from a points))

    cases : (Contains points b → Contains (differences_from a points) (difference_of a b)) →
        Contains (p ∷ []) b ⊎ Contains points b →
        Contains (differences_from a (p ∷ points)) (difference_of a b)
    cases further (inl head) = single (Contains-push_cases [] p b head)
    cases further (inr tail) = among_tail (difference_of a p) (differences_from a points)
        (difference_of a b) (further tail)

of_has : (points others : List Vec3) (a b : Vec3) → Contains points a → Contains others b →
    Contains (differences_of points others) (difference_of a b)
of_has [] others a b among beside = none_among a among
of_has (p ∷ points) others a b among beside =
    cases (λ tail. of_has points others a b tail beside)
    (Contains-append_cases (p ∷ []) points a among)
  where
    All_of : List Vec3
    All_of = differences_from p others ++ differences_of points others

    single : Contains [] a ⊎ (p ≡ a) → Contains All_of (difference_of a b)
    single (inl none) = none_among a none
    single (inr same) =
        let P : Vec3 → Type 0 = λ x. Contains All_of (difference_of x b) in
        subst P same
        (Contains-append_left (differences_from p others) (differences_of points others)
        (difference_of p b) (from_has p others b beside))

    cases : (Contains points a → Contains (differences_of points others) (difference_of a b)) →
        Contains (p ∷ []) a ⊎ Contains points a → Contains All_of (difference_of a b)
    cases further (inl head) = single (Contains-push_cases [] p a head)
    cases further (inr tail) = Contains-append_right (differences_from p others)
        (differences_of points others) (difference_of a b) (further tail)

-- e is the difference of two points
pub record IsDifference (points others : List Vec3) (e : Vec3) : Type 0 where
  pub first : Vec3
  pub second : Vec3
  pub first_among : Contains points first
  pub second_among : Contains others second
  pub same : difference_of first second ≡ e

from_only : (a : Vec3) (others : List Vec3) (e : Vec3) → Contains (differences_from a others) e →
    (b : Vec3) × Contains others b × (difference_of a b ≡ e)
from_only a [] e among = none_among e among
from_only a (p ∷ others) e among =
    cases (λ tail. from_only a others e tail)
    (Contains-append_cases (difference_of a p ∷ []) (differences_from a others) e among)
  where
    Found : List Vec3 → Type 0
    Found list = (b : Vec3) × Contains list b × (difference_of a b ≡ e)

    single : Contains [] e ⊎ (difference_of a p ≡ e) → Found (p ∷ others)
    single (inl none) = none_among e none
    single (inr same) = (p, among_head p others, same)

    cases : (Contains (differences_from a others) e → Found others) →
        Contains (difference_of a p ∷ []) e ⊎ Contains (differences_from a others) e →
        Found (p ∷ others)
    cases further (inl head) = single (Contains-push_cases [] (difference_of a p) e head)
    cases further (inr tail) =
        let found = further tail in
        (found.0, among_tail p others found.0 found.1, found.2)

of_only : (points others : List Vec3) (e : Vec3) → Contains (differences_of points others) e →
    IsDifference points others e
of_only [] others e among = none_among e among
of_only (p ∷ points) others e among =
    cases (λ tail. of_only points others e tail)
    (Contains-append_cases (differences_from p others) (differences_of points others) e among)
  where
    later : IsDifference points others e → IsDifference (p ∷ points) others e
    later is = record {
      first = is.first;
      second = is.second;
      first_among = among_tail p points is.first is.first_among;
      second_among = is.second_among;
      same = is.same;
    }

    here : (b : Vec3) × Contains others b × (difference_of p b ≡ e) →
        IsDifference (p ∷ points) others e
    here found = record {
      first = p;
      second = found.0;
      first_among = among_head p points;
      second_among = found.1;
      same = found.2;
    }

    cases : (Contains (differences_of points others) e → IsDifference points others e) →
        Contains (differences_from p others) e ⊎ Contains (differences_of points others) e →
        IsDifference (p ∷ points) others e
    cases further (inl head) = here (from_only p others e head)
    cases further (inr tail) = later (further tail)

points_among : (list : List Vec3) (p : Vec3) → Contains (zero_vector ∷ list) p → IsPoint list p
points_among list p among = cases (Contains-append_cases (zero_vector ∷ []) list p among)
  where
    single : Contains [] p ⊎ (zero_vector ≡ p) → IsPoint list p
    single (inl none) = none_among p none
    single (inr same) = inl (sym same)

    cases : Contains (zero_vector ∷ []) p ⊎ Contains list p → IsPoint list p
    cases (inl head) = single (Contains-push_cases [] zero_vector p head)
    cases (inr tail) = inr tail

among_points : (list : List Vec3) (p : Vec3) → IsPoint list p → Contains (zero_vector ∷ list) p
among_points list p (inl origin) = let P : Vec3 → Type 0 = Contains (zero_vector ∷ list) in
    subst P (sym origin) (among_head zero_vector list)
among_points list p (inr among) = among_tail zero_vector list p among

-- the differences of a face's points, the zero vector among them
abbrev pub own_of : List Vec3 → List Vec3
own_of face = differences_of (zero_vector ∷ face) (zero_vector ∷ face)

abbrev pub directions_beside : List (List Vec3) → List Vec3
directions_beside [] = axes
directions_beside (face ∷ faces) = own_of face ++ directions_beside faces

-- ---- what they settle

axes_within : (faces : List (List Vec3)) → Within axes (directions_beside faces)
axes_within [] e among = among
axes_within (face ∷ faces) e among =
    Contains-append_right (own_of face) (directions_beside faces) e (axes_within faces e among)

spans : (faces : List (List Vec3)) → Spans (directions_beside faces)
spans faces = spans_within axes (directions_beside faces) (axes_within faces) (axes_span axes refl)

settled : (faces : List (List Vec3)) → All (SettlesDifferences (directions_beside faces)) faces
settled [] k d h = absurd (omega arith)
settled (face ∷ faces) zero d h = λ a b point other.
    settles_member (directions_beside (face ∷ faces)) (difference_of a b)
    (Contains-append_left (own_of face) (directions_beside faces) (difference_of a b)
    (of_has (zero_vector ∷ face) (zero_vector ∷ face) a b (among_points face a point)
    (among_points face b other)))
settled (face ∷ faces) (suc k) d h =
    differences_within (directions_beside faces) (directions_beside (face ∷ faces))
    (λ e. Contains-append_right (own_of face) (directions_beside faces) e) _
    (settled faces k d (omega arith))

pub direction_list_beside : (faces : List (List Vec3)) →
    IsDirectionList (support_of faces) (directions_beside faces)
direction_list_beside faces =
    directions_of_sums faces (directions_beside faces) (spans faces) (settled faces)

-- ---- normals

abbrev pub axis_x : Vec3
axis_x = record { x = pos 1; y = pos 0; z = pos 0 }

abbrev pub axis_y : Vec3
axis_y = record { x = pos 0; y = pos 1; z = pos 0 }

abbrev pub axis_z : Vec3
axis_z = record { x = pos 0; y = pos 0; z = pos 1 }

-- three vectors that are perpendicular to one that isn't zero
flat_three : (w a b r : Vec3) → pos 0 <ℤ dot_of w w → dot_of w a ≡ pos 0 → dot_of w b ≡ pos 0 →
    dot_of w r ≡ pos 0 → dot_of (cross_of a b) r ≡ pos 0
flat_three w a b r some on_a on_b on_r =
    cancel_left (dot_of (cross_of a b) r) (pos 0) (dot_of w w) some
    (spread w a b r ∙ gone (det_of w b r) (det_of w r a) (det_of w a b)
    ∙ sym (nothing (dot_of w w)))
  where
    spread : (w a b r : Vec3) → dot_of w w *ℤ dot_of (cross_of a b) r ≡
        dot_of w a *ℤ det_of w b r +ℤ dot_of w b *ℤ det_of w r a +ℤ dot_of w r *ℤ det_of w a b
    spread w a b r =
        ring (w.x ∷ w.y ∷ w.z ∷ a.x ∷ a.y ∷ a.z ∷ b.x ∷ b.y ∷ b.z ∷ r.x ∷ r.y ∷ r.z ∷ [])
        (search reads depth 40) refl

    nothing : (k : ℤ) → k *ℤ pos 0 ≡ pos 0
    nothing k = ring (k ∷ []) (search reads depth 40) refl

    none : (x y z : ℤ) → pos 0 *ℤ x +ℤ pos 0 *ℤ y +ℤ pos 0 *ℤ z ≡ pos 0
    none x y z = ring (x ∷ y ∷ z ∷ []) (search reads depth 40) refl

    gone : (x y z : ℤ) →
        dot_of w a *ℤ x +ℤ dot_of w b *ℤ y +ℤ dot_of w r *ℤ z ≡ pos 0
    gone x y z = (λ i. on_a i *ℤ x +ℤ on_b i *ℤ y +ℤ on_r i *ℤ z) ∙ none x y z

crossed_back : (a b : Vec3) → cross_of a b ≡ opposite_of (cross_of b a)
crossed_back a b = same_vector (turns a.y a.z b.y b.z) (turns a.z a.x b.z b.x)
    (turns a.x a.y b.x b.y)
  where
    turns : (p q r s : ℤ) → p *ℤ s -ℤ q *ℤ r ≡ neg_ℤ (r *ℤ q -ℤ s *ℤ p)
    turns p q r s = ring (p ∷ q ∷ r ∷ s ∷ []) (search reads depth 40) refl

twice : (n : Vec3) → opposite_of (opposite_of n) ≡ n
twice n = same_vector (back n.x) (back n.y) (back n.z)
  where
    back : (a : ℤ) → neg_ℤ (neg_ℤ a) ≡ a
    back a = omega (arith, linear)

module _ (lists : List (List Vec3)) (face : Face) (cut : FaceCut) where
  turned_back : (a b : Vec3) → IsNoMoreAlong lists face cut (cross_of b a) →
      IsNoMoreAlong lists face cut (cross_of a b)
  turned_back a b along x either ahead = along x (turned either) ahead
    where
      turned : (x ≡ cross_of a b) ⊎ (x ≡ opposite_of (cross_of a b)) →
          (x ≡ cross_of b a) ⊎ (x ≡ opposite_of (cross_of b a))
      turned (inl e) = inr (e ∙ crossed_back a b)
      turned (inr e) = inl (e ∙ ap opposite_of (crossed_back a b) ∙ twice (cross_of b a))

  -- what is known of a direction: the cut is at most the normals of the axes and it, and it is an
  -- axis or perpendicular to the face's direction
  pub record IsSeen (e : Vec3) : Type 0 where
    pub across : IsNoMoreAcross lists face cut e
    pub place : ((e ≡ axis_x) ⊎ ((e ≡ axis_y) ⊎ (e ≡ axis_z))) ⊎ (dot_of face.w e ≡ pos 0)

  with_axis : (a b : Vec3) → (a ≡ axis_x) ⊎ ((a ≡ axis_y) ⊎ (a ≡ axis_z)) →
      IsNoMoreAcross lists face cut b → IsNoMoreAlong lists face cut (cross_of a b)
  with_axis a b (inl e) across =
      let P : Vec3 → Type 0 = λ v. IsNoMoreAlong lists face cut (cross_of v b) in
      subst P (sym e) across.x
  with_axis a b (inr (inl e)) across =
      let P : Vec3 → Type 0 = λ v. IsNoMoreAlong lists face cut (cross_of v b) in
      subst P (sym e) across.y
  with_axis a b (inr (inr e)) across =
      let P : Vec3 → Type 0 = λ v. IsNoMoreAlong lists face cut (cross_of v b) in
      subst P (sym e) across.z

  pub both_seen : pos 0 <ℤ dot_of face.w face.w → dot_of face.w (vector_of face.rest) ≡ pos 0 →
      (a b : Vec3) → IsSeen a → IsSeen b → IsNoMoreAlong lists face cut (cross_of a b)
  both_seen some flat a b is_a is_b = cases is_a.place is_b.place
    where
      cases : ((a ≡ axis_x) ⊎ ((a ≡ axis_y) ⊎ (a ≡ axis_z))) ⊎ (dot_of face.w a ≡ pos 0) →
          ((b ≡ axis_x) ⊎ ((b ≡ axis_y) ⊎ (b ≡ axis_z))) ⊎ (dot_of face.w b ≡ pos 0) →
          IsNoMoreAlong lists face cut (cross_of a b)
      cases (inl axis) place = with_axis a b axis is_b.across
      cases (inr on_a) (inl axis) = turned_back a b (with_axis b a axis is_a.across)
      cases (inr on_a) (inr on_b) =
          no_more_flat lists face (cross_of a b) cut
          (flat_three face.w a b (vector_of face.rest) some on_a on_b flat)

  -- the axes were seen, and the differences of each list
  pub record AreAxesSeen : Type 0 where
    pub x : IsNoMoreAcross lists face cut axis_x
    pub y : IsNoMoreAcross lists face cut axis_y
    pub z : IsNoMoreAcross lists face cut axis_z

  axis_seen : AreAxesSeen → (e : Vec3) → Contains axes e → IsSeen e
  axis_seen seen e among =
      first (Contains-append_cases (axis_x ∷ []) (axis_y ∷ axis_z ∷ []) e among)
    where
      is_x : Contains [] e ⊎ (axis_x ≡ e) → IsSeen e
      is_x (inl none) = none_among e none
      is_x (inr same) = let P : Vec3 → Type 0 = IsNoMoreAcross lists face cut in
          record { across = subst P same seen.x; place = inl (inl (sym same)) }

      is_y : Contains [] e ⊎ (axis_y ≡ e) → IsSeen e
      is_y (inl none) = none_among e none
      is_y (inr same) = let P : Vec3 → Type 0 = IsNoMoreAcross lists face cut in
          record { across = subst P same seen.y; place = inl (inr (inl (sym same))) }

      is_z : Contains [] e ⊎ (axis_z ≡ e) → IsSeen e
      is_z (inl none) = none_among e none
      is_z (inr same) = let P : Vec3 → Type 0 = IsNoMoreAcross lists face cut in
          record { across = subst P same seen.z; place = inl (inr (inr (sym same))) }

      second : Contains (axis_y ∷ []) e ⊎ Contains (axis_z ∷ []) e → IsSeen e
      second (inl head) = is_y (Contains-push_cases [] axis_y e head)
      second (inr head) = is_z (Contains-push_cases [] axis_z e head)

      first : Contains (axis_x ∷ []) e ⊎ Contains (axis_y ∷ axis_z ∷ []) e → IsSeen e
      first (inl head) = is_x (Contains-push_cases [] axis_x e head)
      first (inr tail) = second (Contains-append_cases (axis_y ∷ []) (axis_z ∷ []) e tail)

  -- a difference of two points of a list's face
  own_seen : (list : List Vec3) (v : Vec3) (own : List Vec3) → IsFace face.w v list own →
      ((point : Vec3) → IsPoint list point → dot_of face.w point ≡ dot_of face.w v →
      (other : Vec3) → IsPoint list other → dot_of face.w other ≡ dot_of face.w v →
      IsNoMoreAcross lists face cut (difference_of point other)) →
      (e : Vec3) → Contains (own_of own) e → IsSeen e
  own_seen list v own is all e among =
      let found = of_only (zero_vector ∷ own) (zero_vector ∷ own) e among in
      let a = found.first in
      let b = found.second in
      let on_a = points_among own a found.first_among in
      let on_b = points_among own b found.second_among in
      let P : Vec3 → Type 0 = IsNoMoreAcross lists face cut in
      record {
        across = subst P (shifted v a b ∙ found.same)
            (all (sum_of v a) (is.only a on_a) (level a on_a) (sum_of v b) (is.only b on_b)
            (level b on_b));
        place = inr (ap (dot_of face.w) (sym found.same)
            ∙ dot_difference face.w a b ∙ nothing (is.flat a on_a) (is.flat b on_b));
      }
    where
      part : (v a b : ℤ) → v +ℤ a -ℤ (v +ℤ b) ≡ a -ℤ b
      part v a b = omega (arith, linear)

      shifted : (v a b : Vec3) →
          difference_of (sum_of v a) (sum_of v b) ≡ difference_of a b
      shifted v a b = same_vector (part v.x a.x b.x) (part v.y a.y b.y) (part v.z a.z b.z)

      nothing : {x y : ℤ} → x ≡ pos 0 → y ≡ pos 0 → x -ℤ y ≡ pos 0
      nothing {x} {y} f g = omega (arith, linear)

      more : {x y : ℤ} → y ≡ pos 0 → x +ℤ y ≡ x
      more {x} {y} f = omega (arith, linear)

      level : (a : Vec3) → IsPoint own a → dot_of face.w (sum_of v a) ≡ dot_of face.w v
      level a on = dot_sum face.w v a ∙ more (is.flat a on)

  pub all_seen : AreAxesSeen → (some : List (List Vec3)) (places : List ℕ) →
      AreFaces face.w some (points_at some places) (faces_of face.w some places) →
      IsNoMoreOfLists lists face cut some places →
      (e : Vec3) → Contains (directions_beside (faces_of face.w some places)) e → IsSeen e
  all_seen axes_are [] [] are all e among = axis_seen axes_are e among
  all_seen axes_are [] (place ∷ places) are all e among = absurd all
  all_seen axes_are (list ∷ some) [] are all e among = absurd all
  all_seen axes_are (list ∷ some) (place ∷ places) are all e among =
      cases (λ tail. all_seen axes_are some places are.1 all.1 e tail)
      (Contains-append_cases (own_of (face_of face.w (image_at list place) list))
      (directions_beside (faces_of face.w some places)) e among)
    where
      cases : (Contains (directions_beside (faces_of face.w some places)) e → IsSeen e) →
          Contains (own_of (face_of face.w (image_at list place) list)) e ⊎
          Contains (directions_beside (faces_of face.w some places)) e → IsSeen e
      cases further (inl head) = own_seen list (image_at list place)
          (face_of face.w (image_at list place) list) are.0
          (λ point a on other b level. all.0 point a on other b level) e head
      cases further (inr tail) = further tail

  -- the end
  pub least_of_face : pos 0 <ℤ dot_of face.w face.w →
      dot_of face.w (vector_of face.rest) ≡ pos 0 → IsFaceCut lists face cut → AreAxesSeen →
      AreFaces face.w lists (points_at lists face.corner.places.items) (faces_at lists face) →
      IsNoMoreOfLists lists face cut lists face.corner.places.items →
      IsLeastAlong (faces_at lists face) (vector_of face.rest) cut.u cut.top cut.bottom
  least_of_face some flat is axes_are are all =
      least_beside (faces_at lists face) (directions_beside (faces_at lists face))
      (vector_of face.rest) cut.u cut.top cut.bottom
      (direction_list_beside (faces_at lists face)) is.bottom is.top is.ahead at_most
    where
      seen : (e : Vec3) → Contains (directions_beside (faces_at lists face)) e → IsSeen e
      seen e among = all_seen axes_are lists face.corner.places.items are all e among

      at_most : IsAtMostNormals (faces_at lists face) (vector_of face.rest)
          (directions_beside (faces_at lists face)) cut.top cut.bottom
      at_most a b w among beside either ahead =
          both_seen some flat a b (seen a among) (seen b beside) w either ahead
