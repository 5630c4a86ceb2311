-- The order of cuts of a face, and cuts that are at most those of normals.
use Rattle.std.proofs.Common.{◌≡◌, ◌⊎◌, inl, inr, ℕ, ◌+◌, ◌<◌, ℤ, pos, ◌*ℤ◌, ◌≤ℤ◌, ◌<ℤ◌, List, []}
use Rattle.std.proofs.Common.{◌∷◌, ◌++◌, take, get_or, length, sym, ap, subst, ◌∙◌, arith}
use Rattle.std.specs.List.{AllZip}
use Rattle.std.proofs.lemmas.List.{take_more}
use Rattle.int_ring.proofs.Laws.{linear}
use Rattle.int_ring.proofs.Order.{fraction_le_trans}
use Rattle.wrench_geometry.specs.declared.vector.Vec3.{Vec3}
use Rattle.wrench_geometry.specs.Vectors.{difference_of, dot_of, opposite_of, support_of}
use Rattle.wrench_geometry.specs.Vectors.{zero_vector}
use Rattle.wrench_geometry.specs.Wrenches.{image_at}
use Rattle.separation.specs.Directions.{IsPoint}
use Rattle.separation.proofs.CutOrder.{none_ahead, one_ahead}
use Rattle.separation.proofs.Members.{none_among}
use Rattle.exit_point.specs.declared.face_cuts.Face.{Face}
use Rattle.exit_point.specs.declared.face_cuts.FaceCut.{FaceCut}
use Rattle.exit_point.specs.Faces.{IsFaceCut, IsNoMore, IsNoMoreAcross, IsNoMoreAlong}
use Rattle.exit_point.specs.Faces.{IsNoMoreAmong, IsNoMoreBetween, IsNoMoreFrom, faces_at}
use Rattle.exit_point.specs.Faces.{vector_of}
use Rattle.exit_point.proofs.Farthest.{point_more}

positive : {a : ℤ} → pos 1 ≤ℤ a → pos 0 <ℤ a
positive {a} g = omega (arith, linear)

pub no_more_itself : (a : FaceCut) → IsNoMore a a
no_more_itself a = omega (arith, linear)

pub no_more_same : (a b : FaceCut) → a ≡ b → IsNoMore a b
no_more_same a b e = let P : FaceCut → Type 0 = IsNoMore a in subst P e (no_more_itself a)

pub no_more_trans : (a b c : FaceCut) → pos 1 ≤ℤ a.bottom → pos 1 ≤ℤ b.bottom →
    pos 1 ≤ℤ c.bottom → IsNoMore a b → IsNoMore b c → IsNoMore a c
no_more_trans a b c α β γ g k =
    fraction_le_trans a.top a.bottom b.top b.bottom c.top c.bottom (positive α) (positive β)
    (positive γ) g k

module _ (lists : List (List Vec3)) (face : Face) where
  -- a cut that is at most that of w, where w is the normal or its opposite, is at most the normal's
  pub no_more_normal : (normal w : Vec3) (cut of_w : FaceCut) →
      (w ≡ normal) ⊎ (w ≡ opposite_of normal) → of_w.u ≡ w → IsFaceCut lists face of_w →
      IsNoMore cut of_w → IsNoMoreAlong lists face cut normal
  no_more_normal normal w cut of_w either is_w is at_most x x_either ahead =
      meet (one_ahead normal (vector_of face.rest) w x either x_either at_w ahead)
    where
      at_w : pos 1 ≤ℤ dot_of w (vector_of face.rest)
      at_w = let P : ℤ → Type 0 = λ z. pos 1 ≤ℤ z in
          subst P (is.bottom ∙ ap (λ (v : Vec3). dot_of v (vector_of face.rest)) is_w) is.ahead

      meet : x ≡ w → (cut.top *ℤ dot_of x (vector_of face.rest)) ≤ℤ
          (support_of (faces_at lists face) x *ℤ cut.bottom)
      meet same =
          let to_x : of_w.u ≡ x = is_w ∙ sym same in
          let P : ℤ → Type 0 = λ z. (cut.top *ℤ z) ≤ℤ (of_w.top *ℤ cut.bottom) in
          let Q : ℤ → Type 0 =
          λ z. (cut.top *ℤ dot_of x (vector_of face.rest)) ≤ℤ (z *ℤ cut.bottom) in
          subst Q (is.top ∙ ap (support_of (faces_at lists face)) to_x)
          (subst P (is.bottom ∙ ap (λ (v : Vec3). dot_of v (vector_of face.rest)) to_x) at_most)

  -- no cut's normal is ahead where it is perpendicular to the rest
  pub no_more_flat : (normal : Vec3) (cut : FaceCut) →
      dot_of normal (vector_of face.rest) ≡ pos 0 → IsNoMoreAlong lists face cut normal
  no_more_flat normal cut flat x either ahead =
      absurd (none_ahead normal (vector_of face.rest) x flat either ahead)

  -- what a cut is at most, a lesser one is too
  module _ (a b : FaceCut) (is : IsFaceCut lists face a) (was : IsFaceCut lists face b)
      (less : IsNoMore a b) where
    pub along_lesser : (normal : Vec3) → IsNoMoreAlong lists face b normal →
        IsNoMoreAlong lists face a normal
    along_lesser normal along x either ahead =
        fraction_le_trans a.top a.bottom b.top b.bottom (support_of (faces_at lists face) x)
        (dot_of x (vector_of face.rest)) (positive is.ahead) (positive was.ahead)
        (positive ahead) less (along x either ahead)

    pub across_lesser : (e : Vec3) → IsNoMoreAcross lists face b e → IsNoMoreAcross lists face a e
    across_lesser e across = record {
      x = along_lesser _ across.x;
      y = along_lesser _ across.y;
      z = along_lesser _ across.z;
    }

    pub from_lesser : (list : List Vec3) (chosen point : Vec3) →
        IsNoMoreFrom lists face b list chosen point → IsNoMoreFrom lists face a list chosen point
    from_lesser list chosen point from level other among on =
        across_lesser (difference_of point other) (from level other among on)

    pub among_lesser : (list : List Vec3) (chosen : Vec3) (points : List Vec3) →
        IsNoMoreAmong lists face b list chosen points →
        IsNoMoreAmong lists face a list chosen points
    among_lesser list chosen points all point among =
        from_lesser list chosen point (all point among)

  -- those of the differences of a point and each of some others
  abbrev pub IsNoMoreWith : FaceCut → Vec3 → Vec3 → List Vec3 → Type 0
  IsNoMoreWith cut chosen point others = (other : Vec3) → IsPoint others other →
      IsNoMoreBetween lists face cut chosen point other

  -- one other more
  pub next_with : (a b : FaceCut) → IsFaceCut lists face a → IsFaceCut lists face b →
      IsNoMore a b → (chosen point : Vec3) (others : List Vec3) (i : ℕ) → i < length others →
      IsNoMoreWith b chosen point (take i others) →
      IsNoMoreBetween lists face a chosen point (get_or others i zero_vector) →
      IsNoMoreWith a chosen point (take (i + 1) others)
  next_with a b is was less chosen point others i h so last other among =
      cases (point_more others i other h among)
    where
      cases : IsPoint (take i others) other ⊎ (get_or others i zero_vector ≡ other) →
          IsNoMoreBetween lists face a chosen point other
      cases (inl front) = λ on. across_lesser a b is was less (difference_of point other)
          (so other front on)
      cases (inr same) = let P : Vec3 → Type 0 = IsNoMoreBetween lists face a chosen point in
          subst P same last

  pub first_with : (cut : FaceCut) (chosen point origin : Vec3) → origin ≡ zero_vector →
      IsNoMoreBetween lists face cut chosen point origin → IsNoMoreWith cut chosen point []
  first_with cut chosen point origin is_zero at other (inl zero) =
      let P : Vec3 → Type 0 = IsNoMoreBetween lists face cut chosen point in
      subst P (is_zero ∙ sym zero) at
  first_with cut chosen point origin is_zero at other (inr none) = none_among other none

  -- one point more
  pub next_among : (a b : FaceCut) → IsFaceCut lists face a → IsFaceCut lists face b →
      IsNoMore a b → (list : List Vec3) (chosen : Vec3) (points : List Vec3) (i : ℕ) →
      i < length points → IsNoMoreAmong lists face b list chosen (take i points) →
      IsNoMoreFrom lists face a list chosen (get_or points i zero_vector) →
      IsNoMoreAmong lists face a list chosen (take (i + 1) points)
  next_among a b is was less list chosen points i h so last point among =
      cases (point_more points i point h among)
    where
      cases : IsPoint (take i points) point ⊎ (get_or points i zero_vector ≡ point) →
          IsNoMoreFrom lists face a list chosen point
      cases (inl front) = from_lesser a b is was less list chosen point (so point front)
      cases (inr same) = let P : Vec3 → Type 0 = IsNoMoreFrom lists face a list chosen in
          subst P same last

  pub first_among : (cut : FaceCut) (list : List Vec3) (chosen origin : Vec3) →
      origin ≡ zero_vector → IsNoMoreFrom lists face cut list chosen origin →
      IsNoMoreAmong lists face cut list chosen []
  first_among cut list chosen origin is_zero at point (inl zero) =
      let P : Vec3 → Type 0 = IsNoMoreFrom lists face cut list chosen in
      subst P (is_zero ∙ sym zero) at
  first_among cut list chosen origin is_zero at point (inr none) = none_among point none

  -- those of the differences of each list, by the image that is chosen of it
  abbrev pub IsNoMoreOfLists : FaceCut → List (List Vec3) → List ℕ → Type 0
  IsNoMoreOfLists cut some places =
      AllZip (λ list place. IsNoMoreAmong lists face cut list (image_at list place) list) some
      places

  pub lists_lesser : (a b : FaceCut) → IsFaceCut lists face a → IsFaceCut lists face b →
      IsNoMore a b → (some : List (List Vec3)) (places : List ℕ) →
      IsNoMoreOfLists b some places → IsNoMoreOfLists a some places
  lists_lesser a b is was less [] [] all = tt
  lists_lesser a b is was less [] (place ∷ places) all = absurd all
  lists_lesser a b is was less (list ∷ some) [] all = absurd all
  lists_lesser a b is was less (list ∷ some) (place ∷ places) all = (
    among_lesser a b is was less list (image_at list place) list all.0,
    lists_lesser a b is was less some places all.1,
  )

  lists_append : (cut : FaceCut) (some : List (List Vec3)) (places : List ℕ) (list : List Vec3)
      (place : ℕ) → IsNoMoreOfLists cut some places →
      IsNoMoreAmong lists face cut list (image_at list place) list →
      IsNoMoreOfLists cut (some ++ list ∷ []) (places ++ place ∷ [])
  lists_append cut [] [] list place all last = (last, tt)
  lists_append cut [] (p ∷ places) list place all last = absurd all
  lists_append cut (l ∷ some) [] list place all last = absurd all
  lists_append cut (l ∷ some) (p ∷ places) list place all last =
      (all.0, lists_append cut some places list place all.1 last)

  -- one list more
  pub next_lists : (a b : FaceCut) → IsFaceCut lists face a → IsFaceCut lists face b →
      IsNoMore a b → (some : List (List Vec3)) (d : List Vec3) (places : List ℕ) (i : ℕ) →
      i < length some → i < length places → IsNoMoreOfLists b (take i some) (take i places) →
      IsNoMoreAmong lists face a (get_or some i d)
      (image_at (get_or some i d) (get_or places i 0)) (get_or some i d) →
      IsNoMoreOfLists a (take (i + 1) some) (take (i + 1) places)
  next_lists a b is was less some d places i h k so last =
      rw (take_more some i d h, take_more places i 0 k)
      (lists_append a (take i some) (take i places) (get_or some i d) (get_or places i 0)
      (lists_lesser a b is was less (take i some) (take i places) so) last)
