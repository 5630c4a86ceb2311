-- The faces of farthest points, and how far their points lie in other directions.
use Rattle.std.proofs.Common.{◌≡◌, ◌⊎◌, inl, inr, ℕ, ℤ, pos, ◌+ℤ◌, ◌-ℤ◌, ◌≤ℤ◌, List, [], ◌∷◌, Bool}
use Rattle.std.proofs.Common.{true, false, sym, ap, ap₂, subst, ◌∙◌, refl, arith}
use Rattle.std.specs.Prelude.{Contains}
use Rattle.std.specs.Ordering.{int_eq}
use mathlib.Core.Bool.{true≢false}
use Rattle.std.proofs.lemmas.Bool.Decides.{Decides-int_eq}
use Rattle.std.proofs.lemmas.List.Elements.{Contains-append_cases, Contains-push_cases}
use Rattle.int_ring.proofs.Laws.{linear}
use Rattle.int_ring.proofs.Ring.{ring, reads}
use Rattle.wrench_geometry.specs.declared.vector.Vec3.{Vec3}
use Rattle.wrench_geometry.specs.Vectors.{difference_of, dot_of, greatest_of, sum_of, support_of}
use Rattle.wrench_geometry.specs.Vectors.{zero_vector}
use Rattle.wrench_geometry.specs.Wrenches.{image_at, sum_at}
use Rattle.wrench_geometry.proofs.Bounds.{same_vector}
use Rattle.wrench_geometry.proofs.Supports.{support_cons}
use Rattle.separation.specs.Directions.{IsPoint}
use Rattle.separation.proofs.Members.{among_head, among_tail, none_among}
use Rattle.separation.proofs.Supports.{greatest_is, point_at_most}
use Rattle.exit_point.specs.declared.orders.Order.{Order}
use Rattle.exit_point.specs.Faces.{face_of, faces_of, kept_where, past_of}
use Rattle.exit_point.specs.Orders.{AreFarthest, IsFarthest}
use Rattle.exit_point.proofs.Faces.{AreFaces, IsFace, dot_difference, dot_sum, dot_zero, sum_of_all}
use Rattle.exit_point.proofs.Farthest.{point_at}

-- ---- vectors

pub back : (v p : Vec3) → sum_of v (difference_of p v) ≡ p
back v p = same_vector (part v.x p.x) (part v.y p.y) (part v.z p.z)
  where
    part : (a b : ℤ) → a +ℤ (b -ℤ a) ≡ b
    part a b = omega (arith, linear)

to_origin : (v : Vec3) → sum_of v zero_vector ≡ v
to_origin v = same_vector (part v.x) (part v.y) (part v.z)
  where
    part : (a : ℤ) → a +ℤ pos 0 ≡ a
    part a = omega (arith, linear)

-- ---- members of a face

kept_first : (b : Bool) (e : Vec3) (list : List Vec3) → b ≡ true → Contains (kept_where b e list) e
kept_first true e list test = among_head e list
kept_first false e list test = absurd (true≢false (sym test))

kept_later : (b : Bool) (e : Vec3) (list : List Vec3) (x : Vec3) → Contains list x →
    Contains (kept_where b e list) x
kept_later true e list x among = among_tail e list x among
kept_later false e list x among = among

kept_cases : (b : Bool) (e : Vec3) (list : List Vec3) (x : Vec3) →
    Contains (kept_where b e list) x → ((b ≡ true) × (e ≡ x)) ⊎ Contains list x
kept_cases true e list x among = cases (Contains-append_cases (e ∷ []) list x among)
  where
    single : Contains [] x ⊎ (e ≡ x) → ((true ≡ true) × (e ≡ x)) ⊎ Contains list x
    single (inl none) = none_among x none
    single (inr same) = inl (refl, same)

    cases : Contains (e ∷ []) x ⊎ Contains list x → ((true ≡ true) × (e ≡ x)) ⊎ Contains list x
    cases (inl head) = single (Contains-push_cases [] e x head)
    cases (inr tail) = inr tail
kept_cases false e list x among = inr among

pub past_has : (w v : Vec3) (list : List Vec3) (p : Vec3) → Contains list p →
    dot_of w p ≡ dot_of w v → Contains (past_of w v list) (difference_of p v)
past_has w v [] p among level = none_among p among
past_has w v (q ∷ list) p among level =
    cases (λ tail. past_has w v list p tail level)
    (Contains-append_cases (q ∷ []) list p among)
  where
    test : Bool
    test = int_eq (dot_of w q) (dot_of w v)

    single : Contains [] p ⊎ (q ≡ p) → Contains (past_of w v (q ∷ list)) (difference_of p v)
    single (inl none) = none_among p none
    single (inr same) =
        let P : Vec3 → Type 0 = λ x. Contains (past_of w v (q ∷ list)) (difference_of x v) in
        subst P same
        (kept_first test (difference_of q v) (past_of w v list)
        ((Decides-int_eq (dot_of w q) (dot_of w v)).1 (ap (dot_of w) same ∙ level)))

    cases : (Contains list p → Contains (past_of w v list) (difference_of p v)) →
        Contains (q ∷ []) p ⊎ Contains list p →
        Contains (past_of w v (q ∷ list)) (difference_of p v)
    cases further (inl head) = single (Contains-push_cases [] q p head)
    cases further (inr tail) = kept_later test (difference_of q v) (past_of w v list)
        (difference_of p v) (further tail)

-- a point of the list that is as far as v, and e is what it is more than v
pub record IsPast (w v : Vec3) (list : List Vec3) (e : Vec3) : Type 0 where
  pub point : Vec3
  pub among : Contains list point
  pub level : dot_of w point ≡ dot_of w v
  pub same : difference_of point v ≡ e

pub past_only : (w v : Vec3) (list : List Vec3) (e : Vec3) → Contains (past_of w v list) e →
    IsPast w v list e
past_only w v [] e among = none_among e among
past_only w v (q ∷ list) e among =
    cases (λ tail. past_only w v list e tail)
    (kept_cases (int_eq (dot_of w q) (dot_of w v)) (difference_of q v) (past_of w v list) e
    among)
  where
    later : IsPast w v list e → IsPast w v (q ∷ list) e
    later is = record {
      point = is.point;
      among = among_tail q list is.point is.among;
      level = is.level;
      same = is.same;
    }

    cases : (Contains (past_of w v list) e → IsPast w v list e) →
        ((int_eq (dot_of w q) (dot_of w v) ≡ true) × (difference_of q v ≡ e)) ⊎
        Contains (past_of w v list) e → IsPast w v (q ∷ list) e
    cases further (inl here) = record {
      point = q;
      among = among_head q list;
      level = (Decides-int_eq (dot_of w q) (dot_of w v)).0 here.0;
      same = here.1;
    }
    cases further (inr tail) = later (further tail)

among_points : (list : List Vec3) (p : Vec3) → IsPoint list p → Contains (zero_vector ∷ list) p
among_points list p (inl origin) = let P : Vec3 → Type 0 = Contains (zero_vector ∷ list) in
    subst P (sym origin) (among_head zero_vector list)
among_points list p (inr among) = among_tail zero_vector list p among

points_among : (list : List Vec3) (p : Vec3) → Contains (zero_vector ∷ list) p → IsPoint list p
points_among list p among = cases (Contains-append_cases (zero_vector ∷ []) list p among)
  where
    single : Contains [] p ⊎ (zero_vector ≡ p) → IsPoint list p
    single (inl none) = none_among p none
    single (inr same) = inl (sym same)

    cases : Contains (zero_vector ∷ []) p ⊎ Contains list p → IsPoint list p
    cases (inl head) = single (Contains-push_cases [] zero_vector p head)
    cases (inr tail) = inr tail

-- ---- one face

pub face_is : (w v : Vec3) (list : List Vec3) → IsPoint list v →
    ((p : Vec3) → IsPoint list p → dot_of w p ≤ℤ dot_of w v) → IsFace w v list (face_of w v list)
face_is w v list chosen most = record {
  chosen = chosen;
  greatest = greatest_is w list v chosen most;
  has = λ p point level.
      inr (past_has w v (zero_vector ∷ list) p (among_points list p point) level);
  only = only;
  flat = flat;
}
  where
    only : (e : Vec3) → IsPoint (face_of w v list) e → IsPoint list (sum_of v e)
    only e (inl origin) = let P : Vec3 → Type 0 = IsPoint list in
        subst P (sym (ap (sum_of v) origin ∙ to_origin v)) chosen
    only e (inr among) =
        let is = past_only w v (zero_vector ∷ list) e among in
        let P : Vec3 → Type 0 = IsPoint list in
        subst P (sym (back v is.point) ∙ ap (sum_of v) is.same)
        (points_among list is.point is.among)

    nothing : {a b : ℤ} → a ≡ b → a -ℤ b ≡ pos 0
    nothing {a} {b} e = omega (arith, linear)

    flat : (e : Vec3) → IsPoint (face_of w v list) e → dot_of w e ≡ pos 0
    flat e (inl origin) = ap (dot_of w) origin ∙ dot_zero w
    flat e (inr among) =
        let is = past_only w v (zero_vector ∷ list) e among in
        ap (dot_of w) (sym is.same) ∙ dot_difference w is.point v ∙ nothing is.level

-- what is known of a face where a is farthest by an order that begins with the face's direction
module _ (o : Order) (v : Vec3) (list face : List Vec3) (is : IsFace o.w v list face) (a : Vec3)
    (point : IsPoint list a) (farthest : IsFarthest o list a) where
  pub level : dot_of o.w a ≡ dot_of o.w v
  level = both (farthest v is.chosen).first (point_at_most o.w list a point) is.greatest
    where
      both : {x y z : ℤ} → y ≤ℤ x → x ≤ℤ z → z ≡ y → x ≡ y
      both {x} {y} {z} f g e = omega (arith, linear)

  pub on_face : IsPoint face (difference_of a v)
  on_face = is.has a point level

  at_level : (e : Vec3) → IsPoint face e → dot_of o.w (sum_of v e) ≡ dot_of o.w a
  at_level e on = dot_sum o.w v e ∙ nothing (is.flat e on) ∙ sym level
    where
      nothing : {x y : ℤ} → y ≡ pos 0 → x +ℤ y ≡ x
      nothing {x} {y} f = omega (arith, linear)

  pub farthest_on_face : (e : Vec3) → IsPoint face e →
      dot_of o.u e ≤ℤ dot_of o.u (difference_of a v)
  farthest_on_face e on =
      shifted (dot_of o.u v) (dot_sum o.u v e) (dot_difference o.u a v)
      ((farthest (sum_of v e) (is.only e on)).second (at_level e on))
    where
      shifted : (x : ℤ) {y z c d : ℤ} → c ≡ x +ℤ y → d ≡ z -ℤ x → c ≤ℤ z → y ≤ℤ d
      shifted x {y} {z} {c} {d} f g h = omega (arith, linear)

  pub face_greatest : greatest_of o.u face ≡ dot_of o.u (difference_of a v)
  face_greatest = greatest_is o.u face (difference_of a v) on_face farthest_on_face

  pub edge_is : IsFace o.u (difference_of a v) face (face_of o.u (difference_of a v) face)
  edge_is = face_is o.u (difference_of a v) face on_face farthest_on_face

-- ---- all faces

abbrev pub points_at : List (List Vec3) → List ℕ → List Vec3
points_at (list ∷ lists) (place ∷ places) = image_at list place ∷ points_at lists places
points_at _ _ = []

pub sum_of_points : (lists : List (List Vec3)) (places : List ℕ) →
    sum_of_all (points_at lists places) ≡ sum_at lists places
sum_of_points [] [] = refl
sum_of_points [] (place ∷ places) = refl
sum_of_points (list ∷ lists) [] = refl
sum_of_points (list ∷ lists) (place ∷ places) =
    ap (sum_of (image_at list place)) (sum_of_points lists places)

pub faces_are : (o : Order) (lists : List (List Vec3)) (places : List ℕ) →
    AreFarthest o lists places →
    AreFaces o.w lists (points_at lists places) (faces_of o.w lists places)
faces_are o [] [] farthest = tt
faces_are o [] (place ∷ places) farthest = absurd farthest
faces_are o (list ∷ lists) [] farthest = absurd farthest
faces_are o (list ∷ lists) (place ∷ places) farthest = (
  face_is o.w (image_at list place) list (point_at list place)
      (λ p point. (farthest.0 p point).first),
  faces_are o lists places farthest.1,
)

-- how far the faces reach along the second direction of an order that begins with theirs
pub faces_reach_to : (first o : Order) (lists : List (List Vec3)) (places chosen : List ℕ) →
    AreFaces o.w lists (points_at lists places) (faces_of o.w lists places) →
    AreFarthest first lists places → AreFarthest o lists chosen →
    support_of (faces_of o.w lists places) o.u ≡ dot_of o.u
    (difference_of (sum_at lists chosen) (sum_at lists places))
faces_reach_to first o [] [] [] are f g = sym (dot_zero o.u)
faces_reach_to first o [] [] (c ∷ chosen) are f g = absurd g
faces_reach_to first o [] (place ∷ places) chosen are f g = absurd f
faces_reach_to first o (list ∷ lists) [] chosen are f g = absurd f
faces_reach_to first o (list ∷ lists) (place ∷ places) [] are f g = absurd g
faces_reach_to first o (list ∷ lists) (place ∷ places) (c ∷ chosen) are f g =
    let v = image_at list place in
    let a = image_at list c in
    let here = face_greatest o v list (face_of o.w v list) are.0 a (point_at list c) g.0 in
    support_cons o.u (face_of o.w v list) (faces_of o.w lists places)
    ∙ ap₂ ◌+ℤ◌ here (faces_reach_to first o lists places chosen are.1 f.1 g.1)
    ∙ joined a v (sum_at lists chosen) (sum_at lists places)
  where
    joined : (a v s t : Vec3) → dot_of o.u (difference_of a v) +ℤ dot_of o.u (difference_of s t) ≡
        dot_of o.u (difference_of (sum_of a s) (sum_of v t))
    joined a v s t =
        ring (o.u.x ∷ o.u.y ∷ o.u.z ∷ a.x ∷ a.y ∷ a.z ∷ v.x ∷ v.y ∷ v.z ∷ s.x ∷ s.y ∷ s.z ∷ t.x ∷
        t.y ∷ t.z ∷ []) (search reads depth 40) refl
