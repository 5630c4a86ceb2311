-- The edges of the cycle of a fan's images are directions enough.
use Rattle.std.proofs.Common.{◌≡◌, ℕ, zero, suc, ◌+◌, ◌<◌, ◌≤◌, get_or, subst, inl, inr, ℤ, pos}
use Rattle.std.proofs.Common.{neg_ℤ, ◌-ℤ◌, ◌≤ℤ◌, List, [], ◌∷◌, length, map, true, refl, sym, ap}
use Rattle.std.proofs.Common.{below_more, ◌∙◌, arith}
use Rattle.int_ring.proofs.Laws.{linear}
use Rattle.int_ring.proofs.Ring.{ring, reads}
use Rattle.wrench_geometry.specs.declared.vector.Vec3.{Vec3}
use Rattle.wrench_geometry.specs.Fans.{HaveOneLever, corner_at, is_fan, thrust_of}
use Rattle.wrench_geometry.specs.Vectors.{difference_of, dot_of}
use Rattle.wrench_geometry.specs.Vectors.{zero_vector}
use Rattle.wrench_geometry.specs.Wrenches.{image_at}
use Rattle.wrench_geometry.proofs.Bounds.{same_vector}
use Rattle.wrench_geometry.proofs.FanEdges.{EdgesFollow, Follows, greatest_on_fan}
use Rattle.separation.specs.Directions.{IsPoint, Keeps, KeepsGreatest, Settles}
use Rattle.separation.specs.Directions.{SettlesEdges}
use Rattle.separation.proofs.DirectionLists.{Within, settles_opposite, settles_within, settles_zero}
use Rattle.separation.proofs.Members.{among_head, among_tail}
use Rattle.separation.proofs.Supports.{greatest_is, point_at_most}

-- ---- corners are points, and points are corners

point_cons : (x : Vec3) (xs : List Vec3) (v : Vec3) → IsPoint xs v → IsPoint (x ∷ xs) v
point_cons x xs v (inl e) = inl e
point_cons x xs v (inr among) = inr (among_tail x xs v among)

image_is_point : (list : List Vec3) (i : ℕ) → IsPoint list (image_at list i)
image_is_point [] i = inl refl
image_is_point (x ∷ xs) zero = inr (among_head x xs)
image_is_point (x ∷ xs) (suc i) = point_cons x xs (image_at xs i) (image_is_point xs i)

corner_is_point : (list : List Vec3) (i : ℕ) → IsPoint list (corner_at list i)
corner_is_point list zero = inl refl
corner_is_point list (suc i) = image_is_point list i

record IsCornerOf (list : List Vec3) (v : Vec3) : Type 0 where
  place : ℕ
  there : place ≤ length list
  is : corner_at list place ≡ v

same_image : (list : List Vec3) (k : ℕ) (v : Vec3) → k < length list → get_or list k v ≡ v →
    image_at list k ≡ v
same_image [] k v h e = absurd (omega arith)
same_image (x ∷ xs) zero v h e = e
same_image (x ∷ xs) (suc k) v h e = same_image xs k v (omega arith) e

corner_of_point : (list : List Vec3) (v : Vec3) → IsPoint list v → IsCornerOf list v
corner_of_point list v (inl e) = record { place = zero; there = omega arith; is = sym e }
corner_of_point list v (inr among) = record {
  place = suc among.0;
  there = let h = among.1 in omega arith;
  is = same_image list among.0 v among.1 among.2;
}

-- ---- the lemma

apart : (a b w : Vec3) → dot_of (difference_of a b) w ≡ dot_of w a -ℤ dot_of w b
apart a b w = ring (a.x ∷ a.y ∷ a.z ∷ b.x ∷ b.y ∷ b.z ∷ w.x ∷ w.y ∷ w.z ∷ [])
    (search reads depth 40) refl

follows_of : (p q r s : ℤ) {f g : ℤ} → f ≡ p -ℤ q → g ≡ r -ℤ s → Keeps f g →
    Follows (p -ℤ q) (r -ℤ s)
follows_of p q r s {f} {g} d e keeps = record {
  above = λ h. let more : pos 0 ≤ℤ g = keeps.above (omega (arith, linear)) in omega (arith, linear);
  below = λ h. let less : g ≤ℤ pos 0 = keeps.below (omega (arith, linear)) in omega (arith, linear);
}

-- on a fan the signs on the edges settle where a vector is greatest
pub fan_keeps : (directions list : List Vec3) → HaveOneLever list →
    is_fan (map thrust_of list) ≡ true → SettlesEdges directions list →
    KeepsGreatest directions list
fan_keeps directions list one fan settles u w signs v point greatest =
    greatest_is w list v point
    (λ p p_point. at (corner_of_point list v point) p (corner_of_point list p p_point))
  where
    follows : EdgesFollow list (length list) u w
    follows i h =
        follows_of (dot_of u (corner_at list (suc i))) (dot_of u (corner_at list i))
        (dot_of w (corner_at list (suc i))) (dot_of w (corner_at list i))
        (apart (corner_at list (suc i)) (corner_at list i) u)
        (apart (corner_at list (suc i)) (corner_at list i) w) (settles i h u w signs)

    below : {a b c d : ℤ} → a ≤ℤ b → b ≡ c → d ≡ c → a ≤ℤ d
    below {a} {b} {c} {d} h e f = omega (arith, linear)

    top : (k : ℕ) → corner_at list k ≡ v → (i : ℕ) →
        dot_of u (corner_at list i) ≤ℤ dot_of u (corner_at list k)
    top k e i =
        below (point_at_most u list (corner_at list i) (corner_is_point list i)) greatest
        (ap (λ (x : Vec3). dot_of u x) e)

    moved : {a b c d : ℤ} → a ≤ℤ b → a ≡ c → b ≡ d → c ≤ℤ d
    moved {a} {b} {c} {d} h e f = omega (arith, linear)

    at : IsCornerOf list v → (p : Vec3) → IsCornerOf list p → dot_of w p ≤ℤ dot_of w v
    at k p j =
        moved (greatest_on_fan list one fan u w follows k.place k.there (top k.place k.is) j.place
        j.there)
        (ap (λ (x : Vec3). dot_of w x) j.is) (ap (λ (x : Vec3). dot_of w x) k.is)

-- ---- one edge more

-- the directions settle so many edges of the cycle
abbrev pub SettlesSome : List Vec3 → List Vec3 → ℕ → Type 0
SettlesSome directions list count =
    (i : ℕ) → i < count →
    Settles directions (difference_of (corner_at list (suc i)) (corner_at list i))

pub edges_more : (before after list : List Vec3) (count : ℕ) (from : Vec3) → Within before after →
    from ≡ corner_at list count → SettlesSome before list count →
    Settles after (difference_of (image_at list count) from) → SettlesSome after list (count + 1)
edges_more before after list count from within is settled one i h =
    below_more
    (λ (k : ℕ). Settles after (difference_of (corner_at list (suc k)) (corner_at list k)))
    count earlier here i h
  where
    here : Settles after (difference_of (image_at list count) (corner_at list count))
    here = subst (λ (v : Vec3). Settles after (difference_of (image_at list count) v)) is one

    earlier : (i : ℕ) → i < count →
        Settles after (difference_of (corner_at list (suc i)) (corner_at list i))
    earlier i h =
        settles_within before after within
        (difference_of (corner_at list (suc i)) (corner_at list i)) (settled i h)

pub next_corner : (list : List Vec3) (i : ℕ) (p : Vec3) → p ≡ image_at list i →
    p ≡ corner_at list (i + 1)
next_corner list i p e =
    let next : suc i ≡ i + 1 = omega arith in
    subst (λ (k : ℕ). p ≡ corner_at list k) next e

past_last : (list : List Vec3) → image_at list (length list) ≡ zero_vector
past_last [] = refl
past_last (x ∷ xs) = past_last xs

-- the edge from the last point to the origin
pub all_edges : (before after list : List Vec3) (from : Vec3) → Within before after →
    from ≡ corner_at list (length list) → SettlesSome before list (length list) →
    Settles after from → SettlesEdges after list
all_edges before after list from within is settled last i h =
    edges_more before after list (length list) from within is settled back i (omega arith)
  where
    turned : (a : ℤ) → pos 0 -ℤ a ≡ neg_ℤ a
    turned a = omega (arith, linear)

    back : Settles after (difference_of (image_at list (length list)) from)
    back =
        settles_opposite after from (difference_of (image_at list (length list)) from)
        (ap (λ (v : Vec3). difference_of v from) (past_last list)
        ∙ same_vector (turned from.x) (turned from.y) (turned from.z)) last

pub no_edges : (directions list : List Vec3) → length list ≡ 0 → SettlesEdges directions list
no_edges directions [] none i h =
    settles_zero directions (difference_of (corner_at [] (suc i)) (corner_at [] i))
    (ap (λ (v : Vec3). difference_of zero_vector v) (at_origin i)
    ∙ same_vector {b = zero_vector} nothing nothing nothing)
  where
    nothing : pos 0 -ℤ pos 0 ≡ pos 0
    nothing = omega (arith, linear)

    at_origin : (i : ℕ) → corner_at [] i ≡ zero_vector
    at_origin zero = refl
    at_origin (suc i) = refl
no_edges directions (x ∷ xs) none i h = absurd (omega arith)
