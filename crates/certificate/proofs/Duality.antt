-- Thrusts in pieces are no farther along any direction than the pieces' support.
use Rattle.std.proofs.Common.{◌≡◌, ℕ, ℤ, pos, ◌+ℤ◌, ◌-ℤ◌, ◌*ℤ◌, ◌≤ℤ◌, ◌<ℤ◌, List, [], ◌∷◌, length}
use Rattle.std.proofs.Common.{map, refl, ap, ap₂, ◌∙◌, arith, subst}
use Rattle.std.specs.Prelude.{sum}
use Rattle.std.proofs.lemmas.Int.{ints}
use Rattle.int_ring.proofs.Laws.{linear}
use Rattle.int_ring.proofs.Ring.{ring, reads}
use Rattle.int_ring.proofs.Order.{cancel_le_left, mul_le_left, mul_lt_left}
use Rattle.plant_model.specs.Lies.{LiesIn, weighted_x, weighted_y}
use Rattle.plant_model.specs.declared.thrust.Point.{Point}
use Rattle.plant_model.specs.declared.thrust.Thrust.{Thrust}
use Rattle.wrench_geometry.specs.Chosen.{images_of}
use Rattle.wrench_geometry.specs.declared.vector.Vec3.{Vec3}
use Rattle.wrench_geometry.specs.Vectors.{difference_of, dot_of, greatest_of, scaled_by, sum_of}
use Rattle.wrench_geometry.specs.Vectors.{support_of, zero_vector}
use Rattle.wrench_geometry.specs.Wrenches.{image_of}
use Rattle.certificate.specs.Outcomes.{EachStands, total_of, without}
use Rattle.certificate.specs.Sides.{place_of}
use Rattle.certificate.proofs.Hulls.{weighted_at_most}
use Rattle.certificate.proofs.Supports.{greatest_at_least, greatest_from_0, support_cons}

-- the thrust over q of a piece
piece_at_most : (w : Vec3) (lever : Point) (piece : List Point) (a : Thrust) (q : ℤ) →
    LiesIn piece a q → dot_of w (image_of lever (place_of a))
    ≤ℤ (greatest_of w (map (image_of lever) piece) *ℤ q)
piece_at_most w lever piece a q lies =
    over (greatest_of w (map (image_of lever) piece)) lies.k q (pos (sum lies.weights))
    (pos lies.origin_weight) (dot_of w (image_of lever (place_of a))) lies.at_least_one
    (natural lies.origin_weight) (greatest_from_0 w (map (image_of lever) piece)) lies.whole
    (subst (λ (z : ℤ). z ≤ℤ (greatest_of w (map (image_of lever) piece) *ℤ pos (sum lies.weights)))
    met
    (weighted_at_most (w.x -ℤ lever.y *ℤ w.z) (w.y +ℤ lever.x *ℤ w.z)
    (greatest_of w (map (image_of lever) piece)) lies.weights piece lies.one_each
    (λ p among. along (form p) (greatest_at_least w (image_of lever) piece p among))))
  where
    natural : (n : ℕ) → pos 0 ≤ℤ pos n
    natural n = omega (arith, ints)

    along : {a b c : ℤ} → b ≡ a → b ≤ℤ c → a ≤ℤ c
    along {a} {b} {c} e h = omega (arith, linear)

    form : (p : Point) → dot_of w (image_of lever p) ≡ (w.x -ℤ lever.y *ℤ w.z) *ℤ p.x
        +ℤ (w.y +ℤ lever.x *ℤ w.z) *ℤ p.y
    form p =
        ring (w.x ∷ w.y ∷ w.z ∷ lever.x ∷ lever.y ∷ p.x ∷ p.y ∷ []) (search reads depth 40) refl

    met : (w.x -ℤ lever.y *ℤ w.z) *ℤ weighted_x lies.weights piece
        +ℤ (w.y +ℤ lever.x *ℤ w.z) *ℤ weighted_y lies.weights piece
        ≡ lies.k *ℤ dot_of w (image_of lever (place_of a))
    met =
        ap₂ (λ (x y : ℤ). (w.x -ℤ lever.y *ℤ w.z) *ℤ x +ℤ (w.y +ℤ lever.x *ℤ w.z) *ℤ y) lies.x
        lies.y
        ∙ ring (w.x ∷ w.y ∷ w.z ∷ lever.x ∷ lever.y ∷ lies.k ∷ a.x ∷ a.y ∷ [])
        (search reads depth 40) refl

    over : (g k q n o z : ℤ) → pos 1 ≤ℤ k → pos 0 ≤ℤ o → pos 0 ≤ℤ g → n +ℤ o ≡ k *ℤ q →
        (k *ℤ z) ≤ℤ (g *ℤ n) → z ≤ℤ (g *ℤ q)
    over g k q n o z κ ο γ whole h =
        let m = mul_le_left n (k *ℤ q) g (omega (arith, linear)) γ in
        let e : k *ℤ (g *ℤ q) ≡ g *ℤ (k *ℤ q) =
        ring (k ∷ g ∷ q ∷ []) (search reads depth 40) refl in
        cancel_le_left z (g *ℤ q) k (omega (arith, linear)) (omega (arith, linear, m, e))

-- along w the thrusts over q are no farther than the fixed ones and the support
pub all_at_most : (w : Vec3) (q : ℤ) (levers : List Point) (pieces : List (List Point))
    (fixed : List Point) (thrusts : List Thrust) → length pieces ≡ length levers →
    EachStands (λ piece a. LiesIn piece a q) q pieces fixed thrusts →
    dot_of w (total_of levers (map place_of thrusts))
    ≤ℤ ((support_of (images_of levers pieces) w +ℤ dot_of w (total_of levers fixed)) *ℤ q)
all_at_most w q [] pieces fixed thrusts same each =
    nothing (dot_of w zero_vector) q (ring (w.x ∷ w.y ∷ w.z ∷ []) (search reads depth 40) refl)
  where
    nothing : (d q : ℤ) → d ≡ pos 0 → d ≤ℤ ((pos 0 +ℤ d) *ℤ q)
    nothing d q e =
        let f : (pos 0 +ℤ d) *ℤ q ≡ pos 0 = ap (λ (z : ℤ). (pos 0 +ℤ z) *ℤ q) e
        ∙ ring (q ∷ []) (search reads depth 40) refl in
        omega (arith, linear)
all_at_most w q (lever ∷ levers) [] fixed thrusts same each = absurd (omega arith)
all_at_most w q (lever ∷ levers) (piece ∷ pieces) [] thrusts same each = absurd each
all_at_most w q (lever ∷ levers) (piece ∷ pieces) (f ∷ fixed) [] same each = absurd each
all_at_most w q (lever ∷ levers) (piece ∷ pieces) (f ∷ fixed) (t ∷ thrusts) same each =
    joined (greatest_of w (map (image_of lever) piece)) (support_of (images_of levers pieces) w) q
    (dot_of w (image_of lever (place_of t))) (dot_of w (total_of levers (map place_of thrusts)))
    (dot_of w (image_of lever f)) (dot_of w (total_of levers fixed))
    (split (image_of lever (place_of t)) (total_of levers (map place_of thrusts)))
    (split (image_of lever f) (total_of levers fixed)) (support_cons w (map (image_of lever) piece)
    (images_of levers pieces))
    (less (ring (w.x ∷ w.y ∷ w.z ∷ lever.x ∷ lever.y ∷ t.x ∷ t.y ∷ f.x ∷ f.y ∷ q ∷ [])
    (search reads depth 40) refl) (piece_at_most w lever piece (without q f t) q each.0))
    (all_at_most w q levers pieces fixed thrusts (omega arith) each.1)
  where
    split : (a b : Vec3) → dot_of w (sum_of a b) ≡ dot_of w a +ℤ dot_of w b
    split a b =
        ring (w.x ∷ w.y ∷ w.z ∷ a.x ∷ a.y ∷ a.z ∷ b.x ∷ b.y ∷ b.z ∷ []) (search reads depth 40) refl

    less : {a b c : ℤ} → a ≡ b → a ≤ℤ c → b ≤ℤ c
    less {a} {b} {c} e h = omega (arith, linear)

    joined : (g s q t ts f fs : ℤ) {tt' ff gg : ℤ} → tt' ≡ t +ℤ ts → ff ≡ f +ℤ fs → gg ≡ g +ℤ s →
        (t -ℤ q *ℤ f) ≤ℤ (g *ℤ q) → ts ≤ℤ ((s +ℤ fs) *ℤ q) → tt' ≤ℤ ((gg +ℤ ff) *ℤ q)
    joined g s q t ts f fs {tt'} {ff} {gg} et ef eg h k =
        let e : (gg +ℤ ff) *ℤ q ≡ g *ℤ q +ℤ q *ℤ f +ℤ (s +ℤ fs) *ℤ q =
        ap₂ (λ (x y : ℤ). (x +ℤ y) *ℤ q) eg ef
        ∙ ring (g ∷ s ∷ q ∷ f ∷ fs ∷ []) (search reads depth 40) refl in
        omega (arith, linear, e)

-- a demand that thrusts over q meet isn't farther along w than the pieces' support
pub not_separated : (w : Vec3) (q : ℤ) (demand : Vec3) (levers : List Point)
    (pieces : List (List Point)) (fixed : List Point) (thrusts : List Thrust) → pos 1 ≤ℤ q →
    length pieces ≡ length levers →
    EachStands (λ piece a. LiesIn piece a q) q pieces fixed thrusts →
    total_of levers (map place_of thrusts) ≡ scaled_by q demand →
    support_of (images_of levers pieces) w
    <ℤ dot_of w (difference_of demand (total_of levers fixed)) → ⊥
not_separated w q demand levers pieces fixed thrusts from_1 same each sum farther =
    meets (support_of (images_of levers pieces) w) (dot_of w demand)
    (dot_of w (total_of levers fixed)) q from_1
    (ap (dot_of w) sum ∙ scaled demand) (apart demand (total_of levers fixed)) farther
    (all_at_most w q levers pieces fixed thrusts same each)
  where
    scaled : (d : Vec3) → dot_of w (scaled_by q d) ≡ q *ℤ dot_of w d
    scaled d = ring (w.x ∷ w.y ∷ w.z ∷ d.x ∷ d.y ∷ d.z ∷ q ∷ []) (search reads depth 40) refl

    apart : (a b : Vec3) → dot_of w (difference_of a b) ≡ dot_of w a -ℤ dot_of w b
    apart a b =
        ring (w.x ∷ w.y ∷ w.z ∷ a.x ∷ a.y ∷ a.z ∷ b.x ∷ b.y ∷ b.z ∷ []) (search reads depth 40) refl

    meets : (s d f q : ℤ) {t m : ℤ} → pos 1 ≤ℤ q → t ≡ q *ℤ d → m ≡ d -ℤ f → s <ℤ m →
        t ≤ℤ ((s +ℤ f) *ℤ q) → ⊥
    meets s d f q {t} {m} from_1 et em h k =
        let g : (s +ℤ f) <ℤ d = omega (arith, linear) in
        let l = mul_lt_left (s +ℤ f) d q g (omega (arith, linear)) in
        let e : q *ℤ (s +ℤ f) ≡ (s +ℤ f) *ℤ q =
        ring (q ∷ s ∷ f ∷ []) (search reads depth 40) refl in
        omega (arith, linear, l, e)
