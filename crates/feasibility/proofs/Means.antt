-- Weighted points lie in their pieces, and their images are weighted images.
use Rattle.std.proofs.Common.{◌≡◌, ◌∙◌, ℕ, zero, suc, ◌+◌, ℤ, pos, negsuc, ◌+ℤ◌, ◌-ℤ◌}
use Rattle.std.proofs.Common.{◌*ℤ◌, ◌≤ℤ◌, List, [], ◌∷◌, length, map, refl, ap, ap₂}
use Rattle.std.proofs.Common.{arith}
use Rattle.std.specs.Prelude.{All, fold, sum}
use Rattle.std.proofs.lemmas.Int.{ints}
use Rattle.std.proofs.lemmas.List.{length-map}
use Rattle.std.proofs.lemmas.List.Sums.{sum_by-cons}
use Rattle.arrayvec.specs.ArrayVec.{ArrayVec}
use Rattle.int_ring.proofs.Ring.{ring, reads}
use Rattle.plant_model.specs.Lies.{LiesIn, weighted_x, weighted_y}
use Rattle.plant_model.specs.Rings.{origin}
use Rattle.plant_model.specs.declared.thrust.Point.{Point}
use Rattle.wrench_geometry.specs.declared.vector.Vec3.{Vec3}
use Rattle.wrench_geometry.specs.Chosen.{images_of}
use Rattle.wrench_geometry.specs.Vectors.{scaled_by, sum_of, zero_vector}
use Rattle.wrench_geometry.specs.Wrenches.{image_of}
use Rattle.wrench_geometry.proofs.Bounds.{same_vector}
use Rattle.exit_point.specs.Exits.{AreWeights, EachHasWeights, weighted, weighted_sum}
use Rattle.certificate.specs.Beside.{LieBelow}
use Rattle.certificate.specs.Outcomes.{total_of, without}
use Rattle.certificate.specs.Sides.{place_of}
use Rattle.feasibility.specs.Means.{HaveRoom, mean_beside, means_beside, weighted_point}

-- ---- one piece

pub natural : (z : ℤ) → pos 0 ≤ℤ z → (n : ℕ) × (pos n ≡ z)
natural (pos n) low = (n, refl)
natural (negsuc n) low = absurd (omega (arith, ints))

-- weights of points and the origin's, as natural numbers that with a start make their sum
record AreNatural (start : ℤ) (points : List Point) (weights : List ℤ) : Type 0 where
  naturals : List ℕ
  origins : ℕ
  one_each : length naturals ≡ length points
  whole : start +ℤ pos (sum naturals + origins) ≡ fold ◌+ℤ◌ start weights
  x : weighted_x naturals points ≡ (weighted_point weights points).x
  y : weighted_y naturals points ≡ (weighted_point weights points).y

are_natural : (start : ℤ) (points : List Point) (weights : List ℤ) →
    length weights ≡ length points + 1 →
    All (λ w. pos 0 ≤ℤ w) weights → AreNatural start points weights
are_natural start [] [] one_each low = absurd (omega arith)
are_natural start [] (w ∷ []) one_each low =
    let n = natural w (low 0 w (omega arith)) in
    record {
      naturals = [];
      origins = n.0;
      one_each = refl;
      whole = last start w n.0 n.1;
      x = refl;
      y = refl;
    }
  where
    last : (start w : ℤ) (n : ℕ) → pos n ≡ w → start +ℤ pos (0 + n) ≡ start +ℤ w
    last start w n e = omega (arith, ints)
are_natural start [] (w ∷ v ∷ weights) one_each low = absurd (omega arith)
are_natural start (p ∷ points) [] one_each low = absurd (omega arith)
are_natural start (p ∷ points) (w ∷ weights) one_each low =
    let n = natural w (low 0 w (omega arith)) in
    let rest = are_natural (start +ℤ w) points weights (omega arith)
    (λ k d below. low (suc k) d (omega arith)) in
    record {
      naturals = n.0 ∷ rest.naturals;
      origins = rest.origins;
      one_each = ap suc rest.one_each;
      whole = more start w n.0 (sum rest.naturals) rest.origins (sum (n.0 ∷ rest.naturals)) n.1
          (sum_by-cons (λ (x : ℕ). x) n.0 rest.naturals) ∙ rest.whole;
      x = ap₂ (λ (a b : ℤ). a *ℤ p.x +ℤ b) n.1 rest.x;
      y = ap₂ (λ (a b : ℤ). a *ℤ p.y +ℤ b) n.1 rest.y;
    }
  where
    more : (start w : ℤ) (n s o m : ℕ) → pos n ≡ w → m ≡ n + s →
        start +ℤ pos (m + o) ≡ start +ℤ w +ℤ pos (s + o)
    more start w n s o m e f = omega (arith, ints)

-- with the rest of t on the origin the weighted points are a thrust over t in the piece
pub mean_lies : (q t : ℤ) (lever : Point) (points : List Point) (weights : List ℤ) (fixed : Point) →
    q ≤ℤ t →
    AreWeights q (map (image_of lever) points) weights →
    LiesIn points (without t fixed (mean_beside weights points t fixed)) t
mean_lies q t lever points weights fixed enough are =
    let natural_weights = are_natural (pos 0) points weights
    (are.one_each ∙ ap (λ (n : ℕ). n + 1) (length-map points (image_of lever))) are.from_0 in
    let more = natural (t -ℤ q) (omega (arith, ints)) in
    record {
      k = pos 1;
      at_least_one = omega (arith, ints);
      weights = natural_weights.naturals;
      origin_weight = natural_weights.origins + more.0;
      one_each = natural_weights.one_each;
      whole = all (sum natural_weights.naturals) natural_weights.origins more.0 q t more.1
          (natural_weights.whole ∙ are.sum);
      x = natural_weights.x ∙ beside (weighted_point weights points).x (t *ℤ fixed.x);
      y = natural_weights.y ∙ beside (weighted_point weights points).y (t *ℤ fixed.y);
    }
  where
    all : (s o m : ℕ) (q t : ℤ) → pos m ≡ t -ℤ q → pos 0 +ℤ pos (s + o) ≡ q →
        pos (s + (o + m)) ≡ pos 1 *ℤ t
    all s o m q t e f = omega (arith, ints)

    beside : (a b : ℤ) → a ≡ pos 1 *ℤ (a +ℤ b -ℤ b)
    beside a b = ring (a ∷ b ∷ []) (search reads depth 40) refl

-- the image of weighted points
pub image_of_mean : (lever : Point) (weights : List ℤ) (points : List Point) →
    image_of lever (weighted_point weights points) ≡ weighted weights (map (image_of lever) points)
image_of_mean lever [] points = nothing lever
  where
    nothing : (lever : Point) → image_of lever origin ≡ zero_vector
    nothing lever = same_vector refl refl
        (ring (lever.x ∷ lever.y ∷ []) (search reads depth 40) refl)
image_of_mean lever (w ∷ weights) [] = nothing lever
  where
    nothing : (lever : Point) → image_of lever origin ≡ zero_vector
    nothing lever = same_vector refl refl
        (ring (lever.x ∷ lever.y ∷ []) (search reads depth 40) refl)
image_of_mean lever (w ∷ weights) (p ∷ points) =
    joined w p (weighted_point weights points)
    ∙ ap (sum_of (scaled_by w (image_of lever p))) (image_of_mean lever weights points)
  where
    joined : (w : ℤ) (p r : Point) →
        image_of lever (record { x = w *ℤ p.x +ℤ r.x; y = w *ℤ p.y +ℤ r.y })
        ≡ sum_of (scaled_by w (image_of lever p)) (image_of lever r)
    joined w p r = same_vector refl refl
        (ring (w ∷ p.x ∷ p.y ∷ r.x ∷ r.y ∷ lever.x ∷ lever.y ∷ []) (search reads depth 40) refl)

-- ---- all pieces

-- the thrusts together are the weighted images of all pieces, with t times the fixed thrusts
pub total_of_means : (q t : ℤ) (levers : List Point) (rows : List (ArrayVec ℤ))
    (pieces : List (List Point)) (fixed : List Point) →
    length pieces ≡ length levers → length fixed ≡ length levers →
    EachHasWeights q (images_of levers pieces) rows →
    total_of levers (map place_of (means_beside rows pieces t fixed))
    ≡ sum_of (weighted_sum rows (images_of levers pieces)) (scaled_by t (total_of levers fixed))
total_of_means q t [] rows pieces fixed one_each fixed_each each = nothing rows each
  where
    nothing : (rows : List (ArrayVec ℤ)) → EachHasWeights q [] rows →
        zero_vector ≡ sum_of (weighted_sum rows []) (scaled_by t zero_vector)
    nothing [] each = same_vector (ring (t ∷ []) (search reads depth 40) refl)
        (ring (t ∷ []) (search reads depth 40) refl) (ring (t ∷ []) (search reads depth 40) refl)
    nothing (row ∷ rows) each = absurd each
total_of_means q t (lever ∷ levers) rows [] fixed one_each fixed_each each = absurd (omega arith)
total_of_means q t (lever ∷ levers) rows (piece ∷ pieces) [] one_each fixed_each each = absurd
    (omega arith)
total_of_means q t (lever ∷ levers) [] (piece ∷ pieces) (f ∷ fixed) one_each fixed_each each =
    absurd each
total_of_means q t (lever ∷ levers) (row ∷ rows) (piece ∷ pieces) (f ∷ fixed) one_each fixed_each
    each =
    let r = weighted_point row.items piece in
    let w = weighted row.items (map (image_of lever) piece) in
    let rest = sum_of (weighted_sum rows (images_of levers pieces))
    (scaled_by t (total_of levers fixed)) in
    ap (sum_of (image_of lever (place_of (mean_beside row.items piece t f))))
    (total_of_means q t levers rows pieces fixed (omega arith) (omega arith) each.1)
    ∙ ap (λ (v : Vec3). sum_of v rest)
    (split r f ∙ ap (λ (v : Vec3). sum_of v (scaled_by t (image_of lever f)))
    (image_of_mean lever row.items piece))
    ∙ regrouped w (scaled_by t (image_of lever f)) (weighted_sum rows (images_of levers pieces))
    (scaled_by t (total_of levers fixed))
    ∙ ap (sum_of (sum_of w (weighted_sum rows (images_of levers pieces))))
    (scaled (image_of lever f) (total_of levers fixed))
  where
    split : (r f : Point) → image_of lever (record { x = r.x +ℤ t *ℤ f.x; y = r.y +ℤ t *ℤ f.y })
        ≡ sum_of (image_of lever r) (scaled_by t (image_of lever f))
    split r f = same_vector refl refl
        (ring (t ∷ r.x ∷ r.y ∷ f.x ∷ f.y ∷ lever.x ∷ lever.y ∷ []) (search reads depth 40) refl)

    regroup : (a b c d : ℤ) → (a +ℤ b) +ℤ (c +ℤ d) ≡ (a +ℤ c) +ℤ (b +ℤ d)
    regroup a b c d = omega (arith, ints)

    regrouped : (a b c d : Vec3) → sum_of (sum_of a b) (sum_of c d) ≡ sum_of (sum_of a c)
        (sum_of b d)
    regrouped a b c d = same_vector (regroup a.x b.x c.x d.x) (regroup a.y b.y c.y d.y)
        (regroup a.z b.z c.z d.z)

    scale : (a b : ℤ) → t *ℤ a +ℤ t *ℤ b ≡ t *ℤ (a +ℤ b)
    scale a b = ring (t ∷ a ∷ b ∷ []) (search reads depth 40) refl

    scaled : (a b : Vec3) → sum_of (scaled_by t a) (scaled_by t b) ≡ scaled_by t (sum_of a b)
    scaled a b = same_vector (scale a.x b.x) (scale a.y b.y) (scale a.z b.z)

-- each thrust lies in its piece beside its fixed thrust
pub means_lie : (q t : ℤ) (levers : List Point) (rows : List (ArrayVec ℤ))
    (pieces : List (List Point)) (fixed : List Point) → q ≤ℤ t →
    length pieces ≡ length levers → length fixed ≡ length levers →
    EachHasWeights q (images_of levers pieces) rows →
    LieBelow pieces fixed (means_beside rows pieces t fixed) t (length levers)
means_lie q t [] rows pieces fixed enough one_each fixed_each each i below = absurd (omega arith)
means_lie q t (lever ∷ levers) rows [] fixed enough one_each fixed_each each i below = absurd
    (omega arith)
means_lie q t (lever ∷ levers) rows (piece ∷ pieces) [] enough one_each fixed_each each i below =
    absurd (omega arith)
means_lie q t (lever ∷ levers) [] (piece ∷ pieces) (f ∷ fixed) enough one_each fixed_each each i
    below = absurd each
means_lie q t (lever ∷ levers) (row ∷ rows) (piece ∷ pieces) (f ∷ fixed) enough one_each fixed_each
    each zero below =
    mean_lies q t lever piece row.items f enough each.0
means_lie q t (lever ∷ levers) (row ∷ rows) (piece ∷ pieces) (f ∷ fixed) enough one_each fixed_each
    each (suc i) below =
    means_lie q t levers rows pieces fixed enough (omega arith) (omega arith) each.1 i (omega arith)

pub length-means : (q t : ℤ) (levers : List Point) (rows : List (ArrayVec ℤ))
    (pieces : List (List Point)) (fixed : List Point) →
    length pieces ≡ length levers → length fixed ≡ length levers →
    EachHasWeights q (images_of levers pieces) rows →
    length (means_beside rows pieces t fixed) ≡ length levers
length-means q t [] [] [] fixed one_each fixed_each each = refl
length-means q t [] (row ∷ rows) pieces fixed one_each fixed_each each = absurd each
length-means q t [] [] (piece ∷ pieces) fixed one_each fixed_each each = absurd (omega arith)
length-means q t (lever ∷ levers) rows [] fixed one_each fixed_each each = absurd (omega arith)
length-means q t (lever ∷ levers) rows (piece ∷ pieces) [] one_each fixed_each each = absurd
    (omega arith)
length-means q t (lever ∷ levers) [] (piece ∷ pieces) (f ∷ fixed) one_each fixed_each each = absurd
    each
length-means q t (lever ∷ levers) (row ∷ rows) (piece ∷ pieces) (f ∷ fixed) one_each fixed_each
    each =
    ap suc (length-means q t levers rows pieces fixed (omega arith) (omega arith) each.1)

pub room_for_weights : (q : ℤ) (levers : List Point) (rows : List (ArrayVec ℤ))
    (pieces : List (List Point)) →
    length pieces ≡ length levers → EachHasWeights q (images_of levers pieces) rows →
    HaveRoom rows pieces
room_for_weights q [] [] [] one_each each = tt
room_for_weights q [] (row ∷ rows) pieces one_each each = absurd each
room_for_weights q [] [] (piece ∷ pieces) one_each each = absurd (omega arith)
room_for_weights q (lever ∷ levers) rows [] one_each each = absurd (omega arith)
room_for_weights q (lever ∷ levers) [] (piece ∷ pieces) one_each each = absurd each
room_for_weights q (lever ∷ levers) (row ∷ rows) (piece ∷ pieces) one_each each =
    let long = each.0.one_each ∙ ap (λ (n : ℕ). n + 1) (length-map piece (image_of lever)) in
    (omega (arith, long), room_for_weights q levers rows pieces (omega arith) each.1)
