-- Weights of a list, with a share more at a place, and weights of several lists.
use Rattle.std.proofs.Common.{◌≡◌, ℕ, zero, suc, ◌+◌, ◌<◌, ◌≤◌, ℤ, pos, ◌+ℤ◌, ◌*ℤ◌, ◌≤ℤ◌, SFits}
use Rattle.std.proofs.Common.{w64, List, [], ◌∷◌, length, take, get_or, replicate, ap, ◌∙◌, refl}
use Rattle.std.proofs.Common.{arith}
use Rattle.std.specs.Prelude.{All, fold}
use Rattle.std.proofs.lemmas.Int.{ints}
use Rattle.std.proofs.lemmas.List.{length-set, take-replicate}
use Rattle.std.proofs.lemmas.List.Elements.{All-set}
use Rattle.int_ring.proofs.Ring.{ring, reads}
use Rattle.wrench_geometry.specs.declared.vector.Vec3.{Vec3}
use Rattle.wrench_geometry.specs.Vectors.{scaled_by, sum_of, zero_vector}
use Rattle.wrench_geometry.specs.Wrenches.{image_at}
use Rattle.wrench_geometry.proofs.Bounds.{same_vector}
use Rattle.exit_point.specs.declared.weights.Shares.{Shares}
use Rattle.exit_point.specs.Exits.{AreWeights, weighted}
use Rattle.exit_point.specs.Corners.{IsShare, shared, with_share}

-- ---- vectors

sum-zero_left : (a : Vec3) → sum_of zero_vector a ≡ a
sum-zero_left a = same_vector (omega (arith, ints)) (omega (arith, ints)) (omega (arith, ints))

nothing_scaled : (k : ℤ) → zero_vector ≡ sum_of zero_vector (scaled_by k zero_vector)
nothing_scaled k = same_vector (ring (k ∷ []) (search reads depth 40) refl)
    (ring (k ∷ []) (search reads depth 40) refl) (ring (k ∷ []) (search reads depth 40) refl)

part_more : (k s v r : ℤ) → (k +ℤ s) *ℤ v +ℤ r ≡ k *ℤ v +ℤ r +ℤ s *ℤ v
part_more k s v r = ring (k ∷ s ∷ v ∷ r ∷ []) (search reads depth 40) refl

scaled_more : (k s : ℤ) (v r : Vec3) →
    sum_of (scaled_by (k +ℤ s) v) r ≡ sum_of (sum_of (scaled_by k v) r) (scaled_by s v)
scaled_more k s v r = same_vector (part_more k s v.x r.x) (part_more k s v.y r.y)
    (part_more k s v.z r.z)

pub sum-assoc : (a b c : Vec3) → sum_of a (sum_of b c) ≡ sum_of (sum_of a b) c
sum-assoc a b c = same_vector (omega (arith, ints)) (omega (arith, ints)) (omega (arith, ints))

-- ---- one list

-- no weight at all
nothing_weighted : (n : ℕ) (images : List Vec3) →
    weighted (replicate n (pos 0)) images ≡ zero_vector
nothing_weighted zero images = refl
nothing_weighted (suc n) [] = refl
nothing_weighted (suc n) (v ∷ images) =
    ap (sum_of (scaled_by (pos 0) v)) (nothing_weighted n images)
    ∙ same_vector (ring (v.x ∷ []) (search reads depth 40) refl)
    (ring (v.y ∷ []) (search reads depth 40) refl)
    (ring (v.z ∷ []) (search reads depth 40) refl)

share_weighted : (images : List Vec3) (weights : List ℤ) (place : ℕ) (share : ℤ) →
    place ≤ length images → length weights ≡ length images + 1 →
    weighted (with_share weights place share) images ≡ sum_of (weighted weights images)
    (scaled_by share (image_at images place))
share_weighted [] [] place share h e = absurd (omega arith)
share_weighted [] (k ∷ weights) zero share h e = nothing_scaled share
share_weighted [] (k ∷ weights) (suc place) share h e = absurd (omega arith)
share_weighted (v ∷ images) [] place share h e = absurd (omega arith)
share_weighted (v ∷ images) (k ∷ weights) zero share h e =
    scaled_more k share v (weighted weights images)
share_weighted (v ∷ images) (k ∷ weights) (suc place) share h e =
    ap (sum_of (scaled_by k v))
    (share_weighted images weights place share (omega arith) (omega arith))
    ∙ sum-assoc (scaled_by k v) (weighted weights images) (scaled_by share (image_at images place))

share_sum : (a : ℤ) (weights : List ℤ) (place : ℕ) (share : ℤ) → place < length weights →
    fold ◌+ℤ◌ a (with_share weights place share) ≡ fold ◌+ℤ◌ a weights +ℤ share
share_sum a [] place share h = absurd (omega arith)
share_sum a (k ∷ weights) zero share h = ap (λ (z : ℤ). fold ◌+ℤ◌ z weights) (regroup a k share)
    ∙ fold_later (a +ℤ k) share weights
  where
    regroup : (a k s : ℤ) → a +ℤ (k +ℤ s) ≡ a +ℤ k +ℤ s
    regroup a k s = omega (arith, ints)

    swap : (a s k : ℤ) → a +ℤ s +ℤ k ≡ a +ℤ k +ℤ s
    swap a s k = omega (arith, ints)

    fold_later : (a s : ℤ) (ks : List ℤ) → fold ◌+ℤ◌ (a +ℤ s) ks ≡ fold ◌+ℤ◌ a ks +ℤ s
    fold_later a s [] = refl
    fold_later a s (k ∷ ks) = ap (λ (z : ℤ). fold ◌+ℤ◌ z ks) (swap a s k) ∙ fold_later (a +ℤ k) s ks
share_sum a (k ∷ weights) (suc place) share h = share_sum (a +ℤ k) weights place share (omega arith)

pub tail_from_0 : (k : ℤ) (weights : List ℤ) → All (λ w. pos 0 ≤ℤ w) (k ∷ weights) →
    All (λ w. pos 0 ≤ℤ w) weights
tail_from_0 k weights h = λ i d p. h (suc i) d (omega arith)

pub start_at_most : (a : ℤ) (weights : List ℤ) → All (λ w. pos 0 ≤ℤ w) weights →
    a ≤ℤ fold ◌+ℤ◌ a weights
start_at_most a [] h = omega (arith, ints)
start_at_most a (k ∷ weights) h =
    let here = h 0 (pos 0) (omega arith) in
    let later = start_at_most (a +ℤ k) weights (tail_from_0 k weights h) in
    omega (arith, ints)

-- no weight is greater than the sum of all
weight_at_most : (a : ℤ) (weights : List ℤ) (place : ℕ) → pos 0 ≤ℤ a →
    All (λ w. pos 0 ≤ℤ w) weights → get_or weights place (pos 0) ≤ℤ fold ◌+ℤ◌ a weights
weight_at_most a [] place g h = g
weight_at_most a (k ∷ weights) zero g h =
    let later = start_at_most (a +ℤ k) weights (tail_from_0 k weights h) in
    omega (arith, ints)
weight_at_most a (k ∷ weights) (suc place) g h =
    let here = h 0 (pos 0) (omega arith) in
    weight_at_most (a +ℤ k) weights place (omega (arith, ints)) (tail_from_0 k weights h)

weight_from_0 : (weights : List ℤ) (place : ℕ) → All (λ w. pos 0 ≤ℤ w) weights →
    pos 0 ≤ℤ get_or weights place (pos 0)
weight_from_0 [] place h = omega (arith, ints)
weight_from_0 (k ∷ weights) zero h = h 0 (pos 0) (omega arith)
weight_from_0 (k ∷ weights) (suc place) h = weight_from_0 weights place (tail_from_0 k weights h)

-- the weights sum to q, and the weighted images to v
pub record Weigh (q : ℤ) (images : List Vec3) (weights : List ℤ) (v : Vec3) : Type 0 where
  pub are : AreWeights q images weights
  pub sum : weighted weights images ≡ v

pub none_weigh : (images : List Vec3) →
    Weigh (pos 0) images (replicate (length images + 1) (pos 0)) zero_vector
none_weigh images = record {
  are = record {
    one_each = length_all (length images + 1);
    from_0 = all_from_0 (length images + 1);
    sum =
        none (length images + 1);
  };
  sum = nothing_weighted (length images + 1) images;
}
  where
    length_all : (n : ℕ) → length (replicate n (pos 0)) ≡ n
    length_all zero = refl
    length_all (suc n) = ap suc (length_all n)

    all_from_0 : (n : ℕ) → All (λ w. pos 0 ≤ℤ w) (replicate n (pos 0))
    all_from_0 zero i d p = absurd (omega arith)
    all_from_0 (suc n) zero d p = omega (arith, ints)
    all_from_0 (suc n) (suc i) d p = all_from_0 n i d (omega arith)

    none : (n : ℕ) → fold ◌+ℤ◌ (pos 0) (replicate n (pos 0)) ≡ pos 0
    none zero = refl
    none (suc n) = none n

pub share_weighs : (q : ℤ) (images : List Vec3) (weights : List ℤ) (v : Vec3) (place : ℕ)
    (share : ℤ) → Weigh q images weights v → place ≤ length images → pos 0 ≤ℤ share →
    Weigh (q +ℤ share) images (with_share weights place share)
    (sum_of v (scaled_by share (image_at images place)))
share_weighs q images weights v place share h p s =
    let old = h.are in
    let from_0 = weight_from_0 weights place old.from_0 in
    let one_each = old.one_each in
    let more : pos 0 ≤ℤ (get_or weights place (pos 0) +ℤ share) = omega (arith, ints) in
    record {
      are = record {
        one_each = length-set weights place (get_or weights place (pos 0) +ℤ share) ∙ one_each;
        from_0 = All-set (λ w. pos 0 ≤ℤ w) weights place (get_or weights place (pos 0) +ℤ share)
            more old.from_0;
        sum = share_sum (pos 0) weights place share (omega arith)
            ∙ ap (λ (z : ℤ). z +ℤ share) old.sum;
      };
      sum = share_weighted images weights place share p one_each
          ∙ ap (λ (a : Vec3). sum_of a (scaled_by share (image_at images place))) h.sum;
    }

-- a weight with a share more fits 64 bits
pub share_fits : (q : ℤ) (images : List Vec3) (weights : List ℤ) (v : Vec3) (place : ℕ)
    (share : ℤ) → Weigh q images weights v → q ≤ℤ pos 1000000000000000000 → IsShare share →
    SFits w64 (get_or weights place (pos 0) +ℤ share)
share_fits q images weights v place share h b s =
    let low = weight_from_0 weights place h.are.from_0 in
    let high = weight_at_most (pos 0) weights place (omega (arith, ints)) h.are.from_0 in
    let is = h.are.sum in
    let share_low = s.low in
    let share_high = s.high in
    omega (arith, ints)

-- the three shares in the order in which they are given
pub three_weigh : (shares : Shares) (images : List Vec3) (weights : List ℤ) (a b c : Vec3) →
    Weigh (pos 0 +ℤ shares.first +ℤ shares.second +ℤ shares.third) images weights
    (sum_of (sum_of (sum_of zero_vector (scaled_by shares.first a)) (scaled_by shares.second b))
    (scaled_by shares.third c)) →
    Weigh (shares.first +ℤ shares.second +ℤ shares.third) images weights (shared shares a b c)
three_weigh shares images weights a b c h =
    let same : pos 0 +ℤ shares.first ≡ shares.first = omega (arith, ints) in
    record {
      are = record {
        one_each = h.are.one_each;
        from_0 = h.are.from_0;
        sum = h.are.sum
            ∙ ap (λ (z : ℤ). z +ℤ shares.second +ℤ shares.third) same;
      };
      sum = h.sum
          ∙ ap (λ (v : Vec3). sum_of (sum_of v (scaled_by shares.second b))
          (scaled_by shares.third c)) (sum-zero_left (scaled_by shares.first a));
    }

-- ---- the same as the code has it

pub first_weigh : (images : List Vec3) (items array : List ℤ) →
    items ≡ take (length images + 1) array → array ≡ replicate 9 (pos 0) → length images ≤ 8 →
    Weigh (pos 0) images items zero_vector
first_weigh images items array e f h =
    let zeros : items ≡ replicate (length images + 1) (pos 0) = e
    ∙ ap (λ (l : List ℤ). take (length images + 1) l) f
    ∙ take-replicate (length images + 1) 9 (pos 0) (omega arith) in
    rw zeros (none_weigh images)

pub next_weigh : (q : ℤ) (images : List Vec3) (weights : List ℤ) (v : Vec3) (place : ℕ) (share : ℤ)
    (new : List ℤ) (given : ℤ) → Weigh q images weights v → new ≡ with_share weights place given →
    given ≡ share →
    place ≤ length images → IsShare share →
    Weigh (q +ℤ share) images new (sum_of v (scaled_by share (image_at images place)))
next_weigh q images weights v place share new given h e f p s =
    let is : new ≡ with_share weights place share = e
    ∙ ap (λ (z : ℤ). with_share weights place z) f in
    rw is (share_weighs q images weights v place share h p s.low)

pub next_fits : (q : ℤ) (images : List Vec3) (weights : List ℤ) (v : Vec3) (place : ℕ)
    (share given : ℤ) → Weigh q images weights v → given ≡ share → q ≤ℤ pos 1000000000000000000 →
    IsShare share →
    SFits w64 (get_or weights place (pos 0) +ℤ given)
next_fits q images weights v place share given h f b s =
    rw f (share_fits q images weights v place share h b s)
