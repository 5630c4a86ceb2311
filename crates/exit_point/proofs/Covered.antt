-- What lies between the origin and three corners is a mean of the lists' images.
use Rattle.std.proofs.Common.{◌≡◌, ◌∙◌, ℕ, ◌+◌, ℤ, pos, ◌+ℤ◌, ◌≤ℤ◌, List, [], ◌∷◌, length}
use Rattle.std.proofs.Common.{replicate, ap, ap₂, sym, refl}
use Rattle.int_ring.proofs.Ring.{ring, reads}
use Rattle.arrayvec.specs.ArrayVec.{ArrayVec}
use Rattle.wrench_geometry.specs.declared.vector.Vec3.{Vec3}
use Rattle.wrench_geometry.specs.Vectors.{cross_of, det_of, dot_of, scaled_by, sum_of}
use Rattle.wrench_geometry.specs.Vertices.{ArePlaces}
use Rattle.wrench_geometry.specs.Wrenches.{image_at, sum_at}
use Rattle.exit_point.specs.declared.corners.Corners.{Corners}
use Rattle.exit_point.specs.declared.tents.Tent.{Tent}
use Rattle.exit_point.specs.declared.weights.Shares.{Shares}
use Rattle.exit_point.specs.Corners.{AreCorners, shared, total_of, with_share}
use Rattle.exit_point.specs.Exits.{EachHasWeights, weighted_sum}
use Rattle.exit_point.specs.Tents.{Covers, IsMean, IsTent}
use Rattle.exit_point.proofs.Least.{cramer}
use Rattle.exit_point.proofs.ListRows.{shared-sum, shared-zero}
use Rattle.exit_point.proofs.Rows.{Weigh, none_weigh, share_weighs, three_weigh}

-- no share is below 0
record From0 (s : Shares) : Type 0 where
  first : pos 0 ≤ℤ s.first
  second : pos 0 ≤ℤ s.second
  third : pos 0 ≤ℤ s.third

-- weights of all lists where the images at three places of each have the shares
record HaveRows (s : Shares) (lists : List (List Vec3)) (a b c : List ℕ) : Type 0 where
  rows : List (ArrayVec ℤ)
  weights : EachHasWeights (total_of s) lists rows
  sum : weighted_sum rows lists ≡ shared s (sum_at lists a) (sum_at lists b) (sum_at lists c)

have_rows : (s : Shares) (lists : List (List Vec3)) (a b c : List ℕ) → From0 s →
    ArePlaces lists a → ArePlaces lists b → ArePlaces lists c → HaveRows s lists a b c
have_rows s [] [] [] [] low f g h = record { rows = []; weights = tt; sum = shared-zero s }
have_rows s [] (p ∷ a) b c low f g h = absurd f
have_rows s [] [] (p ∷ b) c low f g h = absurd g
have_rows s [] [] [] (p ∷ c) low f g h = absurd h
have_rows s (images ∷ lists) [] b c low f g h = absurd f
have_rows s (images ∷ lists) (p ∷ a) [] c low f g h = absurd g
have_rows s (images ∷ lists) (p ∷ a) (q ∷ b) [] low f g h = absurd h
have_rows s (images ∷ lists) (p ∷ a) (q ∷ b) (r ∷ c) low f g h =
    let zeros = replicate (length images + 1) (pos 0) in
    let one = share_weighs _ images zeros _ p s.first (none_weigh images) f.0 low.first in
    let two = share_weighs _ images _ _ q s.second one g.0 low.second in
    let three = share_weighs _ images _ _ r s.third two h.0 low.third in
    let row = three_weigh s images _ (image_at images p) (image_at images q) (image_at images r)
    three in
    let rest = have_rows s lists a b c low f.1 g.1 h.1 in
    record {
      rows = record {
        items = with_share (with_share (with_share zeros p s.first) q s.second) r
            s.third;
      } ∷ rest.rows;
      weights = (row.are, rest.weights);
      sum = ap₂ sum_of row.sum rest.sum
          ∙ sym (shared-sum s _ _ _ (sum_at lists a) (sum_at lists b) (sum_at lists c));
    }

-- a product with a normal is a determinant
at_normal : (n d a b : Vec3) → n ≡ cross_of a b → dot_of n d ≡ det_of d a b
at_normal n d a b is = ap (λ (v : Vec3). dot_of v d) is
    ∙ ring (d.x ∷ d.y ∷ d.z ∷ a.x ∷ a.y ∷ a.z ∷ b.x ∷ b.y ∷ b.z ∷ []) (search reads depth 40) refl

pub is_tent : (lists : List (List Vec3)) (corners : Corners) (tent : Tent) →
    AreCorners lists corners →
    tent.first ≡ cross_of corners.second.point corners.third.point →
    tent.second ≡ cross_of corners.third.point corners.first.point →
    tent.third ≡ cross_of corners.first.point corners.second.point →
    tent.height ≡ det_of corners.first.point corners.second.point corners.third.point →
    IsTent lists tent
is_tent lists corners tent are first second third height d covers =
    let a = corners.first.point in
    let b = corners.second.point in
    let c = corners.third.point in
    let s : Shares = record {
      first = dot_of tent.first d;
      second = dot_of tent.second d;
      third = dot_of tent.third d;
    } in
    let have = have_rows s lists corners.first.places.items corners.second.places.items
    corners.third.places.items
    (record { first = covers.first; second = covers.second; third = covers.third })
    are.first.chosen.places are.second.chosen.places are.third.chosen.places in
    record {
      q = total_of s;
      t = tent.height;
      rows = have.rows;
      from_1 = covers.height;
      enough = covers.within;
      weights = have.weights;
      meets = have.sum
          ∙ joined s (sym are.first.chosen.point) (sym are.second.chosen.point)
          (sym are.third.chosen.point)
          ∙ cramer d a b c s (at_normal tent.first d b c first) (at_normal tent.second d c a second)
          (at_normal tent.third d a b third)
          ∙ ap (λ (k : ℤ). scaled_by k d) (sym height);
    }
  where
    joined : (s : Shares) {a a' b b' c c' : Vec3} → a ≡ a' → b ≡ b' → c ≡ c' →
        shared s a b c ≡ shared s a' b' c'
    joined s p q r = λ i. shared s (p i) (q i) (r i)
