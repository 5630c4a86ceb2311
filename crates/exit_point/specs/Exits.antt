-- Weights that show where a demand's ray leaves the sums of lists.
use Rattle.std.specs.Prelude.{◌≡◌, ◌+◌, ℤ, pos, ◌+ℤ◌, ◌*ℤ◌, ◌≤ℤ◌, List, ◌∷◌, All, fold, length}
use Rattle.std.specs.List.{AllZip}
use Rattle.arrayvec.specs.ArrayVec.{ArrayVec}
use Rattle.wrench_geometry.specs.declared.vector.Vec3.{Vec3}
use Rattle.wrench_geometry.specs.Cuts.{IsLeastCut}
use Rattle.wrench_geometry.specs.Vectors.{scaled_by, sum_of, zero_vector}
use Rattle.exit_point.specs.declared.weights.ExitWeights.{ExitWeights}
use Rattle.exit_point.specs.declared.weights.TheConstants.{MOST_WEIGHT}

-- the sum of a list's images, each times its weight; a weight past the last image is the origin's
-- and adds nothing
abbrev pub weighted : List ℤ → List Vec3 → Vec3
weighted (weight ∷ weights) (v ∷ images) = sum_of (scaled_by weight v) (weighted weights images)
weighted _ _ = zero_vector

-- weights of a list's images and, the last, of the origin: none is below 0, and they sum to q
pub record AreWeights (q : ℤ) (images : List Vec3) (weights : List ℤ) : Type 0 where
  pub one_each : length weights ≡ length images + 1
  pub from_0 : All (λ weight. pos 0 ≤ℤ weight) weights
  pub sum : fold ◌+ℤ◌ (pos 0) weights ≡ q

-- such weights for each list
abbrev pub EachHasWeights : ℤ → List (List Vec3) → List (ArrayVec ℤ) → Type 0
EachHasWeights q lists rows = AllZip (λ images row. AreWeights q images row.items) lists rows

-- the weighted images of all lists, summed
abbrev pub weighted_sum : List (ArrayVec ℤ) → List (List Vec3) → Vec3
weighted_sum (row ∷ rows) (images ∷ lists) = sum_of (weighted row.items images)
    (weighted_sum rows lists)
weighted_sum _ _ = zero_vector

-- the answer shows where d's ray leaves the sums of the lists: t/q·d is a mean of each list's
-- images and the origin,
-- summed over the lists, and by the cut no sum lies further along d
pub record IsExit (lists : List (List Vec3)) (d : Vec3) (e : ExitWeights) : Type 0 where
  pub cut : IsLeastCut lists d e.cut
  pub q_from_1 : pos 1 ≤ℤ e.q
  pub q_within : e.q ≤ℤ MOST_WEIGHT
  pub weights : EachHasWeights e.q lists e.weights.items
  pub meets : weighted_sum e.weights.items lists ≡ scaled_by e.t d
  pub same_quotient : e.t *ℤ e.cut.bottom ≡ e.q *ℤ e.cut.top
