-- When a thrust lies in a piece.
use Rattle.std.specs.Prelude.{◌≡◌, ℕ, ◌+◌, ℤ, pos, ◌+ℤ◌, ◌*ℤ◌, ◌≤ℤ◌, List, [], ◌∷◌, length, sum}
use Rattle.plant_model.specs.declared.thrust.Point.{Point}
use Rattle.plant_model.specs.declared.thrust.Thrust.{Thrust}

-- the sum of the points, each as often as its weight says
abbrev pub weighted_x : List ℕ → List Point → ℤ
weighted_x [] points = pos 0
weighted_x (w ∷ ws) [] = pos 0
weighted_x (w ∷ ws) (p ∷ ps) = pos w *ℤ p.x +ℤ weighted_x ws ps

abbrev pub weighted_y : List ℕ → List Point → ℤ
weighted_y [] points = pos 0
weighted_y (w ∷ ws) [] = pos 0
weighted_y (w ∷ ws) (p ∷ ps) = pos w *ℤ p.y +ℤ weighted_y ws ps

-- a thrust over q, with q at least 1, is in the hull of the points and the origin: k times it is
-- the sum of the points with some weights, which with the origin's weight make k times q
pub record LiesIn (points : List Point) (thrust : Thrust) (q : ℤ) : Type 0 where
  pub k : ℤ
  pub at_least_one : pos 1 ≤ℤ k
  pub weights : List ℕ
  pub origin_weight : ℕ
  pub one_each : length weights ≡ length points
  pub whole : pos (sum weights + origin_weight) ≡ k *ℤ q
  pub x : weighted_x weights points ≡ k *ℤ thrust.x
  pub y : weighted_y weights points ≡ k *ℤ thrust.y
