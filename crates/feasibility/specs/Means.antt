-- The thrusts that weights of points make.
use Rattle.std.specs.Prelude.{◌≤◌, ℤ, ◌+ℤ◌, ◌*ℤ◌, List, [], ◌∷◌, length}
use Rattle.std.specs.List.{AllZip}
use Rattle.arrayvec.specs.ArrayVec.{ArrayVec}
use Rattle.plant_model.specs.Rings.{origin}
use Rattle.plant_model.specs.declared.thrust.Point.{Point}
use Rattle.plant_model.specs.declared.thrust.Thrust.{Thrust}

-- each point times its weight, summed; a weight past the last point is the origin's and adds
-- nothing
abbrev pub weighted_point : List ℤ → List Point → Point
weighted_point (weight ∷ weights) (p ∷ points) = record {
  x = weight *ℤ p.x +ℤ (weighted_point weights points).x;
  y = weight *ℤ p.y +ℤ (weighted_point weights points).y;
}
weighted_point _ _ = origin

-- the weighted points and t times a fixed thrust: a thrust over t
abbrev pub mean_beside : List ℤ → List Point → ℤ → Point → Thrust
mean_beside weights points t fixed = record {
  x = (weighted_point weights points).x +ℤ t *ℤ fixed.x;
  y = (weighted_point weights points).y +ℤ t *ℤ fixed.y;
}

-- such a thrust for each piece
abbrev pub means_beside : List (ArrayVec ℤ) → List (List Point) → ℤ → List Point → List Thrust
means_beside (row ∷ rows) (piece ∷ pieces) t (f ∷ fixed) =
    mean_beside row.items piece t f ∷ means_beside rows pieces t fixed
means_beside _ _ t _ = []

-- there is a list of weights for each piece, with a weight for each of its points
abbrev pub HaveRoom : List (ArrayVec ℤ) → List (List Point) → Type 0
HaveRoom rows pieces = AllZip (λ row piece. length piece ≤ length row.items) rows pieces
