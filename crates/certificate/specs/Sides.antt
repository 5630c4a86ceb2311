-- Where a thrust over a denominator stands to the points of a piece.
use Rattle.std.specs.Prelude.{◌≡◌, ℤ, pos, ◌-ℤ◌, ◌*ℤ◌, ◌≤ℤ◌, ◌<ℤ◌, List, Any, ◌⊎◌}
use Rattle.plant_model.specs.declared.thrust.Point.{Point}
use Rattle.plant_model.specs.declared.thrust.Thrust.{Thrust}
use Rattle.plant_model.specs.Numbers.{IsWithin}
use Rattle.plant_model.specs.Rings.{cross, dot}
use Rattle.certificate.specs.declared.hull.TheConstants.{FARTHEST, FARTHEST_THRUST}

-- a thrust as a point
abbrev pub place_of : Thrust → Point
place_of thrust = record { x = thrust.x; y = thrust.y }

-- the coordinates are no farther than those of a point of the type may be, times the greatest
-- denominator
pub record IsReached (thrust : Thrust) : Type 0 where
  pub x : IsWithin FARTHEST_THRUST thrust.x
  pub y : IsWithin FARTHEST_THRUST thrust.y

-- the coordinates over q are no farther than those of a point of the type may be
pub record IsNear (thrust : Thrust) (q : ℤ) : Type 0 where
  pub x : IsWithin (FARTHEST *ℤ q) thrust.x
  pub y : IsWithin (FARTHEST *ℤ q) thrust.y

-- the thrust over q is on the way from the origin to the point, and isn't the origin
pub record IsOnWay (p : Point) (thrust : Thrust) (q : ℤ) : Type 0 where
  pub along : cross p (place_of thrust) ≡ pos 0
  pub ahead : pos 0 <ℤ dot p (place_of thrust)
  pub not_past : dot p (place_of thrust) ≤ℤ (dot p p *ℤ q)

-- the thrust over q is in the triangle of the origin, p and r, which go round it by the turn from x
-- to y: it is on the right of none of the three edges
pub record IsInTriangle (p r : Point) (thrust : Thrust) (q : ℤ) : Type 0 where
  pub turns : pos 0 <ℤ cross p r
  pub after : pos 0 ≤ℤ cross p (place_of thrust)
  pub before : cross r (place_of thrust) ≤ℤ pos 0
  pub within : (cross p (place_of thrust) -ℤ cross r (place_of thrust)) ≤ℤ (cross p r *ℤ q)

-- the thrust over q is on the way to the point, or in the triangle of it and one of the points
abbrev pub IsNextTo : List Point → Thrust → ℤ → Point → Type 0
IsNextTo points thrust q p = IsOnWay p thrust q ⊎ Any (λ r. IsInTriangle p r thrust q) points
