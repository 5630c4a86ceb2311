-- Fixes, and how far a fix is from the one that is wanted.
use Rattle.std.specs.Prelude.{◌≡◌, ◌-◌, ◌<◌, ℤ, pos, ◌+ℤ◌, ◌-ℤ◌, ◌*ℤ◌, ◌≤ℤ◌, neg_ℤ}
use Rattle.dp_num.specs.Quotients.{floor_quotient}
use Rattle.plant_model.specs.declared.limits.TheConstants.{HALF_TURN, MOST_POSITION, WHOLE_TURN}
use Rattle.plant_model.specs.Numbers.{IsWithin}
use Rattle.wind_axes.specs.Wind.{ahead_of, starboard_of}
use Rattle.pid.specs.declared.position.Fix.{Fix}
use Rattle.pid.specs.declared.position.FixErrors.{FixErrors}

-- the fix is within the limits of a position, and its heading is below a whole turn
pub record IsInRange (fix : Fix) : Type 0 where
  pub x : IsWithin MOST_POSITION fix.x
  pub y : IsWithin MOST_POSITION fix.y
  pub heading : fix.heading < WHOLE_TURN

-- the angle less as many whole turns as bring it from half a turn back to less than half a turn on
abbrev pub turned : ℤ → ℤ
turned angle = angle -ℤ floor_quotient (angle +ℤ pos HALF_TURN) (pos WHOLE_TURN) *ℤ pos WHOLE_TURN

-- that is what it is
pub record IsTurned (angle result : ℤ) : Type 0 where
  pub low : neg_ℤ (pos HALF_TURN) ≤ℤ result
  pub high : result ≤ℤ pos (HALF_TURN - 1)
  pub turns : (n : ℤ) × (angle ≡ result +ℤ n *ℤ pos WHOLE_TURN)

-- how far the wanted fix is from the vessel's, in the vessel's axes
abbrev pub errors_of : Fix → Fix → FixErrors
errors_of set at =
    let north = set.x -ℤ at.x in
    let east = set.y -ℤ at.y in
    record {
      surge = ahead_of north east at.heading;
      sway = starboard_of north east at.heading;
      yaw = turned (pos set.heading -ℤ pos at.heading);
    }
