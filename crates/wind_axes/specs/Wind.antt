-- What the calls of angles and of the wind mean. An angle is in centidegrees, and a sine in
-- ten-thousandths.
use Rattle.std.specs.Prelude.{ℕ, zero, suc, ℤ, pos, ◌+◌, ◌-◌, ◌*◌, ◌/◌, ◌%◌, ◌+ℤ◌, ◌-ℤ◌, ◌*ℤ◌, neg_ℤ, nat_le}
use Rattle.std.specs.Prelude.{◌≡◌, if◌then◌else◌, List, [], ◌∷◌, unwrap_or, slice_get}
use Rattle.dp_num.specs.Quotients.{floor_quotient}
use Rattle.plant_model.specs.declared.limits.TheConstants.{HALF_TURN, QUARTER_TURN, WHOLE_TURN}
use Rattle.plant_model.specs.declared.limits.TheConstants.{WIND_ROWS}
use Rattle.plant_model.specs.declared.controller.WindRow.{WindRow}
use Rattle.plant_model.specs.declared.wrench.Load.{Load}
use Rattle.wind_axes.specs.declared.angle.TheConstants.{SINE_FACTOR, SINE_SQUARE, WHOLE_SINE}
use Rattle.wind_axes.specs.declared.wind.TheConstants.{ROW_SPACING}

-- the sine of an angle of at most half a turn: 4·c·(180° - c) over 40500 - c·(180° - c) in degrees
abbrev pub half_turn_sine : ℕ → ℤ
half_turn_sine angle =
    let product = angle * (HALF_TURN - angle) in
    floor_quotient (pos (SINE_FACTOR * product)) (pos (SINE_SQUARE - product))

-- the sine of an angle below a whole turn, which half a turn changes in sign
abbrev pub sine_of : ℕ → ℤ
sine_of angle =
    if nat_le angle HALF_TURN then half_turn_sine angle
    else neg_ℤ (half_turn_sine (angle - HALF_TURN))

-- the cosine is the sine a quarter of a turn on
abbrev pub cosine_of : ℕ → ℤ
cosine_of angle = sine_of ((angle + QUARTER_TURN) % WHOLE_TURN)

-- how far ahead of a vessel of this heading a point lies that is so far to the north and to the
-- east
abbrev pub ahead_of : ℤ → ℤ → ℕ → ℤ
ahead_of north east heading =
    floor_quotient (north *ℤ cosine_of heading +ℤ east *ℤ sine_of heading) WHOLE_SINE

-- how far to starboard of it the point lies
abbrev pub starboard_of : ℤ → ℤ → ℕ → ℤ
starboard_of north east heading =
    floor_quotient (east *ℤ cosine_of heading -ℤ north *ℤ sine_of heading) WHOLE_SINE

-- the row at a number of tens of degrees, of which the last is followed by the first
abbrev pub row_at : List WindRow → ℕ → WindRow
row_at table tens =
    unwrap_or (slice_get table (tens % WIND_ROWS)) (record { x = pos 0; y = pos 0; n = pos 0 })

-- the coefficient so many centidegrees after one row's, on the way to the next row's
abbrev pub coefficient_between : ℤ → ℤ → ℕ → ℤ
coefficient_between here next rest =
    floor_quotient (here *ℤ pos (ROW_SPACING - rest) +ℤ next *ℤ pos rest) (pos ROW_SPACING)

-- what a coefficient, in millionths, gives at a wind speed
abbrev pub component_of : ℤ → ℕ → ℤ
component_of coefficient speed = floor_quotient (coefficient *ℤ pos (speed * speed)) (pos 1000000)

-- what the wind does to the vessel, at a speed and an angle from the bow towards starboard
abbrev pub wind_load : List WindRow → ℕ → ℕ → Load
wind_load table speed angle =
    let here = row_at table (angle / ROW_SPACING) in
    let next = row_at table (angle / ROW_SPACING + 1) in
    let rest = angle % ROW_SPACING in
    record {
      x = component_of (coefficient_between here.x next.x rest) speed;
      y = component_of (coefficient_between here.y next.y rest) speed;
      n = component_of (coefficient_between here.n next.n rest) speed;
    }

-- ---- numbers

-- the sine's constants and the spacing of a wind table's rows, as numbers
pub record AreConstants : Type 0 where
  pub whole_sine : WHOLE_SINE ≡ pos 10000
  pub sine_factor : SINE_FACTOR ≡ 40000
  pub sine_square : SINE_SQUARE ≡ 405000000
  pub row_spacing : ROW_SPACING ≡ 1000

-- The row of a wind table at an angle for which the wind takes so much off the vessel as the cosine and
-- the sine say: minus a quarter of the one and minus half of the other, and no moment.
abbrev pub row_of : ℕ → WindRow
row_of angle = record {
  x = floor_quotient (neg_ℤ (cosine_of angle)) (pos 4);
  y = floor_quotient (neg_ℤ (sine_of angle)) (pos 2);
  n = pos 0;
}

-- so many of these rows, a thousand centidegrees apart, from this angle on
abbrev pub rows_from : ℕ → ℕ → List WindRow
rows_from zero angle = []
rows_from (suc count) angle = row_of angle ∷ rows_from count (angle + 1000)
