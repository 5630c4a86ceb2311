-- Thrusts at a part of their power.
use Rattle.std.specs.Prelude.{ℕ, ℤ, pos, ◌*ℤ◌, List, map, Bool}
use Rattle.std.specs.Int.{int_div_euclid}
use Rattle.std.specs.List.{list_all}
use Rattle.plant_model.specs.declared.limits.TheConstants.{QUARTERS}
use Rattle.plant_model.specs.declared.thrust.Point.{Point}
use Rattle.plant_model.specs.Rings.{is_ring_point}

-- so many quarters of a number, which is whole where the number is a multiple of four
abbrev pub quarter_of : ℕ → ℤ → ℤ
quarter_of quarter z = int_div_euclid (z *ℤ pos quarter) (pos QUARTERS)

abbrev pub scaled_point : ℕ → Point → Point
scaled_point quarter p = record { x = quarter_of quarter p.x; y = quarter_of quarter p.y }

-- the points of each piece, at so many quarters
abbrev pub scaled_points : ℕ → List (List Point) → List (List Point)
scaled_points quarter pieces = map (map (scaled_point quarter)) pieces

-- all points of the pieces are within the greatest thrust, and their quarters are whole
abbrev pub are_whole_points : List (List Point) → Bool
are_whole_points pieces = list_all (list_all is_ring_point) pieces
