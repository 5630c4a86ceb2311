-- Pieces as the points that they have.
use Rattle.std.specs.Prelude.{List, map, Bool, ◌&&◌}
use Rattle.std.specs.List.{list_all}
use Rattle.plant_model.specs.declared.thrust.Piece.{Piece}
use Rattle.plant_model.specs.declared.thrust.Pieces.{Pieces}
use Rattle.plant_model.specs.declared.thrust.Point.{Point}
use Rattle.plant_model.specs.Rings.{is_thrust_coordinate}

abbrev pub points_of : Piece → List Point
points_of piece = piece.points.items

-- the points of each piece, in order
abbrev pub all_points : Pieces → List (List Point)
all_points pieces = map points_of pieces.list.items

-- a thrust within the greatest one along both axes
abbrev pub is_thrust : Point → Bool
is_thrust p = is_thrust_coordinate p.x && is_thrust_coordinate p.y

-- all points of the pieces are such thrusts
abbrev pub are_thrusts : List (List Point) → Bool
are_thrusts pieces = list_all (list_all is_thrust) pieces
