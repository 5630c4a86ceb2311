-- Chosen pieces by their places.
use Rattle.std.proofs.Common.{◌≡◌, ◌∙◌, ap, sym, ℕ, ◌<◌, true, List, [], length, map, get_or, arith}
use Rattle.std.specs.List.{list_all}
use Rattle.std.proofs.Math.ListN.{get_or-map}
use Rattle.std.proofs.lemmas.List.{get_or_default, length-map}
use Rattle.plant_model.specs.declared.thrust.Piece.{Piece}
use Rattle.thrust_region.proofs.Lists.{all_at}
use Rattle.thrust_region.specs.Pieces.{are_thrusts, is_thrust, points_of}

-- the points of the piece at a place
pub points_at : (pieces : List Piece) (i : ℕ) (p : Piece) → i < length pieces →
    p ≡ get_or pieces i p → points_of p ≡ get_or (map points_of pieces) i []
points_at pieces i p there is =
    ap points_of is ∙ sym (get_or-map points_of pieces i p)
    ∙ get_or_default (map points_of pieces) i (points_of p) []
    (omega (arith, length-map pieces points_of))

-- they pass the test that those of all pieces pass
pub tested_at : (pieces : List Piece) (i : ℕ) (p : Piece) → i < length pieces →
    p ≡ get_or pieces i p → are_thrusts (map points_of pieces) ≡ true →
    list_all is_thrust (points_of p) ≡ true
tested_at pieces i p there is all =
    ap (list_all is_thrust) (points_at pieces i p there is)
    ∙ all_at (list_all is_thrust) (map points_of pieces) i []
    (omega (arith, length-map pieces points_of)) all
