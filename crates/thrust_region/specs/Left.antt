-- What is left of a thruster's pieces: those that a mask doesn't bar, at so many quarters.
use Rattle.std.specs.Prelude.{ℕ, ◌≤◌, List, [], ◌∷◌, length, map, filter, ◌==◌, if◌then◌else◌, IsTrue}
use Rattle.std.specs.Int.{bit_at}
use Rattle.std.specs.List.{enumerate_from}
use Rattle.plant_model.specs.declared.limits.TheConstants.{MOST_PIECES, QUARTERS}
use Rattle.plant_model.specs.declared.thrust.Pieces.{Pieces}
use Rattle.plant_model.specs.declared.thrust.Point.{Point}
use Rattle.thrust_region.specs.declared.region.Region.TheInside.{Inside}
use Rattle.thrust_region.specs.Pieces.{points_of}
use Rattle.thrust_region.specs.Scaling.{are_whole_points, scaled_points}

-- the pieces that the mask doesn't bar, in their order; bit k of it stands for piece k
abbrev pub free : ℕ → List (List Point) → List (List Point)
free mask pieces =
    map (λ numbered. numbered.1)
    (filter (λ numbered. bit_at mask numbered.0 == 0) (enumerate_from 0 pieces))

-- one piece without points, where there is none
abbrev pub or_alone : List (List Point) → List (List Point)
or_alone [] = [] ∷ []
or_alone (piece ∷ pieces) = piece ∷ pieces

-- the pieces at so many quarters without the barred ones, where there is anything of them
abbrev pub left_of : ℕ → ℕ → List (List Point) → List (List Point)
left_of quarter mask pieces =
    if quarter == 0 then [] ∷ [] else or_alone (free mask (scaled_points quarter pieces))

-- the pieces with these points
abbrev pub pieces_with : List (List Point) → Pieces
pieces_with lists = record {
  list = record { items = map (λ points. record { points = record { items = points } }) lists };
}

-- the pieces that a region stands for
abbrev pub region_view : Inside → Pieces
region_view r = pieces_with
    (or_alone (scaled_points r.quarter (free r.barred (map points_of r.pieces.now))))

pub record IsRegion (r : Inside) : Type 0 where
  pub few : length r.pieces.now ≤ MOST_PIECES
  pub whole : IsTrue (are_whole_points (map points_of r.pieces.now))
  pub quarter : r.quarter ≤ QUARTERS
