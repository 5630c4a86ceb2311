-- Rings of thrusts round the origin, the sectors that they forbid, and the pieces into which they
-- are cut. The places of a ring of n points are the numbers below n, and edge e goes from place e
-- to the place after it.
use Rattle.std.specs.Prelude.{◌≡◌, ℕ, zero, suc, ◌+◌, ◌-◌, ◌%◌, ◌<◌, ℤ, pos, ◌+ℤ◌, ◌-ℤ◌, ◌*ℤ◌, ◌<ℤ◌}
use Rattle.std.specs.Prelude.{int_lt, int_le, nat_abs, List, [], ◌∷◌, ◌++◌, length, map, take, drop}
use Rattle.std.specs.Prelude.{filter, flat_map, take_while, count_by, slice_get, unwrap_or, Bool}
use Rattle.std.specs.Prelude.{not, ◌&&◌, ◌||◌, ◌==◌, nat_le, nat_lt, if◌then◌else◌, ◌⊎◌, IsTrue}
use Rattle.std.specs.List.{list_all, list_any, range_with_len, position_or_len}
use Rattle.plant_model.specs.declared.limits.TheConstants.{MOST_PIECE_POINTS, MOST_RING_POINTS}
use Rattle.plant_model.specs.declared.limits.TheConstants.{MOST_SECTORS, MOST_THRUST, QUARTERS}
use Rattle.plant_model.specs.declared.thrust.Point.{Point}
use Rattle.plant_model.specs.declared.thrust.Sector.{Sector}

abbrev pub origin : Point
origin = record { x = pos 0; y = pos 0 }

-- the plane's cross product: above 0 where the shorter turn from a to b is from x to y
abbrev pub cross : Point → Point → ℤ
cross a b = a.x *ℤ b.y -ℤ a.y *ℤ b.x

abbrev pub dot : Point → Point → ℤ
dot a b = a.x *ℤ b.x +ℤ a.y *ℤ b.y

-- the way from a to b
abbrev pub way : Point → Point → Point
way a b = record { x = b.x -ℤ a.x; y = b.y -ℤ a.y }

abbrev pub is_zero : ℤ → Bool
is_zero z = nat_abs z == 0

abbrev pub same_point : Point → Point → Bool
same_point a b = is_zero (a.x -ℤ b.x) && is_zero (a.y -ℤ b.y)

-- how far p stands to the left of the line from a to b, by a positive factor; below 0 to the right
abbrev pub side : Point → Point → Point → ℤ
side a b p = cross (way a b) (way a p)

-- the point at a place of a ring
abbrev pub point_at : List Point → ℕ → Point
point_at ring place = unwrap_or (slice_get ring place) origin

abbrev pub places : ℕ → List ℕ
places n = range_with_len 0 n

-- the place after one, counted round
abbrev pub place_after : ℕ → ℕ → ℕ
place_after n place = (place + 1) % n

-- two different points on one line with the origin, not on the same side of it
abbrev pub is_line : List Point → Bool
is_line ring =
    let a = point_at ring 0 in
    let b = point_at ring 1 in
    length ring == 2 && not (same_point a b) && is_zero (cross a b) && int_le (dot a b) (pos 0)

-- the origin and every other point of the ring stand strictly to the left of the edge
abbrev pub is_border : List Point → ℕ → Bool
is_border ring edge =
    let n = length ring in
    let after = place_after n edge in
    let a = point_at ring edge in
    let b = point_at ring after in
    int_lt (pos 0) (side a b origin)
    && list_all
    (λ place. place == edge || place == after || int_lt (pos 0) (side a b (point_at ring place)))
    (places n)

-- at least three points, each edge a border
abbrev pub is_round : List Point → Bool
is_round ring = nat_le 3 (length ring) && list_all (is_border ring) (places (length ring))

abbrev pub is_thrust_coordinate : ℤ → Bool
is_thrust_coordinate z = nat_le (nat_abs z) (nat_abs MOST_THRUST)

-- a point that a ring may have: within the greatest thrust, and each quarter of it whole
abbrev pub is_ring_point : Point → Bool
is_ring_point p =
    is_thrust_coordinate p.x && is_thrust_coordinate p.y
    && nat_abs p.x % QUARTERS == 0 && nat_abs p.y % QUARTERS == 0

abbrev pub is_ring : List Point → Bool
is_ring ring =
    nat_le (length ring) MOST_RING_POINTS
    && list_all is_ring_point ring
    && (is_line ring || is_round ring)

-- how many edges lead from one place of a ring of n points to another, counted round
abbrev pub edges_between : ℕ → ℕ → ℕ → ℕ
edges_between n from to = (to + n - from) % n

-- the sector covers the edge
abbrev pub is_covered_by : ℕ → ℕ → Sector → Bool
is_covered_by n edge sector =
    nat_lt (edges_between n sector.from edge) (edges_between n sector.from sector.to)

abbrev pub is_sector : ℕ → Sector → Bool
is_sector n sector = nat_lt sector.from n && nat_lt sector.to n && not (sector.from == sector.to)

-- sectors that a ring of n points may have: none where it has two points, and no edge is covered
-- twice
abbrev pub are_sectors : ℕ → List Sector → Bool
are_sectors n sectors =
    nat_le (length sectors) MOST_SECTORS
    && (nat_lt 2 n || length sectors == 0)
    && list_all (is_sector n) sectors
    && list_all (λ edge. nat_le (count_by (is_covered_by n edge) sectors) 1) (places n)

-- the places from one on, round the ring to the one before it
abbrev pub places_from : ℕ → ℕ → List ℕ
places_from n place = drop place (places n) ++ take place (places n)

-- the run from a place on: round the ring to the next place at which a sector begins, which may be
-- the same
abbrev pub run_from : ℕ → List Sector → ℕ → List ℕ
run_from n sectors place =
    let round = places_from n place in
    take (position_or_len (λ p. list_any (λ s. s.from == p) sectors) round + 1) round

-- the runs of places that no sector covers: one that begins at each end of a sector, by ascending
-- place, or without sectors the whole ring from place 0 round to place 0 again
abbrev pub runs : ℕ → List Sector → List (List ℕ)
runs n [] = (places n ++ 0 ∷ []) ∷ []
runs n (sector ∷ sectors) =
    map (run_from n (sector ∷ sectors))
    (filter (λ p. list_any (λ s. s.to == p) (sector ∷ sectors)) (places n))

-- the longest front of a run that has no more points than a piece and turns by at most half a turn
abbrev pub first_wedge : List Point → List Point
first_wedge [] = []
first_wedge (p ∷ ps) =
    take MOST_PIECE_POINTS (take_while (λ r. int_le (pos 0) (cross p r)) (p ∷ ps))

-- the wedges of a run, of which each begins where the one before ends; there are at most so many
abbrev pub wedges : ℕ → List Point → List (List Point)
wedges zero run = []
wedges (suc most) run =
    let wedge = first_wedge run in
    if nat_lt (length wedge) (length run)
    then wedge ∷ wedges most (drop (length wedge - 1) run)
    else wedge ∷ []

-- the wedges of a run, which is given by its places in a ring
abbrev pub wedges_along : List Point → List ℕ → List (List Point)
wedges_along ring run = wedges (length run) (map (point_at ring) run)

-- the pieces into which its sectors cut a ring, each as its points: the ring itself where it has
-- two points, and else the wedges of its runs
abbrev pub cut : List Point → List Sector → List (List Point)
cut ring sectors =
    if length ring == 2 then ring ∷ []
    else flat_map (wedges_along ring) (runs (length ring) sectors)

-- a place of the ring that stands between a sector's two ends
pub record IsInner (n : ℕ) (sector : Sector) (place : ℕ) : Type 0 where
  pub there : place < n
  pub behind : 0 < edges_between n sector.from place
  pub before : edges_between n sector.from place < edges_between n sector.from sector.to

-- the point is on the open ray from the origin through p
pub record IsOnRay (p a : Point) : Type 0 where
  pub along : cross p a ≡ pos 0
  pub ahead : pos 0 <ℤ dot p a

-- the point is strictly between the rays through p and r, of which r is less than half a turn after
-- p
pub record IsBetweenRays (p r a : Point) : Type 0 where
  pub after : pos 0 <ℤ cross p a
  pub before : pos 0 <ℤ cross a r

-- the point is strictly inside the sector: on the ray of an inner place, or between the rays of the
-- two ends of an edge that the sector covers
abbrev pub IsStrictlyInside : List Point → Sector → Point → Type 0
IsStrictlyInside ring sector a =
    ((place : ℕ) × IsInner (length ring) sector place × IsOnRay (point_at ring place) a)
    ⊎ ((edge : ℕ) × (edge < length ring) × IsTrue (is_covered_by (length ring) edge sector)
    × IsBetweenRays (point_at ring edge) (point_at ring (place_after (length ring) edge)) a)
