-- Corners of the sums of lists, and shares of a weight among three of them.
use Rattle.std.specs.Prelude.{◌≡◌, ◌≢◌, ◌⊎◌, ℕ, ℤ, pos, ◌+ℤ◌, ◌≤ℤ◌, List, slice_index_or, slice_set}
use Rattle.dp_num.specs.Fractions.{Divides}
use Rattle.wrench_geometry.specs.declared.vector.Vec3.{Vec3}
use Rattle.wrench_geometry.specs.declared.vertices.Vertex.{Vertex}
use Rattle.wrench_geometry.specs.declared.vertices.TheConstants.{MOST_DETERMINANT}
use Rattle.wrench_geometry.specs.Vectors.{IsVectorWithin, cross_of, det_of, dot_of, scaled_by}
use Rattle.wrench_geometry.specs.Vectors.{sum_of, zero_vector}
use Rattle.wrench_geometry.specs.Vertices.{IsShort, IsVertex}
use Rattle.wrench_geometry.specs.Wrenches.{IsSum}
use Rattle.exit_point.specs.declared.corners.Corners.{Corners}
use Rattle.exit_point.specs.declared.corners.Edge.{Edge}
use Rattle.exit_point.specs.declared.corners.TheConstants.{SPAN_FORCE, SPAN_MOMENT}
use Rattle.exit_point.specs.declared.search.Found.{Found}
use Rattle.exit_point.specs.declared.search.Found.TheVariants.{Wall, Face}
use Rattle.exit_point.specs.declared.weights.Shares.{Shares}

-- a sum of one image of each list, within the bounds of such sums
pub record IsCorner (lists : List (List Vec3)) (vertex : Vertex) : Type 0 where
  pub chosen : IsVertex lists vertex
  pub within : IsSum vertex.point

pub record AreCorners (lists : List (List Vec3)) (corners : Corners) : Type 0 where
  pub first : IsCorner lists corners.first
  pub second : IsCorner lists corners.second
  pub third : IsCorner lists corners.third

pub record AreEnds (lists : List (List Vec3)) (edge : Edge) : Type 0 where
  pub first : IsCorner lists edge.first
  pub second : IsCorner lists edge.second

-- a share that is not below 0 and no greater than a determinant
pub record IsShare (share : ℤ) : Type 0 where
  pub low : pos 0 ≤ℤ share
  pub high : share ≤ℤ MOST_DETERMINANT

pub record AreShares (shares : Shares) : Type 0 where
  pub first : IsShare shares.first
  pub second : IsShare shares.second
  pub third : IsShare shares.third

-- three vectors, each times its share, summed
abbrev pub shared : Shares → Vec3 → Vec3 → Vec3 → Vec3
shared shares a b c = sum_of (sum_of (scaled_by shares.first a) (scaled_by shares.second b))
    (scaled_by shares.third c)

-- what the shares sum to
abbrev pub total_of : Shares → ℤ
total_of shares = shares.first +ℤ shares.second +ℤ shares.third

-- the weights with a share more at a place
abbrev pub with_share : List ℤ → ℕ → ℤ → List ℤ
with_share weights place share = slice_set weights place
    (slice_index_or weights place (pos 0) +ℤ share)

-- the vector is within the bounds of a difference of two sums of images
abbrev pub IsSpan : Vec3 → Type 0
IsSpan v = IsVectorWithin SPAN_FORCE SPAN_MOMENT v

-- the fourth corner stands in the place of one of the three
abbrev pub Replaces : Corners → Vertex → Corners → Type 0
Replaces old fourth new =
    (new ≡ record old { first = fourth }) ⊎
    ((new ≡ record old { second = fourth }) ⊎ (new ≡ record old { third = fourth }))

-- a direction, and corners of the lists if there are any
abbrev pub IsFound : List (List Vec3) → Found → Type 0
IsFound lists (Wall w) = IsShort w
IsFound lists (Face w corners) = IsShort w × AreCorners lists corners

-- w is a whole multiple, of at least 1, of v
abbrev pub IsMultiple : Vec3 → Vec3 → Type 0
IsMultiple v w = (k : ℤ) × (pos 1 ≤ℤ k) × (w ≡ scaled_by k v)

-- g divides each component
pub record DividesEach (g : ℤ) (w : Vec3) : Type 0 where
  pub x : Divides g w.x
  pub y : Divides g w.y
  pub z : Divides g w.z

-- by Cramer's rule: each point's share is the determinant of d and the other two
pub record AreSharesOf (d a b c : Vec3) (shares : Shares) : Type 0 where
  pub first : shares.first ≡ det_of d b c
  pub second : shares.second ≡ det_of d c a
  pub third : shares.third ≡ det_of d a b

-- by Cramer's rule the demand has shares of three points that the cut touches: none is below 0,
-- and some is above
pub record IsBetween (d w a b c : Vec3) (top : ℤ) : Type 0 where
  pub first : pos 0 ≤ℤ det_of d b c
  pub second : pos 0 ≤ℤ det_of d c a
  pub third : pos 0 ≤ℤ det_of d a b
  pub some : pos 1 ≤ℤ (det_of d b c +ℤ det_of d c a +ℤ det_of d a b)
  pub touches_first : dot_of w a ≡ top
  pub touches_second : dot_of w b ≡ top
  pub touches_third : dot_of w c ≡ top

-- some multiple of the demand is a sum of two points that the cut touches, which aren't on one line
-- with the origin, each times a share
pub record IsBetweenTwo (d w a b : Vec3) (top : ℤ) : Type 0 where
  pub times : ℤ
  pub first : ℤ
  pub second : ℤ
  pub times_from_1 : pos 1 ≤ℤ times
  pub first_from_0 : pos 0 ≤ℤ first
  pub second_from_1 : pos 1 ≤ℤ second
  pub meets : scaled_by times d ≡ sum_of (scaled_by first a) (scaled_by second b)
  pub apart : cross_of a b ≢ zero_vector
  pub touches_first : dot_of w a ≡ top
  pub touches_second : dot_of w b ≡ top
