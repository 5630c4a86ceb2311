-- Sums of one image of each list with their places.
use Rattle.std.specs.Prelude.{◌≡◌, ℕ, ◌≤◌, List, length}
use Rattle.std.specs.List.{AllZip}
use Rattle.wrench_geometry.specs.declared.vector.Vec3.{Vec3}
use Rattle.wrench_geometry.specs.declared.vertices.Vertex.{Vertex}
use Rattle.wrench_geometry.specs.declared.vertices.TheConstants.{SHORT_FORCE, SHORT_MOMENT}
use Rattle.wrench_geometry.specs.Vectors.{IsVectorWithin}
use Rattle.wrench_geometry.specs.Wrenches.{sum_at}

-- the vector is within the bounds of a direction whose products are taken in 64 bits
abbrev pub IsShort : Vec3 → Type 0
IsShort w = IsVectorWithin SHORT_FORCE SHORT_MOMENT w

-- there is one place for each list, of an image or of the origin
abbrev pub ArePlaces : List (List Vec3) → List ℕ → Type 0
ArePlaces lists places = AllZip (λ list place. place ≤ length list) lists places

-- the point is the sum of the images at its places
pub record IsVertex (lists : List (List Vec3)) (vertex : Vertex) : Type 0 where
  pub places : ArePlaces lists vertex.places.items
  pub point : vertex.point ≡ sum_at lists vertex.places.items
