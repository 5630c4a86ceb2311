-- Cuts, and which are least.
use Rattle.std.specs.Prelude.{◌≡◌, pos, ◌*ℤ◌, ◌≤ℤ◌, ◌<ℤ◌, List}
use Rattle.wrench_geometry.specs.declared.cut.Cut.{Cut}
use Rattle.wrench_geometry.specs.declared.cut.TheConstants.{CUT_PARTS_BELOW}
use Rattle.wrench_geometry.specs.declared.vector.Vec3.{Vec3}
use Rattle.wrench_geometry.specs.Vectors.{dot_of, support_of}

-- the cut has the parts of its direction, which is ahead of d
pub record IsCut (lists : List (List Vec3)) (d : Vec3) (cut : Cut) : Type 0 where
  pub bottom : cut.bottom ≡ dot_of cut.w d
  pub top : cut.top ≡ support_of lists cut.w
  pub bottom_from_1 : pos 1 ≤ℤ cut.bottom
  pub bottom_below : cut.bottom <ℤ CUT_PARTS_BELOW
  pub top_below : cut.top <ℤ CUT_PARTS_BELOW

-- no whole direction that has a product of at least 1 with d bounds the sums of the lists closer
-- along d
pub record IsLeastCut (lists : List (List Vec3)) (d : Vec3) (cut : Cut) : Type 0 where
  pub bottom : cut.bottom ≡ dot_of cut.w d
  pub top : cut.top ≡ support_of lists cut.w
  pub bottom_from_1 : pos 1 ≤ℤ cut.bottom
  pub bottom_below : cut.bottom <ℤ CUT_PARTS_BELOW
  pub top_below : cut.top <ℤ CUT_PARTS_BELOW
  pub least : (u : Vec3) → pos 1 ≤ℤ dot_of u d →
      (cut.top *ℤ dot_of u d) ≤ℤ (support_of lists u *ℤ cut.bottom)
