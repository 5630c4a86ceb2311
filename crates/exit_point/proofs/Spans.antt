-- Bounds of sums of images, of their differences, and of normals.
use Rattle.std.proofs.Common.{arith}
use Rattle.std.proofs.lemmas.Int.{ints}
use Rattle.int_ring.proofs.Machine.{machine}
use Rattle.wrench_geometry.specs.declared.vector.Vec3.{Vec3}
use Rattle.wrench_geometry.specs.declared.vertices.TheConstants.{SHORT_FORCE, SHORT_MOMENT}
use Rattle.wrench_geometry.specs.Vectors.{cross_of, difference_of, opposite_of}
use Rattle.wrench_geometry.specs.Vertices.{IsShort}
use Rattle.wrench_geometry.specs.Wrenches.{IsSum}
use Rattle.wrench_geometry.proofs.Bounds.{wider, within}
use Rattle.exit_point.specs.declared.corners.TheConstants.{SPAN_FORCE, SPAN_MOMENT}
use Rattle.exit_point.specs.Corners.{IsSpan}

pub span_of_sum : {v : Vec3} → IsSum v → IsSpan v
span_of_sum h = wider SPAN_FORCE SPAN_MOMENT (omega (arith, ints)) (omega (arith, ints)) h

pub short_of_sum : {v : Vec3} → IsSum v → IsShort v
short_of_sum h = wider SHORT_FORCE SHORT_MOMENT (omega (arith, ints)) (omega (arith, ints)) h

pub span_of_difference : (a b : Vec3) → IsSum a → IsSum b → IsSpan (difference_of a b)
span_of_difference a b h k =
    record {
      x = within (search machine depth 40) tt;
      y = within (search machine depth 40) tt;
      z =
          within (search machine depth 40) tt;
    }

pub short_of_cross : (a b : Vec3) → IsSpan a → IsSpan b → IsShort (cross_of a b)
short_of_cross a b h k =
    record {
      x = within (search machine depth 40) tt;
      y = within (search machine depth 40) tt;
      z =
          within (search machine depth 40) tt;
    }

pub short_of_opposite : (a : Vec3) → IsShort a → IsShort (opposite_of a)
short_of_opposite a h =
    record {
      x = within (search machine depth 40) tt;
      y = within (search machine depth 40) tt;
      z =
          within (search machine depth 40) tt;
    }
