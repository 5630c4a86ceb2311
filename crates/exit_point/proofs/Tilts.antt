-- Bounds of tilts, images and rests.
use Rattle.std.proofs.Common.{ℤ, pos, ◌-ℤ◌, ◌*ℤ◌, arith}
use Rattle.std.proofs.lemmas.Int.{ints}
use Rattle.int_ring.proofs.Machine.{machine}
use Rattle.wrench_geometry.specs.declared.vector.Vec3.{Vec3}
use Rattle.wrench_geometry.specs.declared.vector.TheConstants.{MOST_FACTOR, MOST_PLAIN}
use Rattle.wrench_geometry.specs.Vectors.{IsVectorWithin, cross_of, opposite_of}
use Rattle.wrench_geometry.specs.Wrenches.{IsImage, IsSum}
use Rattle.wrench_geometry.proofs.Bounds.{wider, within}
use Rattle.plant_model.specs.declared.limits.TheConstants.{MOST_FORCE, MOST_MOMENT}
use Rattle.separation.specs.declared.directions.TheConstants.{DIRECTION_FORCE, DIRECTION_MOMENT}
use Rattle.separation.specs.Directions.{IsDirection}
use Rattle.wrench_geometry.specs.declared.cut.TheConstants.{CUT_PARTS_BELOW}
use Rattle.plant_model.specs.Numbers.{IsWithin}
use Rattle.exit_point.specs.declared.face_cuts.TheConstants.{REST_FORCE, REST_MOMENT}
use Rattle.exit_point.specs.Faces.{IsUnit}
use Rattle.exit_point.specs.Orders.{IsTilt}

pub plain_of_image : {v : Vec3} → IsImage v → IsVectorWithin MOST_PLAIN MOST_PLAIN v
plain_of_image h = wider MOST_PLAIN MOST_PLAIN (omega (arith, ints)) (omega (arith, ints)) h

pub factor_of_image : {v : Vec3} → IsImage v → IsVectorWithin MOST_FACTOR MOST_FACTOR v
factor_of_image h = wider MOST_FACTOR MOST_FACTOR (omega (arith, ints)) (omega (arith, ints)) h

pub factor_of_tilt : {v : Vec3} → IsTilt v → IsVectorWithin MOST_FACTOR MOST_FACTOR v
factor_of_tilt h = wider MOST_FACTOR MOST_FACTOR (omega (arith, ints)) (omega (arith, ints)) h

pub plain_of_turned : (t p : Vec3) → IsTilt t → IsImage p →
    IsVectorWithin MOST_PLAIN MOST_PLAIN (cross_of t p)
plain_of_turned t p h k =
    record {
      x = within (search machine depth 40) tt;
      y = within (search machine depth 40) tt;
      z =
          within (search machine depth 40) tt;
    }

pub plain_of_tilt : {v : Vec3} → IsTilt v → IsVectorWithin MOST_PLAIN MOST_PLAIN v
plain_of_tilt h = wider MOST_PLAIN MOST_PLAIN (omega (arith, ints)) (omega (arith, ints)) h

pub factor_of_direction : {v : Vec3} → IsDirection v → IsVectorWithin MOST_FACTOR MOST_FACTOR v
factor_of_direction h = wider MOST_FACTOR MOST_FACTOR (omega (arith, ints)) (omega (arith, ints)) h

pub tilt_of_opposite : (v : Vec3) → IsTilt v → IsTilt (opposite_of v)
tilt_of_opposite v h =
    record {
      x = within (search machine depth 40) tt;
      y = within (search machine depth 40) tt;
      z =
          within (search machine depth 40) tt;
    }

-- the normals of the axes and a direction
pub tilt_of_x : (e : Vec3) → IsDirection e →
    IsTilt (cross_of (record { x = pos 1; y = pos 0; z = pos 0 }) e)
tilt_of_x e h =
    record {
      x = within (search machine depth 40) tt;
      y = within (search machine depth 40) tt;
      z =
          within (search machine depth 40) tt;
    }

pub tilt_of_y : (e : Vec3) → IsDirection e →
    IsTilt (cross_of (record { x = pos 0; y = pos 1; z = pos 0 }) e)
tilt_of_y e h =
    record {
      x = within (search machine depth 40) tt;
      y = within (search machine depth 40) tt;
      z =
          within (search machine depth 40) tt;
    }

pub tilt_of_z : (e : Vec3) → IsDirection e →
    IsTilt (cross_of (record { x = pos 0; y = pos 0; z = pos 1 }) e)
tilt_of_z e h =
    record {
      x = within (search machine depth 40) tt;
      y = within (search machine depth 40) tt;
      z =
          within (search machine depth 40) tt;
    }

pub tilt_of_unit : {v : Vec3} → IsUnit v → IsTilt v
tilt_of_unit h =
    wider DIRECTION_MOMENT DIRECTION_MOMENT (omega (arith, ints)) (omega (arith, ints)) h

pub direction_of_unit : {v : Vec3} → IsUnit v → IsDirection v
direction_of_unit h =
    wider DIRECTION_FORCE DIRECTION_MOMENT (omega (arith, ints)) (omega (arith, ints)) h

pub sum_of_unit : {v : Vec3} → IsUnit v → IsSum v
sum_of_unit h = wider MOST_FORCE MOST_MOMENT (omega (arith, ints)) (omega (arith, ints)) h

pub force_past : (top d bottom p : ℤ) → IsWithin CUT_PARTS_BELOW top → IsWithin MOST_FORCE d →
    IsWithin CUT_PARTS_BELOW bottom → IsWithin MOST_FORCE p →
    IsWithin REST_FORCE (top *ℤ d -ℤ bottom *ℤ p)
force_past top d bottom p f g h k = within (search machine depth 40) tt

pub moment_past : (top d bottom p : ℤ) → IsWithin CUT_PARTS_BELOW top → IsWithin MOST_MOMENT d →
    IsWithin CUT_PARTS_BELOW bottom → IsWithin MOST_MOMENT p →
    IsWithin REST_MOMENT (top *ℤ d -ℤ bottom *ℤ p)
moment_past top d bottom p f g h k = within (search machine depth 40) tt
