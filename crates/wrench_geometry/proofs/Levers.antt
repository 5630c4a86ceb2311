-- Images of thrusts at one lever.
use Rattle.std.proofs.Common.{◌≡◌, List, [], ◌∷◌, map, pos, refl, ap}
use Rattle.plant_model.specs.declared.thrust.Point.{Point}
use Rattle.wrench_geometry.specs.declared.vector.Vec3.{Vec3}
use Rattle.wrench_geometry.specs.Fans.{HaveOneLever, thrust_of}
use Rattle.wrench_geometry.specs.Wrenches.{image_of}

thrusts_again : (lever : Point) (points : List Point) →
    map (image_of lever) points
    ≡ map (image_of lever) (map thrust_of (map (image_of lever) points))
thrusts_again lever [] = refl
thrusts_again lever (p ∷ points) =
    ap (λ (l : List Vec3). image_of lever p ∷ l) (thrusts_again lever points)

pub images_have_lever : (lever : Point) (points : List Point) →
    HaveOneLever (map (image_of lever) points)
images_have_lever lever points =
    record { lever = lever; are = thrusts_again lever points }

pub none_have_lever : HaveOneLever []
none_have_lever =
    record { lever = record { x = pos 0; y = pos 0 }; are = refl }
