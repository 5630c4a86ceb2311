-- The images of chosen pieces.
use Rattle.std.specs.Prelude.{List, [], ◌∷◌, map}
use Rattle.plant_model.specs.declared.plant.Parts.{Parts}
use Rattle.plant_model.specs.declared.thrust.Point.{Point}
use Rattle.wrench_geometry.specs.declared.vector.Vec3.{Vec3}
use Rattle.wrench_geometry.specs.Wrenches.{image_of}

-- where the thrusters of a plant stand
abbrev pub levers_of : Parts → List Point
levers_of plant = map (λ thruster. thruster.lever) plant.thrusters.items

-- the images of each piece's points at its lever
abbrev pub images_of : List Point → List (List Point) → List (List Vec3)
images_of (lever ∷ levers) (piece ∷ pieces) = map (image_of lever) piece ∷ images_of levers pieces
images_of _ _ = []
