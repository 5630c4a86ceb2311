-- Tents of which all that they cover can be met.
use Rattle.plant_model.specs.declared.plant.Parts.{Parts}
use Rattle.thrust_region.specs.declared.regions.Regions.{Regions}
use Rattle.wrench_geometry.specs.declared.vector.Vec3.{Vec3}
use Rattle.exit_point.specs.declared.tents.Tent.{Tent}
use Rattle.exit_point.specs.Tents.{Covers}
use Rattle.certificate.specs.Outcomes.{IsAhead, IsFeasible, question_of}

-- each demand that is so far from the load of the fixed thrusts is feasible
abbrev pub IsFeasibleAhead : Parts → Regions → Vec3 → Type 0
IsFeasibleAhead plant regions ahead =
    (demand : Vec3) → IsAhead (question_of plant regions demand) ahead →
    IsFeasible (question_of plant regions demand)

-- whatever the tent covers is feasible
abbrev pub IsTentOver : Parts → Regions → Tent → Type 0
IsTentOver plant regions tent =
    (ahead : Vec3) → Covers tent ahead → IsFeasibleAhead plant regions ahead
