-- What is asked of a plant after a loss.
use Rattle.plant_model.specs.declared.plant.Parts.{Parts}
use Rattle.plant_model.specs.declared.status.Loss.{Loss}
use Rattle.plant_model.specs.declared.status.Status.{Status}
use Rattle.plant_model.specs.declared.wrench.Load.{Load}
use Rattle.plant_model.specs.declared.wrench.Wrench.{Wrench}
use Rattle.redundancy_groups.specs.Surviving.{fixed_of, lists_of}
use Rattle.wrench_geometry.specs.Chosen.{levers_of}
use Rattle.wrench_geometry.specs.declared.vector.Vec3.{Vec3}
use Rattle.certificate.specs.Outcomes.{Question}

abbrev pub demand_of : Wrench → Vec3
demand_of wrench = record { x = wrench.x; y = wrench.y; z = wrench.n }

abbrev pub vector_of_load : Load → Vec3
vector_of_load load = record { x = load.x; y = load.y; z = load.n }

-- whether what each thruster can still give after the loss meets the demand
abbrev pub question_after : Parts → Status → Loss → Wrench → Question
question_after plant status loss demand = record {
  levers = levers_of plant;
  regions = lists_of plant status loss;
  fixed = fixed_of plant status loss;
  demand = demand_of demand;
}
