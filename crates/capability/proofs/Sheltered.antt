-- What a tent covers is met.
use Rattle.std.proofs.Common.{◌≡◌, subst}
use Rattle.std.specs.Prelude.{IfSome, IsSomeAnd, Option, None, Some}
use Rattle.plant_model.specs.declared.plant.Parts.{Parts}
use Rattle.thrust_region.specs.declared.regions.Regions.{Regions}
use Rattle.wrench_geometry.specs.declared.vector.Vec3.{Vec3}
use Rattle.exit_point.specs.declared.tents.Tent.{Tent}
use Rattle.exit_point.specs.Tents.{Covers}
use Rattle.certificate.specs.Outcomes.{IsAhead, IsFeasible, question_of}
use Rattle.feasibility.specs.Tents.{IsTentOver}

pub sheltered : (plant : Parts) (regions : Regions) (tent : Option Tent) (ahead vector demand : Vec3) →
    IfSome tent (IsTentOver plant regions) → IsSomeAnd tent (λ t. Covers t ahead) →
    IsAhead (question_of plant regions vector) ahead → vector ≡ demand →
    IsFeasible (question_of plant regions demand)
sheltered plant regions None ahead vector demand over covers is same = absurd covers
sheltered plant regions (Some tent) ahead vector demand over covers is same =
    over ahead covers demand
    (subst (λ (d : Vec3). IsAhead (question_of plant regions d) ahead) same is)
