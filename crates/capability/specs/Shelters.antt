-- What is kept of a demand that was met, for the ones that lie near it.
use Rattle.std.specs.Prelude.{◌<◌, IfSome, map}
use Rattle.plant_model.specs.declared.plant.Parts.{Parts}
use Rattle.thrust_region.specs.Choices.{choices_of}
use Rattle.thrust_region.specs.Pieces.{all_points}
use Rattle.thrust_region.specs.declared.regions.Regions.{Regions}
use Rattle.feasibility.specs.Tents.{IsTentOver}
use Rattle.capability.specs.declared.speeds.Shelter.{Shelter}

-- there is such a choice, and whatever the tent covers is feasible
pub record IsShelter (plant : Parts) (regions : Regions) (shelter : Shelter) : Type 0 where
  pub there : shelter.choice < choices_of (map all_points regions.list.items)
  pub tent : IfSome shelter.tent (IsTentOver plant regions)
