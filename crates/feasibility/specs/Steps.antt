-- What one choice says of a demand, and what the choices so far say.
use Rattle.std.specs.Prelude.{◌≡◌, ℕ, ◌<◌, ◌≤◌, ◌<ℤ◌, List, length, map, slice_index_or}
use Rattle.plant_model.specs.declared.plant.Parts.{Parts}
use Rattle.thrust_region.specs.Choices.{choice_of, choices_of}
use Rattle.thrust_region.specs.Pieces.{all_points}
use Rattle.thrust_region.specs.declared.regions.Regions.{Regions}
use Rattle.wrench_geometry.specs.declared.vector.Vec3.{Vec3}
use Rattle.wrench_geometry.specs.Chosen.{images_of, levers_of}
use Rattle.wrench_geometry.specs.Vectors.{dot_of, support_of, zero_vector}
use Rattle.certificate.specs.declared.outcome.Outcome.{Outcome}
use Rattle.certificate.specs.Outcomes.{IsAhead, IsValid, question_of}
use Rattle.feasibility.specs.declared.choosing.Step.{Step}
use Rattle.feasibility.specs.declared.choosing.Step.TheVariants.{Met, CutOff}
use Rattle.feasibility.specs.First.{IsHeldBy}
use Rattle.feasibility.specs.Lowest.{IsLowest, IsPrimitive}

-- the outcome is valid for each demand that is so far from the load of the fixed thrusts
abbrev pub IsValidAhead : Parts → Regions → Vec3 → Outcome → Type 0
IsValidAhead plant regions ahead outcome =
    (demand : Vec3) → IsAhead (question_of plant regions demand) ahead →
    IsValid (question_of plant regions demand) outcome

-- no sum of thrusts in the choice is as far along the direction
abbrev pub FallsShort : Parts → Regions → Vec3 → ℕ → Vec3 → Type 0
FallsShort plant regions ahead k w =
    support_of (images_of (levers_of plant) (choice_of (map all_points regions.list.items) k)) w <ℤ
    dot_of w ahead

-- the choice meets the demand, or the direction separates it, each in lowest terms
abbrev pub IsStep : Parts → Regions → Vec3 → ℕ → Step → Type 0
IsStep plant regions ahead k (Met outcome) =
    IsValidAhead plant regions ahead outcome × IsLowest outcome × IsHeldBy k outcome
IsStep plant regions ahead k (CutOff w) = FallsShort plant regions ahead k w × IsPrimitive w

-- the choices below k are cut off, each by its direction in lowest terms
pub record CutOffBelow (plant : Parts) (regions : Regions) (ahead : Vec3) (k : ℕ) (list : List Vec3)
    : Type 0 where
  pub counted : length list ≡ k
  pub short : (i : ℕ) → i < k → FallsShort plant regions ahead i (slice_index_or list i zero_vector)
  pub primitive : (i : ℕ) → i < k → IsPrimitive (slice_index_or list i zero_vector)

-- the first so many choices are cut off by as many directions, and there are as many choices
pub record AreCutOff (plant : Parts) (regions : Regions) (ahead : Vec3) (list : List Vec3)
    : Type 0 where
  pub cut : CutOffBelow plant regions ahead (length list) list
  pub there : length list ≤ choices_of (map all_points regions.list.items)
