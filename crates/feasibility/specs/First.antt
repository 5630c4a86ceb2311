-- Answers by the first choice that meets a demand.
use Rattle.std.specs.Prelude.{◌≡◌, ℕ, ◌<◌, ℤ, ⊤}
use Rattle.plant_model.specs.declared.plant.Parts.{Parts}
use Rattle.plant_model.specs.declared.thrust.Thrusts.{Thrusts}
use Rattle.thrust_region.specs.declared.regions.Regions.{Regions}
use Rattle.wrench_geometry.specs.declared.vector.Vec3.{Vec3}
use Rattle.certificate.specs.declared.outcome.Outcome.{Outcome}
use Rattle.certificate.specs.declared.outcome.Outcome.TheVariants.{Holds, Lost}
use Rattle.certificate.specs.Outcomes.{IsAhead, IsValid, Question, question_of}

-- a Holds by the choice with the number
abbrev pub IsHeldBy : ℕ → Outcome → Type 0
IsHeldBy number (Holds choice q thrusts) = choice ≡ number
IsHeldBy number (Lost cuts) = ⊥

-- of the choices in their order the first that holds answers: by no earlier one a Holds is valid
abbrev pub IsByFirst : Question → Outcome → Type 0
IsByFirst question (Holds choice q thrusts) =
    (k : ℕ) (r : ℤ) (others : Thrusts) → k < choice → ¬ IsValid question (Holds k r others)
IsByFirst question (Lost cuts) = ⊤

-- it does for each demand that is so far from the load of the fixed thrusts
abbrev pub IsByFirstAhead : Parts → Regions → Vec3 → Outcome → Type 0
IsByFirstAhead plant regions ahead outcome =
    (demand : Vec3) → IsAhead (question_of plant regions demand) ahead →
    IsByFirst (question_of plant regions demand) outcome
