-- Choices that meet a demand by their exit weights.
use Rattle.std.specs.Prelude.{◌≡◌, ℕ, ◌<◌, ◌≤ℤ◌, List, ⊤}
use Rattle.plant_model.specs.declared.thrust.Point.{Point}
use Rattle.thrust_region.specs.Choices.{choice_of, choices_of}
use Rattle.wrench_geometry.specs.declared.vector.Vec3.{Vec3}
use Rattle.wrench_geometry.specs.Chosen.{images_of}
use Rattle.exit_point.specs.declared.weights.ExitWeights.{ExitWeights}
use Rattle.exit_point.specs.Exits.{IsExit}
use Rattle.certificate.specs.declared.outcome.Outcome.{Outcome}
use Rattle.certificate.specs.declared.outcome.Outcome.TheVariants.{Holds, Lost}
use Rattle.certificate.specs.Outcomes.{IsAhead, IsOneEach, Question}

-- the pieces are the choice with the number, and the weights show that the ray of the demand less
-- the fixed thrusts
-- leaves their sums no sooner than at the demand
pub record IsReached (question : Question) (ahead : Vec3) (number : ℕ) (pieces : List (List Point))
    (fixed : List Point)
    (exit : ExitWeights) : Type 0 where
  pub one_each : IsOneEach question
  pub there : number < choices_of question.regions
  pub chosen : pieces ≡ choice_of question.regions number
  pub same_fixed : fixed ≡ question.fixed
  pub is_ahead : IsAhead question ahead
  pub exits : IsExit (images_of question.levers pieces) ahead exit
  pub enough : exit.q ≤ℤ exit.t

abbrev pub IsHolds : Outcome → Type 0
IsHolds (Holds choice q thrusts) = ⊤
IsHolds (Lost cuts) = ⊥

abbrev pub IsLost : Outcome → Type 0
IsLost (Holds choice q thrusts) = ⊥
IsLost (Lost cuts) = ⊤
