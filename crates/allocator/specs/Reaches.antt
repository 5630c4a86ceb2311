-- How much of a demand the sums of a choice reach, and which choice reaches farthest.
use Rattle.std.specs.Prelude.{◌≡◌, ℕ, ◌<◌, ℤ, ◌*ℤ◌, ◌≤ℤ◌, ◌<ℤ◌, List, [], ◌∷◌, ◌⊎◌, ⊤}
use Rattle.std.specs.Int.{int_max}
use Rattle.dp_num.specs.Fractions.{IsInLowestTerms, SameQuotient}
use Rattle.plant_model.specs.Rings.{origin}
use Rattle.plant_model.specs.declared.thrust.Point.{Point}
use Rattle.thrust_region.specs.Choices.{choice_of, choices_of}
use Rattle.wrench_geometry.specs.Chosen.{images_of}
use Rattle.exit_point.specs.declared.weights.ExitWeights.{ExitWeights}
use Rattle.exit_point.specs.Exits.{IsExit}
use Rattle.certificate.specs.Outcomes.{Question}
use Rattle.thrust_allocation.specs.Allocations.{CanGive, IsPart}
use Rattle.allocator.specs.declared.reach.Reach.{Reach}

-- no fixed thrust is any but zero
abbrev pub AreAtRest : List Point → Type 0
AreAtRest [] = ⊤
AreAtRest (p ∷ fixed) = (p ≡ origin) × AreAtRest fixed

-- no greater part of the demand can be given in the choice
abbrev pub IsGreatestIn : Question → ℕ → ℤ → ℤ → Type 0
IsGreatestIn question choice top bottom = (more rest : ℤ) → IsPart more rest →
    (top *ℤ rest) <ℤ (more *ℤ bottom) → ¬ CanGive question choice more rest

-- what the weighted points are thrusts over: the sum of a list's weights, or t where that is greater,
-- so that they give no more than the demand
abbrev pub denominator_of : ExitWeights → ℤ
denominator_of exit = int_max exit.q exit.t

-- the weights show where the demand's ray leaves the sums of the choice, and the part of the demand
-- up to there is the greatest that the choice can give
pub record IsReach (question : Question) (reach : Reach) : Type 0 where
  pub there : reach.choice < choices_of question.regions
  pub exits : IsExit (images_of question.levers (choice_of question.regions reach.choice))
      question.demand reach.exit
  pub part : IsPart reach.part.top reach.part.bottom
  pub lowest : IsInLowestTerms reach.part.top reach.part.bottom
  pub same : SameQuotient reach.part.top reach.part.bottom reach.exit.t (denominator_of reach.exit)
  pub greatest : IsGreatestIn question reach.choice reach.part.top reach.part.bottom

-- the second of two where its part is greater, and else the first
abbrev pub IsFarther : Reach → Reach → Reach → Type 0
IsFarther first second farther =
    ((farther ≡ second) ×
    ((first.part.top *ℤ second.part.bottom) <ℤ (second.part.top *ℤ first.part.bottom)))
    ⊎ ((farther ≡ first) ×
    ((second.part.top *ℤ first.part.bottom) ≤ℤ (first.part.top *ℤ second.part.bottom)))

-- of the choices below k the reach is in the first that can give the greatest part
pub record IsFarthest (question : Question) (k : ℕ) (reach : Reach) : Type 0 where
  pub reached : IsReach question reach
  pub below : reach.choice < k
  pub greatest : (choice : ℕ) → choice < k →
      IsGreatestIn question choice reach.part.top reach.part.bottom
  pub first : (choice : ℕ) → choice < reach.choice →
      ¬ CanGive question choice reach.part.top reach.part.bottom
