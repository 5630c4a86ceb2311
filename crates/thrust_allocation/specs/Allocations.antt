-- The greatest part of a demand that thrusts can give, and which allocations show it.
use Rattle.std.specs.Prelude.{◌≡◌, ℕ, ◌<◌, ℤ, pos, ◌*ℤ◌, ◌≤ℤ◌, ◌<ℤ◌, List, length, map}
use Rattle.dp_num.specs.Fractions.{IsInLowestTerms}
use Rattle.plant_model.specs.Lies.{LiesIn}
use Rattle.plant_model.specs.declared.thrust.Thrust.{Thrust}
use Rattle.thrust_region.specs.Choices.{choice_of, choices_of}
use Rattle.wrench_geometry.specs.Vectors.{scaled_by, zero_vector}
use Rattle.certificate.specs.Outcomes.{EachStands, Question, no_thrust, total_of}
use Rattle.certificate.specs.Sides.{place_of}
use Rattle.thrust_allocation.specs.declared.allocation.Allocation.{Allocation}

-- a part of a whole, from 0 to 1
pub record IsPart (top bottom : ℤ) : Type 0 where
  pub from_0 : pos 0 ≤ℤ top
  pub to_1 : top ≤ℤ bottom
  pub bottom_from_1 : pos 1 ≤ℤ bottom

-- thrusts over q in the pieces of the choice give the part top/bottom of the demand: bottom times
-- their total is q times top times the demand
pub record Gives (question : Question) (choice : ℕ) (top bottom q : ℤ) (thrusts : List Thrust)
    : Type 0 where
  pub from_1 : pos 1 ≤ℤ q
  pub one_each : length thrusts ≡ length question.levers
  pub lie : EachStands (λ piece thrust. LiesIn piece thrust q) q
      (choice_of question.regions choice) question.fixed thrusts
  pub sum : scaled_by bottom (total_of question.levers (map place_of thrusts))
      ≡ scaled_by (q *ℤ top) question.demand

-- some thrusts over some denominator do
pub record CanGive (question : Question) (choice : ℕ) (top bottom : ℤ) : Type 0 where
  pub q : ℤ
  pub thrusts : List Thrust
  pub gives : Gives question choice top bottom q thrusts

-- no greater part of the demand can be given in any choice
abbrev pub IsGreatest : Question → ℤ → ℤ → Type 0
IsGreatest question top bottom = (choice : ℕ) (more rest : ℤ) → IsPart more rest
    → choice < choices_of question.regions → (top *ℤ rest) <ℤ (more *ℤ bottom)
    → ¬ CanGive question choice more rest

-- the first choice, with no thrust of any thruster
pub record AsksNothing (question : Question) (a : Allocation) : Type 0 where
  pub choice : a.choice ≡ 0
  pub q : a.q ≡ pos 1
  pub thrusts : a.thrusts.list.items ≡ map (λ lever. no_thrust) question.levers

-- the whole of it
pub record IsWhole (a : Allocation) : Type 0 where
  pub top : a.fraction.top ≡ pos 1
  pub bottom : a.fraction.bottom ≡ pos 1

-- the allocation gives the greatest part of the demand, in the first choice in which it can be
-- given, and its thrusts show it
pub record IsRight (question : Question) (a : Allocation) : Type 0 where
  pub part : IsPart a.fraction.top a.fraction.bottom
  pub lowest : IsInLowestTerms a.fraction.top a.fraction.bottom
  pub choice : a.choice < choices_of question.regions
  pub gives : Gives question a.choice a.fraction.top a.fraction.bottom a.q a.thrusts.list.items
  pub greatest : IsGreatest question a.fraction.top a.fraction.bottom
  pub first : (choice : ℕ) → choice < a.choice
      → ¬ CanGive question choice a.fraction.top a.fraction.bottom
  -- of no demand all is given, with no thrust; and there is no thrust where nothing is given
  pub no_demand : question.demand ≡ zero_vector → IsWhole a × AsksNothing question a
  pub no_part : a.fraction.top ≡ pos 0 → AsksNothing question a
