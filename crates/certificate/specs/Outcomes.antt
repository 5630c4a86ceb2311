-- Which outcomes are valid for what is left of a plant, and what they are about.
use Rattle.std.specs.Prelude.{◌≡◌, ℕ, ◌<◌, ℤ, pos, ◌-ℤ◌, ◌*ℤ◌, ◌≤ℤ◌, ◌<ℤ◌, List, [], ◌∷◌, length}
use Rattle.std.specs.Prelude.{map, slice_index_or, Any, ◌⊎◌, ⊤}
use Rattle.plant_model.specs.Lies.{LiesIn}
use Rattle.plant_model.specs.Rings.{origin}
use Rattle.plant_model.specs.declared.plant.Parts.{Parts}
use Rattle.plant_model.specs.declared.thrust.Point.{Point}
use Rattle.plant_model.specs.declared.thrust.Thrust.{Thrust}
use Rattle.plant_model.specs.declared.thrust.Thrusts.{Thrusts}
use Rattle.thrust_region.specs.Choices.{choice_of, choices_of}
use Rattle.thrust_region.specs.Pieces.{all_points}
use Rattle.thrust_region.specs.declared.regions.Regions.{Regions}
use Rattle.wrench_geometry.specs.Chosen.{images_of, levers_of}
use Rattle.wrench_geometry.specs.declared.vector.Vec3.{Vec3}
use Rattle.wrench_geometry.specs.Vectors.{difference_of, dot_of, scaled_by, sum_of, support_of}
use Rattle.wrench_geometry.specs.Vectors.{zero_vector}
use Rattle.wrench_geometry.specs.Wrenches.{image_of}
use Rattle.certificate.specs.declared.outcome.Cuts.{Cuts}
use Rattle.certificate.specs.declared.outcome.Outcome.{Outcome}
use Rattle.certificate.specs.declared.outcome.Outcome.TheVariants.{Holds, Lost}
use Rattle.certificate.specs.declared.outcome.Place.{Place}
use Rattle.certificate.specs.declared.outcome.Place.TheVariants.{Denominator, Choice, ThrustCount}
use Rattle.certificate.specs.declared.outcome.Place.TheVariants.{Thruster, Sum, CutCount, Cut}
use Rattle.certificate.specs.Sides.{place_of}

-- what is left of a plant after a loss, and what is asked of it: of each thruster its lever, the
-- points of each piece
-- that it may use, and what it gives beside a thrust in a piece
pub record Question : Type 0 where
  pub levers : List Point
  pub regions : List (List (List Point))
  pub fixed : List Point
  pub demand : Vec3

-- whether a plant with these regions left meets a demand
abbrev pub question_of : Parts → Regions → Vec3 → Question
question_of plant regions demand = record {
  levers = levers_of plant;
  regions = map all_points regions.list.items;
  fixed = regions.fixed.items;
  demand = demand;
}

-- there is a region and a fixed thrust for each lever
pub record IsOneEach (question : Question) : Type 0 where
  pub regions : length question.regions ≡ length question.levers
  pub fixed : length question.fixed ≡ length question.levers

-- the force and the moment of thrusts at their levers together
abbrev pub total_of : List Point → List Point → Vec3
total_of (lever ∷ levers) (thrust ∷ thrusts) =
    sum_of (image_of lever thrust) (total_of levers thrusts)
total_of _ _ = zero_vector

-- what is left of a thrust over q without a fixed thrust
abbrev pub without : ℤ → Point → Thrust → Thrust
without q fixed thrust = record { x = thrust.x -ℤ q *ℤ fixed.x; y = thrust.y -ℤ q *ℤ fixed.y }

-- there is one fixed thrust and one thrust for each of the list, and the relation holds of what is
-- left of each thrust
abbrev pub EachStands : {A : Type 0} → (A → Thrust → Type 0) → ℤ → List A → List Point →
    List Thrust → Type 0
EachStands R q [] [] [] = ⊤
EachStands R q (x ∷ xs) (fixed ∷ fixeds) (thrust ∷ thrusts) =
    R x (without q fixed thrust) × EachStands R q xs fixeds thrusts
EachStands R q _ _ _ = ⊥

-- the thrust over q lies in some piece of the region
abbrev pub LiesInSome : ℤ → List (List Point) → Thrust → Type 0
LiesInSome q region thrust = Any (λ piece. LiesIn piece thrust q) region

-- the thrusts over q meet the demand exactly, each with what is left of it in a piece
pub record Meets (question : Question) (q : ℤ) (thrusts : List Thrust) : Type 0 where
  pub from_1 : pos 1 ≤ℤ q
  pub one_each : length thrusts ≡ length question.levers
  pub lie : EachStands (LiesInSome q) q question.regions question.fixed thrusts
  pub sum : total_of question.levers (map place_of thrusts) ≡ scaled_by q question.demand

-- some thrusts over some denominator meet the demand
pub record IsFeasible (question : Question) : Type 0 where
  pub q : ℤ
  pub thrusts : List Thrust
  pub meets : Meets question q thrusts

-- the vector is the demand less what the fixed thrusts give
abbrev pub IsAhead : Question → Vec3 → Type 0
IsAhead question ahead =
    ahead ≡ difference_of question.demand (total_of question.levers question.fixed)

-- along w the demand, less the fixed thrusts, is farther than each sum of thrusts in the pieces
abbrev pub Separates : Question → List (List Point) → Vec3 → Type 0
Separates question pieces w =
    support_of (images_of question.levers pieces) w
    <ℤ dot_of w (difference_of question.demand (total_of question.levers question.fixed))

abbrev pub no_thrust : Thrust
no_thrust = record { x = pos 0; y = pos 0 }

-- what an outcome must meet at a place
abbrev pub IsMet : Question → Outcome → Place → Type 0
IsMet question (Holds choice q thrusts) Denominator = pos 1 ≤ℤ q
IsMet question (Holds choice q thrusts) Choice = choice < choices_of question.regions
IsMet question (Holds choice q thrusts) ThrustCount =
    length thrusts.list.items ≡ length question.levers
IsMet question (Holds choice q thrusts) (Thruster i) =
    i < length question.levers →
    LiesIn (slice_index_or (choice_of question.regions choice) i [])
    (without q (slice_index_or question.fixed i origin) (slice_index_or thrusts.list.items i
    no_thrust)) q
IsMet question (Holds choice q thrusts) Sum =
    total_of question.levers (map place_of thrusts.list.items) ≡ scaled_by q question.demand
IsMet question (Lost cuts) CutCount = length cuts.list.items ≡ choices_of question.regions
IsMet question (Lost cuts) (Cut k) =
    k < choices_of question.regions →
    Separates question (choice_of question.regions k) (slice_index_or cuts.list.items k zero_vector)
IsMet question _ _ = ⊤

-- places are judged by their kinds, and those of one kind by their numbers
abbrev pub kind_of : Place → ℕ
kind_of Denominator = 0
kind_of Choice = 1
kind_of ThrustCount = 2
kind_of (Thruster i) = 3
kind_of Sum = 4
kind_of CutCount = 5
kind_of (Cut k) = 6

abbrev pub number_of : Place → ℕ
number_of (Thruster i) = i
number_of (Cut k) = k
number_of _ = 0

abbrev pub IsBefore : Place → Place → Type 0
IsBefore p r = (kind_of p < kind_of r) ⊎ ((kind_of p ≡ kind_of r) × (number_of p < number_of r))

-- the outcome meets what it must at each place
abbrev pub IsValid : Question → Outcome → Type 0
IsValid question outcome = (place : Place) → IsMet question outcome place

-- the outcome fails at the place, and at none before it
pub record IsFirstFault (question : Question) (outcome : Outcome) (place : Place) : Type 0 where
  pub fails : ¬ IsMet question outcome place
  pub first : (p : Place) → IsBefore p place → IsMet question outcome p

-- what a valid outcome shows: that some thrusts meet the demand, or that none do
abbrev pub IsShown : Question → Outcome → Type 0
IsShown question (Holds choice q thrusts) = IsFeasible question
IsShown question (Lost cuts) = ¬ IsFeasible question

-- a valid Holds shows that the demand can be met
abbrev pub HoldsTells : Type 0
HoldsTells =
    (question : Question) → IsOneEach question → (choice : ℕ) (q : ℤ) (thrusts : Thrusts) →
    IsValid question (Holds choice q thrusts) → IsFeasible question

-- a valid Lost shows that it can't
abbrev pub LostTells : Type 0
LostTells = (question : Question) → IsOneEach question → (cuts : Cuts) →
    IsValid question (Lost cuts) → ¬ IsFeasible question
