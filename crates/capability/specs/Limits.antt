-- The greatest wind speed that a plant holds with nothing lost and after each loss.
use Rattle.std.specs.Prelude.{◌≡◌, ◌≢◌, ℕ, ◌+◌, ◌<◌, ◌≤◌, List, [], ◌∷◌, length, Option, Some, None}
use Rattle.std.specs.Prelude.{◌↔◌, IfSome}
use Rattle.plant_model.specs.Versions.{IsDemand}
use Rattle.plant_model.specs.declared.limits.TheConstants.{MOST_WIND_SPEED}
use Rattle.plant_model.specs.declared.plant.Parts.{Parts}
use Rattle.plant_model.specs.declared.status.Loss.{Loss}
use Rattle.plant_model.specs.declared.status.Loss.TheVariants.{Intact, Group}
use Rattle.plant_model.specs.declared.status.Status.{Status}
use Rattle.plant_model.specs.declared.wrench.Wrench.{Wrench}
use Rattle.redundancy_groups.specs.Standing.{IsLossOf}
use Rattle.certificate.specs.Losses.{question_after}
use Rattle.certificate.specs.Outcomes.{IsFeasible, IsValid, Question}
use Rattle.certificate.specs.declared.outcome.Outcome.{Outcome}
use Rattle.feasibility.specs.Reached.{IsHolds, IsLost}
use Rattle.capability.specs.Paths.{along, demand_at}
use Rattle.capability.specs.declared.limit.Next.{Next}
use Rattle.capability.specs.declared.limit.Step.{Step}
use Rattle.capability.specs.declared.limit.Step.TheVariants.{Beyond, Lost}
use Rattle.capability.specs.declared.limit.Stop.{Stop}
use Rattle.capability.specs.declared.limit.WindLimit.{WindLimit}
use Rattle.capability.specs.declared.speeds.TheConstants.{SPEEDS}

-- what is asked of a plant in a status, with a base that the thrusters give beside what they give
-- against the wind from an angle
pub record Weather : Type 0 where
  pub plant : Parts
  pub status : Status
  pub base : Wrench
  pub angle : ℕ

abbrev pub demand_in : Weather → ℕ → Wrench
demand_in w speed = demand_at w.plant w.base w.angle speed

abbrev pub asked_in : Weather → Loss → ℕ → Question
asked_in w loss speed = question_after w.plant w.status loss (demand_in w speed)

-- the demand at the speed is within its limits, and what the loss leaves meets it
pub record Withstands (w : Weather) (loss : Loss) (speed : ℕ) : Type 0 where
  pub within : IsDemand (demand_in w speed)
  pub meets : IsFeasible (asked_in w loss speed)

-- with nothing lost, and after the loss of each group
abbrev pub IsHeld : Weather → ℕ → Type 0
IsHeld w speed = (loss : Loss) → IsLossOf w.plant loss → Withstands w loss speed

-- at each whole speed from 0 on
abbrev pub IsHeldTo : Weather → ℕ → Type 0
IsHeldTo w speed = (v : ℕ) → v ≤ speed → IsHeld w v

-- the greatest such speed of those that there may be; none where it isn't held in no wind
abbrev pub IsGreatestSpeed : Weather → Option ℕ → Type 0
IsGreatestSpeed w None = ¬ IsHeld w 0
IsGreatestSpeed w (Some speed) = (speed ≤ MOST_WIND_SPEED) × IsHeldTo w speed
    × ((v : ℕ) → v ≤ MOST_WIND_SPEED → IsHeldTo w v → v ≤ speed)

-- no loss comes before the losses of groups, which come in the order of groups
abbrev pub number_of : Loss → ℕ
number_of Intact = 0
number_of (Group group) = group + 1

-- the losses of the groups from this number on, with the outcomes in turn
abbrev pub EachLoss : (Loss → Outcome → Type 0) → ℕ → List Outcome → Type 0
EachLoss R group [] = Unit {0}
EachLoss R group (outcome ∷ outcomes) = R (Group group) outcome × EachLoss R (group + 1) outcomes

-- a valid outcome, which is a Holds exactly where what is asked can be met
pub record IsAnswer (question : Question) (outcome : Outcome) : Type 0 where
  pub valid : IsValid question outcome
  pub holds : IsHolds outcome ↔ IsFeasible question

-- a valid Holds
pub record Shows (question : Question) (outcome : Outcome) : Type 0 where
  pub valid : IsValid question outcome
  pub holds : IsHolds outcome

-- of no loss and of each group's in turn an outcome
pub record AreOfEach (plant : Parts) (R : Loss → Outcome → Type 0) (outcomes : List Outcome)
    : Type 0 where
  pub intact : Outcome
  pub groups : List Outcome
  pub are : outcomes ≡ intact ∷ groups
  pub one_each : length groups ≡ length plant.groups.items
  pub first : R Intact intact
  pub each : EachLoss R 0 groups

-- what shows that the speed is held; nothing where none is
abbrev pub AreShown : Weather → Option ℕ → List Outcome → Type 0
AreShown w None outcomes = outcomes ≡ []
AreShown w (Some speed) outcomes =
    AreOfEach w.plant (λ loss. Shows (asked_in w loss speed)) outcomes

-- the speed after the greatest that is held
abbrev pub after : Option ℕ → ℕ
after None = 0
after (Some speed) = speed + 1

-- why a loss isn't withstood
abbrev pub IsStep : Weather → Loss → ℕ → Step → Type 0
IsStep w loss speed Beyond = ¬ IsDemand (demand_in w speed)
IsStep w loss speed (Lost outcome) =
    IsDemand (demand_in w speed) × IsValid (asked_in w loss speed) outcome × IsLost outcome

-- the first loss that isn't withstood at the speed, with what shows it
pub record IsFirstLost (w : Weather) (speed : ℕ) (next : Next) : Type 0 where
  pub of_plant : IsLossOf w.plant next.loss
  pub fails : ¬ Withstands w next.loss speed
  pub first : (loss : Loss) → IsLossOf w.plant loss → number_of loss < number_of next.loss
      → Withstands w loss speed
  pub step : IsStep w next.loss speed next.step

-- nothing exactly where the greatest speed that there is is held
abbrev pub IsNext : Weather → Option ℕ → Option Next → Type 0
IsNext w speed None = speed ≡ Some MOST_WIND_SPEED
IsNext w speed (Some next) =
    (speed ≢ Some MOST_WIND_SPEED) × IsFirstLost w (after speed) next

pub record IsWindLimit (w : Weather) (limit : WindLimit) : Type 0 where
  pub speed : IsGreatestSpeed w limit.speed
  pub at : AreShown w limit.speed limit.at.items
  pub next : IsNext w limit.speed limit.next

-- ---- the losses in turn

-- of the losses with numbers below k this is the first after which what is asked at the speed, which
-- is within the path, isn't met
pub record IsFirstUnmet (ask : Loss → Wrench → Question) (path : List Wrench) (k speed : ℕ)
    (loss : Loss) : Type 0 where
  pub below : number_of loss < k
  pub within : speed < length path
  pub unmet : ¬ IsFeasible (ask loss (along path speed))
  pub first : (other : Loss) → number_of other < number_of loss
      → IsFeasible (ask other (along path speed))

-- of the losses with numbers below k each meets what is asked at each speed of the path below the
-- stop, and where the stop isn't the path's end, its loss is the first that doesn't at the stop
pub record StopsAt (ask : Loss → Wrench → Question) (path : List Wrench) (k : ℕ) (stop : Stop)
    : Type 0 where
  pub to : stop.speed ≤ length path
  pub before : (loss : Loss) → number_of loss < k → (speed : ℕ) → speed < stop.speed
      → IsFeasible (ask loss (along path speed))
  pub none : stop.loss ≡ None → stop.speed ≡ length path
  pub some : IfSome stop.loss (IsFirstUnmet ask path k stop.speed)

-- the path stops at the step's loss, which is then a Lost at the stop; or it ends there, before the
-- greatest speed
abbrev pub StopsBy : (Loss → Wrench → Question) → List Wrench → Stop → Loss → Step → Type 0
StopsBy ask path stop loss Beyond =
    (stop.loss ≡ None) × (stop.speed < SPEEDS) × (loss ≡ Intact)
StopsBy ask path stop loss (Lost outcome) =
    (stop.loss ≡ Some loss) × IsValid (ask loss (along path stop.speed)) outcome × IsLost outcome

-- what isn't withstood at the stop; nothing where all speeds are on the path and none stops it
abbrev pub IsStopped : (Loss → Wrench → Question) → List Wrench → Stop → Option Next → Type 0
IsStopped ask path stop None = (stop.loss ≡ None) × (SPEEDS ≤ stop.speed)
IsStopped ask path stop (Some next) = StopsBy ask path stop next.loss next.step
