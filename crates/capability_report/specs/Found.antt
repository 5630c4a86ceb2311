-- What is found of a plant's capability, and how much of it is written.
use Rattle.std.specs.Prelude.{◌≡◌, ℕ, ◌+◌, ◌*◌, ◌≤◌, List, [], ◌∷◌, ◌⊎◌, length, Bool, true, false}
use Rattle.std.specs.Prelude.{Result, IfOk, OnErr, OnOk}
use Rattle.plant_model.specs.declared.limits.TheConstants.{WIND_ROWS}
use Rattle.plant_model.specs.declared.plant.Parts.{Parts}
use Rattle.plant_model.specs.declared.status.Loss.{Loss}
use Rattle.plant_model.specs.declared.status.Loss.TheVariants.{Intact, Group}
use Rattle.plant_model.specs.declared.wrench.Wrench.{Wrench}
use Rattle.redundancy_groups.specs.Standing.{IsLossOf}
use Rattle.certificate.specs.Losses.{question_after}
use Rattle.certificate.specs.Outcomes.{IsFeasible, Question}
use Rattle.dp_io.specs.Shown.{Shown, Took, TookPart}
use Rattle.dp_words.specs.Writing.{EndsText, EndsWriting}
use Rattle.dp_words.specs.declared.status.RunStatus.{RunStatus}
use Rattle.capability.specs.Limits.{IsWindLimit, Weather}
use Rattle.capability.specs.Reserves.{IsMargin}
use Rattle.capability.specs.declared.limit.WindLimit.{WindLimit}
use Rattle.capability_report.specs.Texts.{capability_text, limit_lines, limits_lines, margin_lines}
use Rattle.capability_report.specs.Texts.{text_so_far}
use Rattle.capability_report.specs.declared.margins.Left.{Left}
use Rattle.capability_report.specs.declared.margins.Margins.{Margins}

-- ---- what is found

-- what the loss leaves of the plant as it opens, and a demand
abbrev pub asked_after : Parts → Wrench → Loss → Question
asked_after plant demand loss = question_after plant plant.opening loss demand

-- the margins of the losses of the groups from this number on
abbrev pub EachMargin : Parts → Wrench → ℕ → List Left → Type 0
EachMargin plant demand group [] = Unit {0}
EachMargin plant demand group (left ∷ others) =
    IsMargin (asked_after plant demand (Group group)) left.margin
    × EachMargin plant demand (group + 1) others

-- the margin with nothing lost, and one for the loss of each group in turn
pub record AreMargins (plant : Parts) (demand : Wrench) (margins : Margins) : Type 0 where
  pub intact : IsMargin (asked_after plant demand Intact) margins.intact
  pub one_each : length margins.groups.items ≡ length plant.groups.items
  pub each : EachMargin plant demand 0 margins.groups.items

-- the wind from an angle of so many tens of degrees, against which the demand is held
abbrev pub weather : Parts → Wrench → ℕ → Weather
weather plant demand tens = record {
  plant = plant;
  status = plant.opening;
  base = demand;
  angle = tens * 1000;
}

-- the limits of the angles from this number of tens of degrees on
abbrev pub EachLimit : Parts → Wrench → ℕ → List WindLimit → Type 0
EachLimit plant demand tens [] = Unit {0}
EachLimit plant demand tens (limit ∷ limits) =
    IsWindLimit (weather plant demand tens) limit × EachLimit plant demand (tens + 1) limits

-- the demand can be met with nothing lost and after each loss
abbrev pub IsMet : Parts → Wrench → Type 0
IsMet plant demand =
    (loss : Loss) → IsLossOf plant loss → IsFeasible (asked_after plant demand loss)

-- there is a loss, or none at all, after which it can't
abbrev pub IsUnmet : Parts → Wrench → Type 0
IsUnmet plant demand =
    (loss : Loss) × IsLossOf plant loss × (¬ IsFeasible (asked_after plant demand loss))

-- whether the demand is unmet somewhere or met
abbrev pub IsSo : Bool → Parts → Wrench → Type 0
IsSo true plant demand = IsUnmet plant demand
IsSo false plant demand = IsMet plant demand

-- right margins, and right limits of the first angles
pub record Found (plant : Parts) (demand : Wrench) : Type 0 where
  pub margins : Margins
  pub limits : List WindLimit
  pub few : length limits ≤ WIND_ROWS
  pub are_margins : AreMargins plant demand margins
  pub are_limits : EachLimit plant demand 0 limits

-- there is a limit for each angle, and the text tells all that was found
abbrev pub TellsAll : {plant : Parts} {demand : Wrench} → Found plant demand → List ℕ → Type 0
TellsAll {plant} {demand} found text = (length found.limits ≡ WIND_ROWS)
    × (text ≡ capability_text plant demand found.margins found.limits)

-- the text tells what was found up to some angle, or all of it
abbrev pub Tells : {plant : Parts} {demand : Wrench} → Found plant demand → List ℕ → Type 0
Tells {plant} {demand} found text =
    (text ≡ text_so_far plant demand found.margins found.limits) ⊎ TellsAll found text

-- ---- what is written

-- what a call that writes a text to a sink ends with: the sink took it whole, or its beginning
pub record EndsIn {T : Type 0} (result : Result T RunStatus) (out : Shown) (text : List ℕ) : Type 0
  where
    pub whole : OnOk result (Took out text)
    pub part : OnErr result (TookPart out text)
    pub writing : EndsWriting result out

-- how much of the demand the losses leave was written
pub record WritesMargins (plant : Parts) (demand : Wrench) (result : Result (Unit {0}) RunStatus)
    (out : Shown) : Type 0 where
  pub margins : Margins
  pub are : AreMargins plant demand margins
  pub ends : EndsText result out (margin_lines plant demand margins)

-- what the wind from an angle leaves was written, and whether the demand alone is unmet or met
pub record WritesLimit (plant : Parts) (demand : Wrench) (tens : ℕ) (result : Result Bool RunStatus)
    (out : Shown) : Type 0 where
  pub limit : WindLimit
  pub is : IsWindLimit (weather plant demand tens) limit
  pub so : IfOk result (λ lost. IsSo lost plant demand)
  pub ends : EndsIn result out (limit_lines plant (tens * 1000) limit)

-- what the wind from the first angles leaves was written, or from all
pub record WritesLimits (plant : Parts) (demand : Wrench) (result : Result Bool RunStatus)
    (out : Shown) : Type 0 where
  pub limits : List WindLimit
  pub few : length limits ≤ WIND_ROWS
  pub all : OnOk result (length limits ≡ WIND_ROWS)
  pub are : EachLimit plant demand 0 limits
  pub so : IfOk result (λ lost. IsSo lost plant demand)
  pub ends : EndsIn result out (limits_lines plant 0 limits)

-- what was found was written, all of it or up to some angle
pub record WritesFound (plant : Parts) (demand : Wrench) (result : Result Bool RunStatus)
    (out : Shown) : Type 0 where
  pub found : Found plant demand
  pub text : List ℕ
  pub tells : Tells found text
  pub all : OnOk result (TellsAll found text)
  pub so : IfOk result (λ lost. IsSo lost plant demand)
  pub ends : EndsIn result out text
