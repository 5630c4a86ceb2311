-- What a check of a demand finds, and what it writes and ends with.
use Rattle.std.specs.Prelude.{◌≡◌, ◌≢◌, ℕ, ◌+◌, List, [], ◌∷◌, ◌⊎◌, ◌↔◌, length, Bool, true}
use Rattle.std.specs.Prelude.{false, ◌||◌, Ok, if◌then◌else◌, codes, slice_index_or}
use Rattle.std.specs.List.{list_any}
use Rattle.std.specs.Str.{bytes_eq}
use Rattle.plant_model.specs.declared.plant.Parts.{Parts}
use Rattle.plant_model.specs.declared.status.Loss.{Loss}
use Rattle.plant_model.specs.declared.status.Loss.TheVariants.{Intact, Group}
use Rattle.plant_model.specs.declared.wrench.Wrench.{Wrench}
use Rattle.redundancy_groups.specs.Standing.{IsLossOf}
use Rattle.certificate.specs.Losses.{question_after}
use Rattle.certificate.specs.Outcomes.{IsFeasible, IsValid, Question}
use Rattle.certificate.specs.declared.outcome.Outcome.{Outcome}
use Rattle.certificate.specs.declared.outcome.Outcome.TheVariants.{Holds, Lost}
use Rattle.feasibility.specs.Lowest.{AreLowest, IsLowest}
use Rattle.feasibility.specs.Reached.{IsHolds, IsLost}
use Rattle.plant_core.specs.Allocations.{IsRight}
use Rattle.log_text.specs.Json.{check_json}
use Rattle.log_text.specs.Outcomes.{check_text}
use Rattle.log_text.specs.declared.findings.Findings.{Findings}
use Rattle.dp_words.specs.PlantSource.{PlantSays}
use Rattle.dp_io.specs.Shown.{HasRisen, Shown, Took, TookPart}
use Rattle.dp_words.specs.Faults.{TellsFaults}
use Rattle.dp_words.specs.Statuses.{IsTold}
use Rattle.dp_words.specs.Words.{form_of}
use Rattle.dp_words.specs.declared.form.Form.TheVariants.{Check}
use Rattle.dp_words.specs.declared.status.RunStatus.{RunStatus}
use Rattle.dp_words.specs.declared.status.RunStatus.TheVariants as statuses
use Rattle.dp_words.specs.Plants.{HasAPlant, HasPlantCause, NamesNoFile}
use Rattle.dp_sessions.specs.Sessions.{IsUntouched, Passed}

-- ---- findings

-- whether what the loss leaves of the plant, as it opens, meets the demand
abbrev pub asked_after : Parts → Wrench → Loss → Question
asked_after plant demand loss = question_after plant plant.opening loss demand

-- The outcome is valid and in lowest terms, a Holds exactly where the demand can be met, and a Lost
-- exactly where it can't.
pub record IsVerdict (question : Question) (outcome : Outcome) : Type 0 where
  pub valid : IsValid question outcome
  pub lowest : IsLowest outcome
  pub holds : IsHolds outcome ↔ IsFeasible question
  pub lost : IsLost outcome ↔ (¬ IsFeasible question)

-- this holds of the losses of the groups from this number on, with the outcomes in turn
abbrev pub EachGroup : (Loss → Outcome → Type 0) → ℕ → List Outcome → Type 0
EachGroup R number [] = Unit {0}
EachGroup R number (outcome ∷ outcomes) =
    R (Group number) outcome × EachGroup R (number + 1) outcomes

-- a verdict for the loss of each group in turn
pub record AreVerdicts (plant : Parts) (demand : Wrench) (outcomes : List Outcome) : Type 0 where
  pub one_each : length outcomes ≡ length plant.groups.items
  pub each : EachGroup (λ loss. IsVerdict (asked_after plant demand loss)) 0 outcomes

-- A verdict for the plant with no loss and for the loss of each group in turn, and the greatest
-- part of the demand that can be given.
pub record AreRight (plant : Parts) (demand : Wrench) (findings : Findings) : Type 0 where
  pub intact : IsVerdict (asked_after plant demand Intact) findings.intact
  pub groups : AreVerdicts plant demand findings.groups.items
  pub allocation : IsRight (asked_after plant demand Intact) findings.allocation
  pub lowest : AreLowest findings.allocation.q findings.allocation.thrusts.list.items

-- the demand can be met as the plant opens, and after each loss
abbrev pub IsHeld : Parts → Wrench → Type 0
IsHeld plant demand =
    (loss : Loss) → IsLossOf plant loss → IsFeasible (asked_after plant demand loss)

-- there is a loss, or none at all, after which it can't
abbrev pub IsLostSomewhere : Parts → Wrench → Type 0
IsLostSomewhere plant demand =
    (loss : Loss) × IsLossOf plant loss × (¬ IsFeasible (asked_after plant demand loss))

abbrev pub is_lost : Outcome → Bool
is_lost (Holds choice q thrusts) = false
is_lost (Lost cuts) = true

-- whether some outcome is a Lost
abbrev pub has_lost : Findings → Bool
has_lost findings = is_lost findings.intact || list_any is_lost findings.groups.items

-- whether the demand is lost somewhere or held
abbrev pub IsSo : Bool → Parts → Wrench → Type 0
IsSo true plant demand = IsLostSomewhere plant demand
IsSo false plant demand = IsHeld plant demand

-- ---- what is written

-- the first word names the command
abbrev pub names_check : List (List ℕ) → Bool
names_check [] = false
names_check (command ∷ words) = bytes_eq command (codes "check")

-- the words ask for a check of this demand on the plant of this word, as JSON or not
abbrev pub AsksCheck : List (List ℕ) → List ℕ → Wrench → Bool → Type 0
AsksCheck words word demand json = (plant : ℕ)
    × (form_of words ≡ Ok (Check plant demand json)) × (word ≡ slice_index_or words plant [])

-- a check that the words ask for, of the plant that they and the plant source say
pub record CheckOf (words : List (List ℕ)) (first : Shown) : Type 0 where
  pub word : List ℕ
  pub demand : Wrench
  pub json : Bool
  pub asked : AsksCheck words word demand json
  pub plant : Parts
  pub says : PlantSays word first (Ok plant)

abbrev pub findings_text : Parts → Wrench → Bool → Findings → List ℕ
findings_text plant demand json findings =
    if json then check_json plant demand findings else check_text plant demand findings

-- the text tells findings that are right
pub record TellsFindings (plant : Parts) (demand : Wrench) (json : Bool) (text : List ℕ) : Type 0
  where
    pub findings : Findings
    pub right : AreRight plant demand findings
    pub is : text ≡ findings_text plant demand json findings

-- the sink took such a text
abbrev pub TookFindings : Parts → Wrench → Bool → Shown → Type 0
TookFindings plant demand json out =
    (text : List ℕ) × TellsFindings plant demand json text × Took out text

-- the sink took the beginning of such a text
abbrev pub TookSomeFindings : Parts → Wrench → Bool → Shown → Type 0
TookSomeFindings plant demand json out =
    (text : List ℕ) × TellsFindings plant demand json text × TookPart out text

-- the text of a check's findings was written, of a demand that is lost somewhere or held
pub record WritesFindings (words : List (List ℕ)) (lost : Bool) (first out : Shown) : Type 0 where
  pub check : CheckOf words first
  pub took : TookFindings check.plant check.demand check.json out
  pub so : IsSo lost check.plant check.demand

-- the beginning of such a text was written
pub record WritesSomeFindings (words : List (List ℕ)) (first out : Shown) : Type 0 where
  pub check : CheckOf words first
  pub took : TookSomeFindings check.plant check.demand check.json out

-- at these statuses nothing was written
abbrev pub IsUnwritten : RunStatus → Type 0
IsUnwritten (statuses.Usage kind) = Unit {0}
IsUnwritten (statuses.Plant fault) = Unit {0}
IsUnwritten statuses.ReadFault = Unit {0}
IsUnwritten statuses.NoMemory = Unit {0}
IsUnwritten _ = ⊥

-- What the bytes written say at each status.
pub record HasFindings (words : List (List ℕ)) (status : RunStatus) (first out : Shown) : Type 0
  where
    pub held : status ≡ statuses.Clear → WritesFindings words false first out
    pub lost : status ≡ statuses.LossFound → WritesFindings words true first out
    pub part : status ≡ statuses.WriteFault → WritesSomeFindings words first out
    pub unwritten : IsUnwritten status → out.after ≡ out.before

-- When each status comes. A check has no stream and no history.
pub record HasCheckCause (words : List (List ℕ)) (status : RunStatus) (first out : Shown) : Type 0
  where
    pub plant : HasPlantCause words status first
    pub read_fault : status ≡ statuses.ReadFault → HasRisen first
    pub write_fault : status ≡ statuses.WriteFault → HasRisen out
    pub no_stream : status ≢ statuses.StreamTooLong
    pub no_history : status ≢ statuses.JournalFull
    pub faults : TellsFaults status (first ∷ []) out

-- A plant and counts of faults that don't rise give Clear or LossFound, unless memory runs out.
abbrev pub IsCheckComplete : List (List ℕ) → RunStatus → Shown → Shown → Type 0
IsCheckComplete words status first out =
    HasAPlant words first → ¬ HasRisen first → ¬ HasRisen out
    → ((status ≡ statuses.Clear) ⊎ (status ≡ statuses.LossFound)) ⊎ (status ≡ statuses.NoMemory)

-- How a check ends with this status, of the plant source and a sink that showed this.
pub record EndsFindings (words : List (List ℕ)) (status : RunStatus) (first out : Shown) : Type 0
  where
    pub findings : HasFindings words status first out
    pub causes : HasCheckCause words status first out
    pub complete : IsCheckComplete words status first out

-- How a call of the program ends that checks: as above, with the line told, and the plant source as
-- it was where no word names it.
pub record EndsCheck {S : Type 0} (words : List (List ℕ)) (status : RunStatus) (plant : Passed S)
    (out err : Shown) : Type 0 where
  pub findings : EndsFindings words status plant.shown out
  pub told : IsTold status err
  pub unread : NamesNoFile words → IsUntouched plant
