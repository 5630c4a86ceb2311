-- What a capability that the words ask for writes, and what it ends with.
use Rattle.std.specs.Prelude.{◌≡◌, ◌≢◌, ℕ, List, [], ◌∷◌, ◌⊎◌, Bool, true, false, Ok, codes}
use Rattle.std.specs.Prelude.{slice_index_or}
use Rattle.std.specs.Str.{bytes_eq}
use Rattle.plant_model.specs.declared.plant.Parts.{Parts}
use Rattle.plant_model.specs.declared.wrench.Wrench.{Wrench}
use Rattle.dp_io.specs.Shown.{HasRisen, IsEmptied, Shown, Took, TookPart}
use Rattle.dp_words.specs.Faults.{TellsFaults}
use Rattle.dp_words.specs.PlantSource.{PlantSays}
use Rattle.dp_words.specs.Plants.{HasAPlant, HasPlantCause, NamesNoFile}
use Rattle.dp_words.specs.Statuses.{IsTold}
use Rattle.dp_words.specs.Words.{form_of}
use Rattle.dp_words.specs.declared.form.Form.TheVariants.{Capability}
use Rattle.dp_words.specs.declared.status.RunStatus.{RunStatus}
use Rattle.dp_words.specs.declared.status.RunStatus.TheVariants as statuses
use Rattle.capability_report.specs.Found.{Found, IsSo, Tells, TellsAll}

-- the first word names the command
abbrev pub names_capability : List (List ℕ) → Bool
names_capability [] = false
names_capability (command ∷ words) = bytes_eq command (codes "capability")

-- the words ask for the capability of the plant of this word, for this demand
abbrev pub AsksCapability : List (List ℕ) → List ℕ → Wrench → Type 0
AsksCapability words word demand = (plant : ℕ)
    × (form_of words ≡ Ok (Capability plant demand)) × (word ≡ slice_index_or words plant [])

-- what the words ask for, of the plant that they and the plant source say
pub record Asked (words : List (List ℕ)) (first : Shown) : Type 0 where
  pub word : List ℕ
  pub demand : Wrench
  pub asked : AsksCapability words word demand
  pub plant : Parts
  pub says : PlantSays word first (Ok plant)

-- all that was found was written, of a demand that is unmet somewhere or met, and a file that the
-- words name as the plant was read to its end
pub record WritesWhole (words : List (List ℕ)) (lost : Bool) (first out : Shown) : Type 0 where
  pub asked : Asked words first
  pub found : Found asked.plant asked.demand
  pub text : List ℕ
  pub tells : TellsAll found text
  pub took : Took out text
  pub so : IsSo lost asked.plant asked.demand
  pub read : asked.word ≢ codes "demo" → IsEmptied first

-- the beginning of such a text was written, which tells no more than what was found
pub record WritesPart (words : List (List ℕ)) (first out : Shown) : Type 0 where
  pub asked : Asked words first
  pub found : Found asked.plant asked.demand
  pub text : List ℕ
  pub tells : Tells found text
  pub took : TookPart out text

-- at these statuses nothing was written
abbrev pub IsUnwritten : RunStatus → Type 0
IsUnwritten (statuses.Usage kind) = Unit {0}
IsUnwritten (statuses.Plant fault) = Unit {0}
IsUnwritten statuses.ReadFault = Unit {0}
IsUnwritten _ = ⊥

-- what the bytes written say at each status
pub record HasCapability (words : List (List ℕ)) (status : RunStatus) (first out : Shown) : Type 0
  where
    pub held : status ≡ statuses.Clear → WritesWhole words false first out
    pub lost : status ≡ statuses.LossFound → WritesWhole words true first out
    pub part : status ≡ statuses.WriteFault → WritesPart words first out
    -- memory may run out before there is a plant
    pub cut : status ≡ statuses.NoMemory
        → WritesPart words first out ⊎ (out.after ≡ out.before)
    pub unwritten : IsUnwritten status → out.after ≡ out.before

-- when each status comes; there is no stream and no history
pub record HasCause (words : List (List ℕ)) (status : RunStatus) (first out : Shown) : Type 0
  where
    pub plant : HasPlantCause words status first
    pub read_fault : status ≡ statuses.ReadFault → HasRisen first
    pub write_fault : status ≡ statuses.WriteFault → HasRisen out
    pub no_stream : status ≢ statuses.StreamTooLong
    pub no_history : status ≢ statuses.JournalFull
    pub faults : TellsFaults status (first ∷ []) out

-- a plant and counts of faults that don't rise give Clear or LossFound, unless memory runs out
abbrev pub IsComplete : List (List ℕ) → RunStatus → Shown → Shown → Type 0
IsComplete words status first out =
    HasAPlant words first → ¬ HasRisen first → ¬ HasRisen out
    → ((status ≡ statuses.Clear) ⊎ (status ≡ statuses.LossFound)) ⊎ (status ≡ statuses.NoMemory)

-- how a capability ends with this status, of the plant source and a sink that showed this
pub record EndsCapability (words : List (List ℕ)) (status : RunStatus) (first out : Shown) : Type
    0 where
  pub capability : HasCapability words status first out
  pub causes : HasCause words status first out
  pub complete : IsComplete words status first out

-- How a call of the program ends that writes a capability: as above, with the line told, and the
-- plant source, of this value before and after it, as it was where no word names it.
pub record EndsCapabilityCall {A : Type 0} (words : List (List ℕ)) (status : RunStatus)
    (source_before source_after : A) (first out err : Shown) : Type 0 where
  pub ends : EndsCapability words status first out
  pub told : IsTold status err
  pub unread : NamesNoFile words → source_after ≡ source_before
