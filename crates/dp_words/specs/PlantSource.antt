-- The plant that a word and a source of a plant file's bytes describe.
use Rattle.std.specs.Prelude.{◌≡◌, ◌≢◌, ℕ, ◌<◌, List, ◌⊎◌, length, Result, Ok, Err, IfOk, IfErr}
use Rattle.std.specs.Prelude.{codes}
use Rattle.dp_io.specs.Streams.{Gave}
use Rattle.plant_model.specs.Demo.{demo_parts}
use Rattle.plant_model.specs.declared.limits.TheConstants.{MOST_PLANT_BYTES}
use Rattle.plant_model.specs.declared.plant.Parts.{Parts}
use Rattle.plant_file.specs.PlantText.{plant_of}
use Rattle.plant_file.specs.declared.fault.PlantFault.{PlantFault}
use Rattle.dp_io.specs.Shown.{HasRisen, IsEmptied, NoneFailed, Shown}
use Rattle.dp_words.specs.declared.status.RunStatus.{RunStatus}
use Rattle.dp_words.specs.declared.status.RunStatus.TheVariants.{Plant, ReadFault, NoMemory}

-- The bytes are those that the source gave in the call: all that it had, or more than a plant file
-- has. No read failed.
pub record AreFileBytes (source : Shown) (bytes : List ℕ) : Type 0 where
  pub given : Gave source.before source.after bytes
  pub whole : IsEmptied source ⊎ (MOST_PLANT_BYTES < length bytes)
  pub no_fault : NoneFailed source

-- what the source gave is described so
pub record FileSays (source : Shown) (answer : Result Parts PlantFault) : Type 0 where
  pub bytes : List ℕ
  pub file : AreFileBytes source bytes
  pub is : plant_of bytes ≡ answer

-- the built-in plant, or what the file says
abbrev pub PlantSays : List ℕ → Shown → Result Parts PlantFault → Type 0
PlantSays word source answer =
    ((word ≡ codes "demo") × (answer ≡ Ok demo_parts))
    ⊎ ((word ≢ codes "demo") × FileSays source answer)

-- why there is no plant: the source failed, the file has a fault, or memory ran out
abbrev pub IsPlantError : List ℕ → Shown → RunStatus → Type 0
IsPlantError word source ReadFault = HasRisen source
IsPlantError word source (Plant fault) = PlantSays word source (Err fault)
IsPlantError word source NoMemory = Unit {0}
IsPlantError word source _ = ⊥

-- the plant, or why there is none; a read failed only where that is the answer
pub record FindsPlant (word : List ℕ) (source : Shown) (result : Result Parts RunStatus) : Type
    0 where
  pub found : IfOk result (λ plant. PlantSays word source (Ok plant))
  pub error : IfErr result (IsPlantError word source)
  pub none_failed : (result ≡ Err ReadFault) ⊎ (source.faults_after ≡ source.faults_before)
