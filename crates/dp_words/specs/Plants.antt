-- What the words and the plant source say of the plant, and when the statuses that tell of them come.
use Rattle.std.specs.Prelude.{◌≡◌, ◌≢◌, ℕ, List, [], Some, Result, Ok, Err, ◌⊎◌, ◌↔◌, codes}
use Rattle.std.specs.Prelude.{slice_index_or}
use Rattle.plant_model.specs.declared.plant.Parts.{Parts}
use Rattle.plant_file.specs.PlantText.{plant_of}
use Rattle.plant_file.specs.declared.fault.PlantFault.{PlantFault}
use Rattle.dp_words.specs.PlantSource.{PlantSays}
use Rattle.dp_io.specs.Shown.{HasRisen, Shown}
use Rattle.dp_words.specs.Words.{form_of, plant_place}
use Rattle.dp_words.specs.declared.form.Form.{Form}
use Rattle.dp_words.specs.declared.status.RunStatus.{RunStatus}
use Rattle.dp_words.specs.declared.status.RunStatus.TheVariants as statuses

-- the words have a written form, with this word as the plant
abbrev pub HasPlant : List (List ℕ) → List ℕ → Type 0
HasPlant words word = (form : Form) × (form_of words ≡ Ok form) × (place : ℕ)
    × (plant_place form ≡ Some place) × (word ≡ slice_index_or words place [])

-- what the plant's word among the words, and the plant source, say of the plant
pub record WordsSay (words : List (List ℕ)) (first : Shown) (answer : Result Parts PlantFault)
    : Type 0 where
  pub word : List ℕ
  pub named : HasPlant words word
  pub says : PlantSays word first answer

-- the words name a file as the plant, and the plant source, which tells its bytes, says this of it
pub record FileTells (words : List (List ℕ)) (first : Shown) (answer : Result Parts PlantFault)
    : Type 0 where
  pub word : List ℕ
  pub named : HasPlant words word
  pub other : word ≢ codes "demo"
  pub bytes : List ℕ
  pub told : first.before ≡ Some bytes
  pub is : plant_of bytes ≡ answer

-- the words name the built-in plant, or a file that the plant source tells and that describes a
-- plant
abbrev pub HasAPlant : List (List ℕ) → Shown → Type 0
HasAPlant words first =
    HasPlant words (codes "demo") ⊎ ((plant : Parts) × FileTells words first (Ok plant))

-- no word names a file as the plant
abbrev pub NamesNoFile : List (List ℕ) → Type 0
NamesNoFile words = (word : List ℕ) → HasPlant words word → word ≡ codes "demo"

-- When the statuses that tell of the words and of the plant come.
pub record HasPlantCause (words : List (List ℕ)) (status : RunStatus) (first : Shown) : Type 0 where
  -- exactly where the words have no written form, with what is wrong with them
  pub usage : (kind : ℕ) → (status ≡ statuses.Usage kind) ↔ (form_of words ≡ Err kind)
  -- only where they have one whose plant is a file, and the file has this fault
  pub plant : (fault : PlantFault) → status ≡ statuses.Plant fault
      → WordsSay words first (Err fault)
  -- and always there, where the plant source tells its bytes and doesn't fail, unless memory runs
  -- out
  pub plant_told : (fault : PlantFault) → FileTells words first (Err fault) → ¬ HasRisen first
      → (status ≡ statuses.Plant fault) ⊎ (status ≡ statuses.NoMemory)
