-- What the words and the plant source say of the plant, and when the statuses that tell of them come.
use Rattle.std.proofs.Common.{◌≡◌, ◌≢◌, ℕ, ◌<◌, ◌⊎◌, List, [], ◌++◌, length, Option}
use Rattle.std.proofs.Common.{Some, Result, Ok, Err, refl, sym, ◌∙◌, ap, subst, inl, inr}
use Rattle.std.proofs.Common.{codes, get_or, slice_index_or, arith}
use Rattle.std.specs.Prelude.{map}
use Rattle.std.specs.Option.{IfSome}
use Rattle.std.proofs.lemmas.Bool.{lt-ltb}
use Rattle.std.proofs.lemmas.List.{append-nil, get_or-map, length-append}
use Rattle.dp_io.specs.Streams.{Gave}
use Rattle.plant_model.specs.declared.limits.TheConstants.{MOST_PLANT_BYTES}
use Rattle.plant_model.specs.declared.plant.Parts.{Parts}
use Rattle.plant_file.specs.declared.fault.PlantFault.{PlantFault}
use Rattle.plant_file.specs.declared.fault.PlantFault.TheVariants.{TooLong}
use Rattle.plant_file.specs.PlantText.{plant_of}
use Rattle.dp_words.specs.PlantSource.{IsPlantError, PlantSays}
use Rattle.dp_io.specs.Shown.{HasRisen, Shown}
use Rattle.dp_words.specs.Words.{form_of, plant_place}
use Rattle.dp_words.specs.declared.form.Form.{Form}
use Rattle.dp_words.specs.declared.status.RunStatus.{RunStatus}
use Rattle.dp_words.specs.declared.status.RunStatus.TheVariants.{NoMemory, Plant, ReadFault, Usage}
use Rattle.dp_words.specs.Plants.{FileTells, HasAPlant, HasPlant, HasPlantCause, WordsSay}

-- words of the form name one plant
one-word : (words : List (List ℕ)) (a b : List ℕ) → HasPlant words a → HasPlant words b → a ≡ b
one-word words a b first second =
    let same : first.0 ≡ second.0 = cc (first.1, second.1) in
    let places : first.2 ≡ second.2 = cc (first.3, second.3, ap plant_place same) in
    first.4 ∙ ap (λ (place : ℕ). slice_index_or words place []) places ∙ sym second.4

has-form : (words : List (List ℕ)) (form : Form) (kind : ℕ) → form_of words ≡ Ok form
    → form_of words ≡ Err kind → ⊥
has-form words form kind is e = cc

-- ---- what a plant file says

-- a file of too many bytes says no more than that
pub too_long : (bytes : List ℕ) → MOST_PLANT_BYTES < length bytes → plant_of bytes ≡ Err TooLong
too_long bytes long = rw (lt-ltb MOST_PLANT_BYTES (length bytes) long) refl

all-or-front : (before after : Option (List ℕ)) (given bytes : List ℕ) → Gave before after given
    → before ≡ Some bytes
    → IfSome after (λ left. left ≡ []) ⊎ (MOST_PLANT_BYTES < length given)
    → plant_of given ≡ plant_of bytes
all-or-front before after given bytes gave told whole =
    let from : Gave (Some bytes) after given =
    subst (λ (b : Option (List ℕ)). Gave b after given) told gave in
    elim whole [
      | inl emptied ↦
          let none : from.0 ≡ [] = subst (λ (a : Option (List ℕ)). IfSome a (λ left. left ≡ []))
          from.1 emptied in
          ap plant_of (sym (from.2 ∙ ap (λ (rest : List ℕ). given ++ rest) none
          ∙ append-nil given))
      | inr long ↦
          let longer : MOST_PLANT_BYTES < length bytes =
          omega (arith, long, ap length from.2, length-append given from.0) in
          too_long given long ∙ sym (too_long bytes longer)
    ]

-- what the plant source gave says what all that it told says
says-one : (word : List ℕ) (first : Shown) (bytes : List ℕ) (a b : Result Parts PlantFault)
    → PlantSays word first a → word ≢ codes "demo" → first.before ≡ Some bytes
    → plant_of bytes ≡ b → a ≡ b
says-one word first bytes a b (inl demo) other told is = absurd (other demo.0)
says-one word first bytes a b (inr file) other told is =
    let says = file.1 in
    sym says.is
    ∙ all-or-front first.before first.after says.bytes bytes says.file.given told says.file.whole
    ∙ is

pub told-one : (words : List (List ℕ)) (first : Shown) (a b : Result Parts PlantFault)
    → WordsSay words first a → FileTells words first b → a ≡ b
told-one words first a b says tells =
    let same = one-word words says.word tells.word says.named tells.named in
    says-one tells.word first tells.bytes a b
    (subst (λ (word : List ℕ). PlantSays word first a) same says.says) tells.other tells.told
    tells.is

demo-says : (word : List ℕ) (first : Shown) (fault : PlantFault) → PlantSays word first (Err fault)
    → word ≡ codes "demo" → ⊥
demo-says word first fault (inl demo) is = cc (demo.1)
demo-says word first fault (inr file) is = file.0 is

-- there is a plant where there is one, by whatever says so
no-fault : (words : List (List ℕ)) (first : Shown) (fault : PlantFault)
    → WordsSay words first (Err fault) → HasAPlant words first → ⊥
no-fault words first fault says (inl demo) =
    demo-says says.word first fault says.says (one-word words says.word (codes "demo") says.named
    demo)
no-fault words first fault says (inr file) =
    let same : ◌≡◌ {A = Result Parts PlantFault} (Err fault) (Ok file.0) =
    told-one words first (Err fault) (Ok file.0) says file.1 in
    cc (same)

-- ---- when the statuses come

-- no file faulty where a plant was found
fault-told : (words : List (List ℕ)) (first : Shown) (plant : Parts) (fault : PlantFault)
    → WordsSay words first (Ok plant) → FileTells words first (Err fault) → ⊥
fault-told words first plant fault says tells =
    let same : ◌≡◌ {A = Result Parts PlantFault} (Ok plant) (Err fault) =
    told-one words first (Ok plant) (Err fault) says tells in
    cc (same)

-- a status that tells of neither the words nor the plant
pub record IsElse (status : RunStatus) : Type 0 where
  pub usage : (kind : ℕ) → status ≡ Usage kind → ⊥
  pub plant : (fault : PlantFault) → status ≡ Plant fault → ⊥

-- a plant was found
pub plant-found : (words : List (List ℕ)) (form : Form) (status : RunStatus) (plant : Parts)
    (first : Shown) → form_of words ≡ Ok form → WordsSay words first (Ok plant) → IsElse status
    → HasPlantCause words status first
plant-found words form status plant first is_form says other = record {
  usage = λ kind. (
    (λ e. absurd (other.usage kind e)),
    (λ e. absurd (has-form words form kind is_form e)),
  );
  plant = λ fault e. absurd (other.plant fault e);
  plant_told = λ fault tells fine. absurd (fault-told words first plant fault says tells);
}

-- there is no plant
pub plant-missed : (words : List (List ℕ)) (form : Form) (status : RunStatus) (word : List ℕ)
    (first : Shown) → form_of words ≡ Ok form → HasPlant words word
    → IsPlantError word first status → HasPlantCause words status first
plant-missed words form ReadFault word first is_form named failed = record {
  usage = λ kind. ((λ e. absurd (cc)), (λ e. absurd (has-form words form kind is_form e)));
  plant = λ fault e. absurd (cc);
  plant_told = λ fault tells fine. absurd (fine failed);
}
plant-missed words form (Plant fault) word first is_form named says =
    let words_say : WordsSay words first (Err fault) =
    record { word = word; named = named; says = says } in
    record {
      usage = λ kind. ((λ e. absurd (cc)), (λ e. absurd (has-form words form kind is_form e)));
      plant = λ other e. let same : fault ≡ other = cc in
          subst (λ (f : PlantFault). WordsSay words first (Err f)) same words_say;
      plant_told = λ other tells fine.
          let same : ◌≡◌ {A = Result Parts PlantFault} (Err fault) (Err other) =
          told-one words first (Err fault) (Err other) words_say tells in
          let is : fault ≡ other = cc (same) in
          inl (ap Plant is);
    }
plant-missed words form NoMemory word first is_form named ran = record {
  usage = λ kind. ((λ e. absurd (cc)), (λ e. absurd (has-form words form kind is_form e)));
  plant = λ fault e. absurd (cc);
  plant_told = λ fault tells fine. inr refl;
}
plant-missed words form status word first is_form named none = absurd none

-- the words are faulty
pub plant-unasked : (words : List (List ℕ)) (kind : ℕ) (first : Shown) → form_of words ≡ Err kind
    → HasPlantCause words (Usage kind) first
plant-unasked words kind first is = record {
  usage = λ other. (
    (λ e. let same : kind ≡ other = cc in is ∙ ap Err same),
    (λ e. let same : kind ≡ other = cc (is, e) in ap Usage same),
  );
  plant = λ fault e. absurd (cc);
  plant_told = λ fault tells fine.
      absurd (has-form words tells.named.0 kind tells.named.1 is);
}

-- ---- where there is a plant

-- faulty words name none
pub unasked-none : (words : List (List ℕ)) (kind : ℕ) (first : Shown) → form_of words ≡ Err kind
    → HasAPlant words first → ⊥
unasked-none words kind first is (inl demo) = has-form words demo.0 kind demo.1 is
unasked-none words kind first is (inr file) =
    has-form words file.1.named.0 kind file.1.named.1 is

-- it is found, unless memory ran out
pub missed-none : (words : List (List ℕ)) (status : RunStatus) (word : List ℕ) (first : Shown)
    → HasPlant words word → IsPlantError word first status → HasAPlant words first
    → (HasRisen first → ⊥) → status ≡ NoMemory
missed-none words ReadFault word first named failed there fine = absurd (fine failed)
missed-none words (Plant fault) word first named says there fine =
    absurd (no-fault words first fault (record { word = word; named = named; says = says }) there)
missed-none words NoMemory word first named ran there fine = refl
missed-none words status word first named none there fine = absurd none

-- ---- the plant's word

-- a word, as it was taken from the words
pub word-at : {A : Type 0} (f : A → List ℕ) (xs : List A) (x : A) (word : List ℕ) (place : ℕ)
    → place < length xs → x ≡ get_or xs place x → word ≡ f x
    → word ≡ slice_index_or (map f xs) place []
word-at f xs x word place within at_x spelled =
    spelled ∙ ap f at_x ∙ sym (get_or-map f xs place x [] within)

-- the plant's word
pub named-at : {A : Type 0} (f : A → List ℕ) (xs : List A) (x : A) (form : Form) (word : List ℕ)
    (place : ℕ) → form_of (map f xs) ≡ Ok form → plant_place form ≡ Some place → place < length xs
    → x ≡ get_or xs place x → word ≡ f x → HasPlant (map f xs) word
named-at f xs x form word place is_form at_place within at_x spelled = (
  form,
  is_form,
  place,
  at_place,
  word-at f xs x word place within at_x spelled,
)
