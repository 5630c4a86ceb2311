-- What each end of a capability says.
use Rattle.std.proofs.Common.{◌≡◌, ◌≢◌, ℕ, ◌<◌, ◌⊎◌, List, [], ◌∷◌, length, Bool, true, false}
use Rattle.std.proofs.Common.{Ok, Err, refl, sym, subst, inl, inr, codes}
use Rattle.dp_io.specs.Shown.{IsEmptied, NoneFailed, Shown}
use Rattle.plant_model.specs.declared.limits.TheConstants.{MOST_PLANT_BYTES}
use Rattle.plant_model.specs.declared.plant.Parts.{Parts}
use Rattle.plant_model.specs.declared.wrench.Wrench.{Wrench}
use Rattle.plant_file.specs.PlantText.{plant_of}
use Rattle.plant_file.specs.declared.fault.PlantFault.TheVariants.{TooLong}
use Rattle.dp_words.specs.Faults.{TellsFaults}
use Rattle.dp_words.specs.PlantSource.{IsPlantError, PlantSays}
use Rattle.dp_words.specs.Plants.{HasPlant, HasPlantCause}
use Rattle.dp_words.specs.Words.{form_of}
use Rattle.dp_words.specs.Writing.{IsWriteError}
use Rattle.dp_words.specs.declared.form.Form.TheVariants.{Capability}
use Rattle.dp_words.specs.declared.status.RunStatus.{RunStatus}
use Rattle.dp_words.specs.declared.status.RunStatus.TheVariants.{Clear, LossFound, NoMemory}
use Rattle.dp_words.specs.declared.status.RunStatus.TheVariants.{Usage, WriteFault}
use Rattle.dp_words.proofs.Faults.{all-one, tells-memory, tells-same, tells-write}
use Rattle.dp_words.proofs.Plants.{IsElse, missed-none, plant-found, plant-missed, plant-unasked}
use Rattle.dp_words.proofs.Plants.{too_long, unasked-none}
use Rattle.capability_report.specs.Calls.{Asked, AsksCapability, EndsCapability, WritesPart}
use Rattle.capability_report.specs.Calls.{WritesWhole}
use Rattle.capability_report.specs.Found.{WritesFound}

-- what the words ask for, of a plant
pub record IsAsked (words : List (List ℕ)) (word : List ℕ) (demand : Wrench) (plant : Parts)
    (first : Shown) : Type 0 where
  pub asked : AsksCapability words word demand
  pub says : PlantSays word first (Ok plant)
  pub same : NoneFailed first

abbrev named-capability : (words : List (List ℕ)) (word : List ℕ) (demand : Wrench)
    → AsksCapability words word demand → HasPlant words word
named-capability words word demand asked =
    (Capability asked.0 demand, asked.1, asked.0, refl, asked.2)

abbrev asked-of : {words : List (List ℕ)} {word : List ℕ} {demand : Wrench} {plant : Parts}
    {first : Shown} → IsAsked words word demand plant first → Asked words first
asked-of {words} {word} {demand} {plant} {first} is = record {
  word = word;
  demand = demand;
  asked = is.asked;
  plant = plant;
  says = is.says;
}

cause : {words : List (List ℕ)} {word : List ℕ} {demand : Wrench} {plant : Parts} {first : Shown}
    (status : RunStatus) → IsAsked words word demand plant first → IsElse status
    → HasPlantCause words status first
cause {words} {word} {demand} {plant} {first} status is other =
    plant-found words (Capability is.asked.0 demand) status plant first is.asked.1 (record {
      word = word;
      named = named-capability words word demand is.asked;
      says = is.says;
    }) other

-- ---- a plant file that was read to its end

whole-file : (bytes : List ℕ) (plant : Parts) (source : Shown)
    → IsEmptied source ⊎ (MOST_PLANT_BYTES < length bytes) → plant_of bytes ≡ Ok plant
    → IsEmptied source
whole-file bytes plant source (inl emptied) is = emptied
whole-file bytes plant source (inr long) is =
    let fault : plant_of bytes ≡ Err TooLong = too_long bytes long in
    absurd (cc)

emptied : (word : List ℕ) (first : Shown) (plant : Parts) → PlantSays word first (Ok plant)
    → word ≢ codes "demo" → IsEmptied first
emptied word first plant (inl demo) other = absurd (other demo.0)
emptied word first plant (inr file) other =
    let says = file.1 in
    whole-file says.bytes plant first says.file.whole says.is

-- ---- the ends

abbrev whole : {words : List (List ℕ)} {word : List ℕ} {demand : Wrench} {plant : Parts}
    {first : Shown} (lost : Bool) (out : Shown) → IsAsked words word demand plant first
    → WritesFound plant demand (Ok lost) out → WritesWhole words lost first out
whole {words} {word} {demand} {plant} {first} lost out is writes = record {
  asked = asked-of is;
  found = writes.found;
  text = writes.text;
  tells = writes.all;
  took = writes.ends.whole;
  so = writes.so;
  read = emptied word first plant is.says;
}

abbrev part : {words : List (List ℕ)} {word : List ℕ} {demand : Wrench} {plant : Parts}
    {first : Shown} (status : RunStatus) (out : Shown) → IsAsked words word demand plant first
    → WritesFound plant demand (Err status) out → WritesPart words first out
part {words} {word} {demand} {plant} {first} status out is writes = record {
  asked = asked-of is;
  found = writes.found;
  text = writes.text;
  tells = writes.tells;
  took = writes.ends.part;
}

-- all was written, of a demand that is unmet somewhere
pub ends-lost : (words : List (List ℕ)) (word : List ℕ) (demand : Wrench) (plant : Parts)
    (first out : Shown) → IsAsked words word demand plant first
    → WritesFound plant demand (Ok true) out
    → EndsCapability words LossFound first out
ends-lost words word demand plant first out is writes = record {
  capability = record {
    held = λ e. absurd (cc);
    lost = λ e. whole true out is writes;
    part = λ e. absurd (cc);
    cut = λ e. absurd (cc);
    unwritten = λ none. absurd none;
  };
  causes = record {
    plant = cause LossFound is (record { usage = λ kind e. cc; plant = λ fault e. cc });
    read_fault = λ e. absurd (cc);
    write_fault = λ e. absurd (cc);
    no_stream = λ e. cc;
    no_history = λ e. cc;
    faults = tells-same LossFound (first ∷ []) out writes.ends.writing.no_fault
        (all-one NoneFailed first is.same);
  };
  complete = λ there first_fine out_fine. inl (inr refl);
}

-- all was written, of a demand that is met
pub ends-held : (words : List (List ℕ)) (word : List ℕ) (demand : Wrench) (plant : Parts)
    (first out : Shown) → IsAsked words word demand plant first
    → WritesFound plant demand (Ok false) out
    → EndsCapability words Clear first out
ends-held words word demand plant first out is writes = record {
  capability = record {
    held = λ e. whole false out is writes;
    lost = λ e. absurd (cc);
    part = λ e. absurd (cc);
    cut = λ e. absurd (cc);
    unwritten = λ none. absurd none;
  };
  causes = record {
    plant = cause Clear is (record { usage = λ kind e. cc; plant = λ fault e. cc });
    read_fault = λ e. absurd (cc);
    write_fault = λ e. absurd (cc);
    no_stream = λ e. cc;
    no_history = λ e. cc;
    faults = tells-same Clear (first ∷ []) out writes.ends.writing.no_fault
        (all-one NoneFailed first is.same);
  };
  complete = λ there first_fine out_fine. inl (inl refl);
}

ends-cut : (words : List (List ℕ)) (word : List ℕ) (demand : Wrench) (plant : Parts)
    (first out : Shown) → IsAsked words word demand plant first → WritesFound plant demand (Err WriteFault) out
    → EndsCapability words WriteFault first out
ends-cut words word demand plant first out is writes = record {
  capability = record {
    held = λ e. absurd (cc);
    lost = λ e. absurd (cc);
    part = λ e. part WriteFault out is writes;
    cut = λ e. absurd (cc);
    unwritten = λ none. absurd none;
  };
  causes = record {
    plant = cause WriteFault is (record { usage = λ kind e. cc; plant = λ fault e. cc });
    read_fault = λ e. absurd (cc);
    write_fault = λ e. writes.ends.writing.failed refl;
    no_stream = λ e. cc;
    no_history = λ e. cc;
    faults = tells-write (first ∷ []) out (writes.ends.writing.failed refl);
  };
  complete = λ there first_fine out_fine. absurd (out_fine (writes.ends.writing.failed refl));
}

ends-starved : (words : List (List ℕ)) (word : List ℕ) (demand : Wrench) (plant : Parts)
    (first out : Shown) → IsAsked words word demand plant first
    → WritesFound plant demand (Err NoMemory) out → EndsCapability words NoMemory first out
ends-starved words word demand plant first out is writes = record {
  capability = record {
    held = λ e. absurd (cc);
    lost = λ e. absurd (cc);
    part = λ e. absurd (cc);
    cut = λ e. inl (part NoMemory out is writes);
    unwritten = λ none. absurd none;
  };
  causes = record {
    plant = cause NoMemory is (record { usage = λ kind e. cc; plant = λ fault e. cc });
    read_fault = λ e. absurd (cc);
    write_fault = λ e. absurd (cc);
    no_stream = λ e. cc;
    no_history = λ e. cc;
    faults = tells-memory (first ∷ []) out;
  };
  complete = λ there first_fine out_fine. inr refl;
}

-- writing was stopped
stopped : (words : List (List ℕ)) (word : List ℕ) (demand : Wrench) (plant : Parts)
    (status : RunStatus) (first out : Shown) → IsAsked words word demand plant first
    → WritesFound plant demand (Err status) out → IsWriteError status
    → EndsCapability words status first out
stopped words word demand plant status first out is writes (inl fault) =
    subst (λ (s : RunStatus). EndsCapability words s first out) (sym fault)
    (ends-cut words word demand plant first out is
    (subst (λ (s : RunStatus). WritesFound plant demand (Err s) out) fault writes))
stopped words word demand plant status first out is writes (inr memory) =
    subst (λ (s : RunStatus). EndsCapability words s first out) (sym memory)
    (ends-starved words word demand plant first out is
    (subst (λ (s : RunStatus). WritesFound plant demand (Err s) out) memory writes))

pub ends-stopped : (words : List (List ℕ)) (word : List ℕ) (demand : Wrench) (plant : Parts)
    (status : RunStatus) (first out : Shown) → IsAsked words word demand plant first
    → WritesFound plant demand (Err status) out → EndsCapability words status first out
ends-stopped words word demand plant status first out is writes =
    stopped words word demand plant status first out is writes writes.ends.writing.errors

-- there is no plant, unless memory ran out
pub ends-no_plant : (words : List (List ℕ)) (word : List ℕ) (demand : Wrench) (status : RunStatus)
    (first out : Shown) → AsksCapability words word demand → IsPlantError word first status
    → out.after ≡ out.before → TellsFaults status (first ∷ []) out
    → EndsCapability words status first out
ends-no_plant words word demand status first out asked error unwritten faults = record {
  capability = record {
    held = λ e. absurd (subst (IsPlantError word first) e error);
    lost = λ e. absurd (subst (IsPlantError word first) e error);
    part = λ e. absurd (subst (IsPlantError word first) e error);
    cut = λ e. inr unwritten;
    unwritten = λ none. unwritten;
  };
  causes = record {
    plant = plant-missed words (Capability asked.0 demand) status word first asked.1
        (named-capability words word demand asked) error;
    read_fault = λ e. subst (IsPlantError word first) e error;
    write_fault = λ e. absurd (subst (IsPlantError word first) e error);
    no_stream = λ e. subst (IsPlantError word first) e error;
    no_history = λ e. subst (IsPlantError word first) e error;
    faults = faults;
  };
  complete = λ there first_fine out_fine.
      inr (missed-none words status word first (named-capability words word demand asked) error
      there first_fine);
}

-- the words are faulty
pub ends-usage : (words : List (List ℕ)) (kind : ℕ) (first out : Shown)
    → form_of words ≡ Err kind → out.after ≡ out.before → NoneFailed first → NoneFailed out
    → EndsCapability words (Usage kind) first out
ends-usage words kind first out is unwritten one two = record {
  capability = record {
    held = λ e. absurd (cc);
    lost = λ e. absurd (cc);
    part = λ e. absurd (cc);
    cut = λ e. absurd (cc);
    unwritten = λ none. unwritten;
  };
  causes = record {
    plant = plant-unasked words kind first is;
    read_fault = λ e. absurd (cc);
    write_fault = λ e. absurd (cc);
    no_stream = λ e. cc;
    no_history = λ e. cc;
    faults = tells-same (Usage kind) (first ∷ []) out two (all-one NoneFailed first one);
  };
  complete = λ there first_fine out_fine. absurd (unasked-none words kind first is there);
}
