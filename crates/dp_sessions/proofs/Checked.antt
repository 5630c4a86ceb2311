-- What each end of a check says.
use Rattle.std.proofs.Common.{◌≡◌, ℕ, List, [], ◌∷◌, Bool, true, false}
use Rattle.std.proofs.Common.{Ok, Result, Err, refl, sym, ◌∙◌, ap, subst}
use Rattle.std.proofs.Common.{inl, inr, codes}
use Rattle.dp_io.specs.Shown.{HasRisen, NoneFailed, Shown}
use Rattle.plant_model.specs.declared.plant.Parts.{Parts}
use Rattle.plant_model.specs.declared.wrench.Wrench.{Wrench}
use Rattle.dp_words.specs.Faults.{TellsFaults}
use Rattle.dp_words.specs.PlantSource.{IsPlantError, PlantSays}
use Rattle.dp_words.proofs.Commands.{check-other, differ, no-other}
use Rattle.dp_words.specs.Words.{form_of}
use Rattle.dp_words.specs.declared.form.Form.{Form}
use Rattle.dp_words.specs.declared.form.Form.TheVariants.{Capability, Check, Drill, Replay, Run}
use Rattle.dp_words.specs.declared.form.Form.TheVariants.{Vote}
use Rattle.dp_words.specs.declared.status.RunStatus.{RunStatus}
use Rattle.dp_words.specs.declared.status.RunStatus.TheVariants.{Clear, LossFound, NoMemory}
use Rattle.dp_words.specs.declared.status.RunStatus.TheVariants.{Usage, WriteFault}
use Rattle.dp_sessions.specs.Checks.{AsksCheck, CheckOf, EndsFindings, IsSo, TookFindings}
use Rattle.dp_sessions.specs.Checks.{TookSomeFindings, names_check}
use Rattle.dp_words.specs.Plants.{HasPlant, HasPlantCause}
use Rattle.dp_words.specs.Writing.{IsWriteError}
use Rattle.dp_sessions.proofs.Endings.{stopped-else}
use Rattle.dp_words.proofs.Faults.{all-one, tells-memory, tells-same, tells-write}
use Rattle.dp_words.proofs.Plants.{IsElse, missed-none, plant-found, plant-missed, plant-unasked}
use Rattle.dp_words.proofs.Plants.{unasked-none}

-- ---- the words

-- where words that name a check have no form, the words after the command aren't those of a check
pub check-kind : (words : List (List ℕ)) (kind : ℕ) → names_check words ≡ true
    → form_of words ≡ Err kind → kind ≡ 3
check-kind [] kind named is = absurd (cc)
check-kind (command ∷ words) kind named is = check-other command words kind named is

-- words that name a check, and whose form is none
pub other-words : (words : List (List ℕ)) (read : Result Form ℕ) → names_check words ≡ true
    → read ≡ form_of words
    → ((plant : ℕ) (demand : Wrench) (json : Bool) → read ≡ Ok (Check plant demand json) → ⊥)
    → form_of words ≡ Err 3
other-words [] read named is other = absurd (cc)
other-words (command ∷ words) (Ok (Check plant demand json)) named is other =
    absurd (other plant demand json refl)
other-words (command ∷ words) (Ok (Run plant sensors operators workers)) named is other =
    absurd (no-other command words (codes "check") (Run plant sensors operators workers) named
    (differ (codes "check") (codes "run") refl) (sym is))
other-words (command ∷ words) (Ok (Replay plant telegrams)) named is other =
    absurd (no-other command words (codes "check") (Replay plant telegrams) named
    (differ (codes "check") (codes "replay") refl) (sym is))
other-words (command ∷ words) (Ok (Vote telegrams report)) named is other =
    absurd (no-other command words (codes "check") (Vote telegrams report) named
    (differ (codes "check") (codes "vote") refl) (sym is))
other-words (command ∷ words) (Ok (Capability plant demand)) named is other =
    absurd (no-other command words (codes "check") (Capability plant demand) named
    (differ (codes "check") (codes "capability") refl) (sym is))
other-words (command ∷ words) (Ok (Drill seed size)) named is other =
    absurd (no-other command words (codes "check") (Drill seed size) named
    (differ (codes "check") (codes "drill") refl) (sym is))
other-words (command ∷ words) (Err kind) named is other =
    sym is ∙ ap Err (check-kind (command ∷ words) kind named (sym is))

-- ---- the ends

-- what the words ask for, of a plant
pub record IsAsked (words : List (List ℕ)) (word : List ℕ) (demand : Wrench) (json : Bool)
    (plant : Parts) (first : Shown) : Type 0 where
  pub asked : AsksCheck words word demand json
  pub says : PlantSays word first (Ok plant)
  pub same : NoneFailed first

abbrev named-check : (words : List (List ℕ)) (word : List ℕ) (demand : Wrench) (json : Bool)
    → AsksCheck words word demand json → HasPlant words word
named-check words word demand json asked =
    (Check asked.0 demand json, asked.1, asked.0, refl, asked.2)

abbrev check-of : {words : List (List ℕ)} {word : List ℕ} {demand : Wrench} {json : Bool} {plant : Parts}
    {first : Shown} → IsAsked words word demand json plant first → CheckOf words first
check-of {words} {word} {demand} {json} {plant} {first} is = record {
  word = word;
  demand = demand;
  json = json;
  asked = is.asked;
  plant = plant;
  says = is.says;
}

cause : {words : List (List ℕ)} {word : List ℕ} {demand : Wrench} {json : Bool} {plant : Parts}
    {first : Shown} (status : RunStatus) → IsAsked words word demand json plant first
    → IsElse status → HasPlantCause words status first
cause {words} {word} {demand} {json} {plant} {first} status is other =
    plant-found words (Check is.asked.0 demand json) status plant first is.asked.1
    (record { word = word; named = named-check words word demand json is.asked; says = is.says }) other

-- all was written, of a demand that is lost somewhere
pub ends-lost : (words : List (List ℕ)) (word : List ℕ) (demand : Wrench) (json : Bool)
    (plant : Parts) (first out : Shown) → IsAsked words word demand json plant first
    → TookFindings plant demand json out → IsSo true plant demand → NoneFailed out
    → EndsFindings words LossFound first out
ends-lost words word demand json plant first out is took so same = record {
  findings = record {
    held = λ e. absurd (cc);
    lost = λ e. record { check = check-of is; took = took; so = so };
    part = λ e. absurd (cc);
    unwritten = λ none. absurd none;
  };
  causes = record {
    plant = cause LossFound is (record { usage = λ kind e. cc; plant = λ fault e. cc });
    read_fault = λ e. absurd (cc);
    write_fault = λ e. absurd (cc);
    no_stream = λ e. cc;
    no_history = λ e. cc;
    faults = tells-same LossFound (first ∷ []) out same
        (all-one NoneFailed first is.same);
  };
  complete = λ there first_fine out_fine. inl (inr refl);
}

-- all was written, of a demand that is held
pub ends-held : (words : List (List ℕ)) (word : List ℕ) (demand : Wrench) (json : Bool)
    (plant : Parts) (first out : Shown) → IsAsked words word demand json plant first
    → TookFindings plant demand json out → IsSo false plant demand → NoneFailed out
    → EndsFindings words Clear first out
ends-held words word demand json plant first out is took so same = record {
  findings = record {
    held = λ e. record { check = check-of is; took = took; so = so };
    lost = λ e. absurd (cc);
    part = λ e. absurd (cc);
    unwritten = λ none. absurd none;
  };
  causes = record {
    plant = cause Clear is (record { usage = λ kind e. cc; plant = λ fault e. cc });
    read_fault = λ e. absurd (cc);
    write_fault = λ e. absurd (cc);
    no_stream = λ e. cc;
    no_history = λ e. cc;
    faults = tells-same Clear (first ∷ []) out same (all-one NoneFailed first is.same);
  };
  complete = λ there first_fine out_fine. inl (inl refl);
}

ends-cut : (words : List (List ℕ)) (word : List ℕ) (demand : Wrench) (json : Bool)
    (plant : Parts) (first out : Shown) → IsAsked words word demand json plant first
    → TookSomeFindings plant demand json out → HasRisen out
    → EndsFindings words WriteFault first out
ends-cut words word demand json plant first out is took failed = record {
  findings = record {
    held = λ e. absurd (cc);
    lost = λ e. absurd (cc);
    part = λ e. record { check = check-of is; took = took };
    unwritten = λ none. absurd none;
  };
  causes = record {
    plant = cause WriteFault is (stopped-else WriteFault (inl refl));
    read_fault = λ e. absurd (cc);
    write_fault = λ e. failed;
    no_stream = λ e. cc;
    no_history = λ e. cc;
    faults = tells-write (first ∷ []) out failed;
  };
  complete = λ there first_fine out_fine. absurd (out_fine failed);
}

ends-starved : (words : List (List ℕ)) (word : List ℕ) (demand : Wrench) (json : Bool)
    (plant : Parts) (first out : Shown) → IsAsked words word demand json plant first
    → out.after ≡ out.before → EndsFindings words NoMemory first out
ends-starved words word demand json plant first out is unwritten = record {
  findings = record {
    held = λ e. absurd (cc);
    lost = λ e. absurd (cc);
    part = λ e. absurd (cc);
    unwritten = λ none. unwritten;
  };
  causes = record {
    plant = cause NoMemory is (stopped-else NoMemory (inr refl));
    read_fault = λ e. absurd (cc);
    write_fault = λ e. absurd (cc);
    no_stream = λ e. cc;
    no_history = λ e. cc;
    faults = tells-memory (first ∷ []) out;
  };
  complete = λ there first_fine out_fine. inr refl;
}

-- writing was stopped
pub ends-stopped : (words : List (List ℕ)) (word : List ℕ) (demand : Wrench) (json : Bool)
    (plant : Parts) (status : RunStatus) (first out : Shown)
    → IsAsked words word demand json plant first → IsWriteError status
    → (status ≡ WriteFault → TookSomeFindings plant demand json out)
    → (status ≡ WriteFault → HasRisen out) → (status ≡ NoMemory → out.after ≡ out.before)
    → EndsFindings words status first out
ends-stopped words word demand json plant status first out is (inl fault) part failed unwritten =
    subst (λ (s : RunStatus). EndsFindings words s first out) (sym fault)
    (ends-cut words word demand json plant first out is (part fault) (failed fault))
ends-stopped words word demand json plant status first out is (inr memory) part failed unwritten =
    subst (λ (s : RunStatus). EndsFindings words s first out) (sym memory)
    (ends-starved words word demand json plant first out is (unwritten memory))

-- there is no plant, unless memory ran out
pub ends-no_plant : (words : List (List ℕ)) (word : List ℕ) (demand : Wrench) (json : Bool)
    (status : RunStatus) (first out : Shown) → AsksCheck words word demand json
    → IsPlantError word first status → out.after ≡ out.before
    → TellsFaults status (first ∷ []) out → EndsFindings words status first out
ends-no_plant words word demand json status first out asked error unwritten faults = record {
  findings = record {
    held = λ e. absurd (subst (IsPlantError word first) e error);
    lost = λ e. absurd (subst (IsPlantError word first) e error);
    part = λ e. absurd (subst (IsPlantError word first) e error);
    unwritten = λ none. unwritten;
  };
  causes = record {
    plant = plant-missed words (Check asked.0 demand json) status word first asked.1
        (named-check words word demand json asked) error;
    read_fault = λ e. subst (IsPlantError word first) e error;
    write_fault = λ e. absurd (subst (IsPlantError word first) e error);
    no_stream = λ e. subst (IsPlantError word first) e error;
    no_history = λ e. subst (IsPlantError word first) e error;
    faults = faults;
  };
  complete = λ there first_fine out_fine.
      inr (missed-none words status word first (named-check words word demand json asked) error there first_fine);
}

-- the words are faulty
pub ends-usage : (words : List (List ℕ)) (kind : ℕ) (first out : Shown)
    → form_of words ≡ Err kind → out.after ≡ out.before → NoneFailed first → NoneFailed out
    → EndsFindings words (Usage kind) first out
ends-usage words kind first out is unwritten one two = record {
  findings = record {
    held = λ e. absurd (cc);
    lost = λ e. absurd (cc);
    part = λ e. absurd (cc);
    unwritten = λ none. unwritten;
  };
  causes = record {
    plant = plant-unasked words kind first is;
    read_fault = λ e. absurd (cc);
    write_fault = λ e. absurd (cc);
    no_stream = λ e. cc;
    no_history = λ e. cc;
    faults = tells-same (Usage kind) (first ∷ []) out two (all-one NoneFailed first one);
  };
  complete = λ there first_fine out_fine. absurd (unasked-none words kind first is there);
}
