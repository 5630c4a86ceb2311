-- What the statuses of a session's ending and of a failed one say, and those of faulty words, of
-- however many streams.
use Rattle.std.proofs.Common.{◌≡◌, ◌≢◌, ℕ, zero, suc, ◌+◌, ◌<◌, ◌≤◌, ◌⊎◌, List, [], ◌∷◌, ◌++◌}
use Rattle.std.proofs.Common.{length, Option, Some, Bool, true, false, slice_index_or}
use Rattle.std.proofs.Common.{Ok, Err, refl, sym, ◌∙◌, ap, subst, inl, inr, arith}
use Rattle.std.specs.Prelude.{All}
use Rattle.std.specs.List.{Any}
use Rattle.std.specs.Option.{IfSome}
use Rattle.std.proofs.lemmas.List.{append-nil, length-append}
use Rattle.std.proofs.lemmas.List.Elements.{All-cons}
use Rattle.dp_io.specs.Shown.{HasRisen, IsEmptied, NoneFailed, Shown}
use Rattle.dp_io.specs.Streams.{Gave}
use Rattle.frame.specs.Frames.{items, items_end}
use Rattle.plant_model.specs.declared.plant.Parts.{Parts}
use Rattle.plant_core.specs.declared.call.Entry.{Entry}
use Rattle.plant_file.specs.declared.fault.PlantFault.{PlantFault}
use Rattle.dp_words.specs.Faults.{TellsFaults}
use Rattle.dp_words.specs.PlantSource.{IsPlantError, PlantSays}
use Rattle.dp_words.specs.Words.{form_of}
use Rattle.dp_words.specs.declared.form.Form.{Form}
use Rattle.dp_words.specs.declared.status.RunStatus.{RunStatus}
use Rattle.dp_words.specs.declared.status.RunStatus.TheVariants.{Clear, Usage, Plant, WriteFault}
use Rattle.dp_words.specs.declared.status.RunStatus.TheVariants.{LossFound, NoMemory, ReadFault}
use Rattle.dp_words.specs.Plants.{HasPlant, WordsSay}
use Rattle.dp_sessions.specs.Sessions.{EndsSession, GaveItems, GaveTooMany, GaveTooManyItems}
use Rattle.dp_sessions.specs.Sessions.{HasCause, HasHistory, IsComplete, IsUnbegun, MayEnd}
use Rattle.dp_sessions.specs.Sessions.{StandsForStream, Streams, TellFew, TellsItems, Together}
use Rattle.dp_sessions.specs.Sessions.{WritesBegun, WritesPart, WritesWhole, status_of}
use Rattle.dp_sessions.specs.Steps.{GaveManyItems}
use Rattle.dp_words.specs.Writing.{IsWriteError}
use Rattle.dp_sessions.specs.declared.session.Ending.{Ending}
use Rattle.dp_sessions.specs.declared.session.Ending.TheVariants.{End, Fault, Long, Full, Write}
use Rattle.dp_words.proofs.Faults.{all-one, any-one, tells-memory, tells-same, tells-write}
use Rattle.dp_sessions.proofs.Faults.{tells-ended}
use Rattle.dp_sessions.proofs.Fronts.{items-longer}
use Rattle.dp_words.proofs.Plants.{IsElse, missed-none, plant-found, plant-missed, plant-unasked}
use Rattle.dp_words.proofs.Plants.{unasked-none}

-- the statuses of two endings differ where they do
status_of-injective : (a b : Ending) (lost other : Bool) → status_of a lost ≡ status_of b other
    → a ≡ b
status_of-injective End End lost other e = refl
status_of-injective Fault Fault lost other e = refl
status_of-injective Long Long lost other e = refl
status_of-injective Full Full lost other e = refl
status_of-injective Write Write lost other e = refl
status_of-injective End Fault true other e = cc
status_of-injective End Fault false other e = cc
status_of-injective End Long true other e = cc
status_of-injective End Long false other e = cc
status_of-injective End Full true other e = cc
status_of-injective End Full false other e = cc
status_of-injective End Write true other e = cc
status_of-injective End Write false other e = cc
status_of-injective Fault End lost true e = cc
status_of-injective Fault End lost false e = cc
status_of-injective Long End lost true e = cc
status_of-injective Long End lost false e = cc
status_of-injective Full End lost true e = cc
status_of-injective Full End lost false e = cc
status_of-injective Write End lost true e = cc
status_of-injective Write End lost false e = cc
status_of-injective Fault Long lost other e = cc
status_of-injective Fault Full lost other e = cc
status_of-injective Fault Write lost other e = cc
status_of-injective Long Fault lost other e = cc
status_of-injective Long Full lost other e = cc
status_of-injective Long Write lost other e = cc
status_of-injective Full Fault lost other e = cc
status_of-injective Full Long lost other e = cc
status_of-injective Full Write lost other e = cc
status_of-injective Write Fault lost other e = cc
status_of-injective Write Long lost other e = cc
status_of-injective Write Full lost other e = cc

not-write_fault : (ending : Ending) (lost : Bool) → ending ≢ Write
    → status_of ending lost ≡ WriteFault → ⊥
not-write_fault End true other e = cc
not-write_fault End false other e = cc
not-write_fault Fault lost other e = cc
not-write_fault Long lost other e = cc
not-write_fault Full lost other e = cc
not-write_fault Write lost other e = other refl

not-no_memory : (ending : Ending) (lost : Bool) → status_of ending lost ≡ NoMemory → ⊥
not-no_memory End true e = cc
not-no_memory End false e = cc
not-no_memory Fault lost e = cc
not-no_memory Long lost e = cc
not-no_memory Full lost e = cc
not-no_memory Write lost e = cc

not-usage : (ending : Ending) (lost : Bool) (kind : ℕ) → status_of ending lost ≡ Usage kind → ⊥
not-usage End true kind e = cc
not-usage End false kind e = cc
not-usage Fault lost kind e = cc
not-usage Long lost kind e = cc
not-usage Full lost kind e = cc
not-usage Write lost kind e = cc

not-plant : (ending : Ending) (lost : Bool) (fault : PlantFault)
    → status_of ending lost ≡ Plant fault → ⊥
not-plant End true fault e = cc
not-plant End false fault e = cc
not-plant Fault lost fault e = cc
not-plant Long lost fault e = cc
not-plant Full lost fault e = cc
not-plant Write lost fault e = cc

-- what sources show of the gravest ending of their streams, which isn't that of a write fault
pub record ShowEnding (ending : Ending) (sources : List Shown) : Type 0 where
  pub emptied : ending ≡ End → All IsEmptied sources
  pub failed : ending ≡ Fault → Any HasRisen sources
  pub long : ending ≡ Long → Any GaveTooMany sources
  pub full : ending ≡ Full → GaveTooManyItems sources
  pub no_fault : ending ≢ Fault → All NoneFailed sources

-- the source of one stream does
pub shows-ending : (plant : Parts) (ending : Ending) (source out : Shown) (history : List Entry)
    → StandsForStream plant source out ending history → (ending ≡ Full → GaveManyItems source)
    → ShowEnding ending (source ∷ [])
shows-ending plant ending source out history stands full =
    let ends : (other : Ending) → ending ≡ other
    → MayEnd source out stands.bytes history other = λ other e.
    subst (λ (x : Ending). MayEnd source out stands.bytes history x) e stands.ends in
    record {
      emptied = λ e. all-one IsEmptied source (ends End e);
      failed = λ e. any-one HasRisen source (ends Fault e);
      long = λ e. any-one GaveTooMany source (stands.bytes, stands.given, ends Long e);
      full = λ e.
          let many = full e in (many.0, (many.0, 0, omega arith, many.1, refl), many.2);
      no_fault = λ other. all-one NoneFailed source (stands.no_fault other);
    }

-- ---- what was written

-- all was written
pub history-ended : (words : List (List ℕ)) (status : RunStatus) (ending : Ending) (lost : Bool)
    (plant : Parts) (first : Shown) (streams : Streams) (out : Shown)
    → WordsSay words first (Ok plant) → status ≡ status_of ending lost → ending ≢ Write
    → WritesWhole plant ending status streams out → HasHistory words status streams first out
history-ended words status ending lost plant first streams out says is no_write whole = record {
  whole = λ other differs e. inl (record {
    plant = plant;
    says = says;
    writes = subst (λ (x : Ending). WritesWhole plant x status streams out)
        (status_of-injective ending other lost e.0 (sym is ∙ e.1)) whole;
  });
  part = λ e. absurd (not-write_fault ending lost no_write (sym is ∙ e));
  begun = λ e. absurd (not-no_memory ending lost (sym is ∙ e));
  usage = λ kind e. absurd (not-usage ending lost kind (sym is ∙ e));
  plant = λ fault e. absurd (not-plant ending lost fault (sym is ∙ e));
}

stopped-whole : (status : RunStatus) (ending : Ending) (lost : Bool) → ending ≢ Write
    → IsWriteError status → status ≡ status_of ending lost → ⊥
stopped-whole status ending lost no_write error e =
    elim error [
      | inl fault ↦ not-write_fault ending lost no_write (sym e ∙ fault)
      | inr memory ↦ not-no_memory ending lost (sym e ∙ memory)
    ]

stopped-usage : (status : RunStatus) (kind : ℕ) → IsWriteError status → status ≡ Usage kind → ⊥
stopped-usage status kind error e = elim error [ inl fault ↦ cc | inr memory ↦ cc ]

stopped-plant : (status : RunStatus) (plant : PlantFault) → IsWriteError status
    → status ≡ Plant plant → ⊥
stopped-plant status plant error e = elim error [ inl fault ↦ cc | inr memory ↦ cc ]

-- writing was stopped
pub history-stopped : (words : List (List ℕ)) (status : RunStatus) (plant : Parts) (first : Shown)
    (streams : Streams) (out : Shown) → WordsSay words first (Ok plant) → IsWriteError status
    → (status ≡ WriteFault → WritesPart plant streams out)
    → (status ≡ NoMemory → (out.after ≡ out.before) ⊎ WritesBegun plant streams out)
    → HasHistory words status streams first out
history-stopped words status plant first streams out says error part begun = record {
  whole = λ ending differs e. absurd (stopped-whole status ending e.0 differs error e.1);
  part = λ e. record { plant = plant; says = says; writes = part e };
  begun = λ e. elim (begun e) [
    | inl unwritten ↦ inl unwritten
    | inr some ↦ inr (record { plant = plant; says = says; writes = some })
  ];
  usage = λ kind e. absurd (stopped-usage status kind error e);
  plant = λ fault e. absurd (stopped-plant status fault error e);
}

-- there was no plant, and nothing was written
pub history-no_plant : (words : List (List ℕ)) (status : RunStatus) (word : List ℕ) (first : Shown)
    (streams : Streams) (out : Shown) → IsPlantError word first status → IsUnbegun streams out
    → HasHistory words status streams first out
history-no_plant words ReadFault word first streams out failed unbegun = record {
  whole = λ ending differs e. inr (record {
    is_fault = status_of-injective ending Fault e.0 false (sym e.1);
    failed = failed;
    unbegun = unbegun;
  });
  part = λ e. absurd (cc);
  begun = λ e. absurd (cc);
  usage = λ kind e. unbegun;
  plant = λ fault e. unbegun;
}
history-no_plant words (Plant fault) word first streams out says unbegun = record {
  whole = λ ending differs e. absurd (not-plant ending e.0 fault (sym e.1));
  part = λ e. absurd (cc);
  begun = λ e. absurd (cc);
  usage = λ kind e. unbegun;
  plant = λ other e. unbegun;
}
history-no_plant words NoMemory word first streams out ran unbegun = record {
  whole = λ ending differs e. absurd (not-no_memory ending e.0 (sym e.1));
  part = λ e. absurd (cc);
  begun = λ e. inl unbegun.unwritten;
  usage = λ kind e. unbegun;
  plant = λ fault e. unbegun;
}
history-no_plant words status word first streams out none unbegun = absurd none

-- faulty words, and nothing was written
pub history-usage : (words : List (List ℕ)) (kind : ℕ) (first : Shown) (streams : Streams)
    (out : Shown) → IsUnbegun streams out → HasHistory words (Usage kind) streams first out
history-usage words kind first streams out unbegun = record {
  whole = λ ending differs e. absurd (not-usage ending e.0 kind (sym e.1));
  part = λ e. absurd (cc);
  begun = λ e. absurd (cc);
  usage = λ other e. unbegun;
  plant = λ fault e. unbegun;
}

-- ---- sources that told few bytes and items didn't give more

told-bytes : (source : Shown) (own : ℕ) (bytes : List ℕ) (tells : TellsItems source own)
    → Gave source.before source.after bytes
    → Gave (Some tells.bytes) source.after bytes
told-bytes source own bytes tells gave =
    subst (λ (b : Option (List ℕ)). Gave b source.after bytes) tells.told gave

gave-short : (source : Shown) (own : ℕ) → TellsItems source own → GaveTooMany source → ⊥
gave-short source own tells many =
    let gave = told-bytes source own many.0 tells many.1 in
    omega (arith, ap length gave.2, length-append many.0 gave.0, tells.few, many.2)

-- it gave at most as many items as it told
gave-few : (source : Shown) (own count : ℕ) → TellsItems source own → GaveItems source count
    → count ≤ own
gave-few source own count tells items_are =
    let bytes = items_are.0 in
    let gave = told-bytes source own bytes tells items_are.1 in
    elim items_are.2 [
      | inl lines ↦ omega (
        arith,
        lines,
        tells.count_is,
        ap (λ (t : List ℕ). length (items_end t)) gave.2,
        items-longer bytes gave.0,
      )
      | inr all ↦
          let none : gave.0 ≡ [] = subst (λ (a : Option (List ℕ)). IfSome a (λ left. left ≡ []))
          gave.1 all.1 in
          let same : tells.bytes ≡ bytes =
          gave.2 ∙ ap (λ (rest : List ℕ). bytes ++ rest) none ∙ append-nil bytes in
          omega (arith, all.0, tells.count_is, ap (λ (t : List ℕ). length (items_end t)) same)
    ]

none-long : (sources : List Shown) (told k : ℕ) (source : Shown) → Together TellsItems sources told
    → k < length sources → slice_index_or sources k source ≡ source → GaveTooMany source → ⊥
none-long [] told k source few within is many = absurd (omega (arith, within))
none-long (first ∷ rest) told zero source few within is many =
    gave-short first few.0 few.3 (subst GaveTooMany (sym is) many)
none-long (first ∷ rest) told (suc k) source few within is many =
    none-long rest few.1 k source few.4 (omega (arith, within)) is many

few-together : (sources : List Shown) (told gave : ℕ) → Together TellsItems sources told
    → Together GaveItems sources gave → gave ≤ told
few-together [] told gave few many = omega (arith, few, many)
few-together (source ∷ sources) told gave few many = omega (
  arith,
  gave-few source few.0 many.0 few.3 many.3,
  few-together sources few.1 many.1 few.4 many.4,
  few.2,
  many.2,
)

few-short : (sources : List Shown) → TellFew sources → Any GaveTooMany sources → ⊥
few-short sources few any = none-long sources few.0 any.0 any.1 few.1 any.2 any.3 any.4

few-items : (sources : List Shown) → TellFew sources → GaveTooManyItems sources → ⊥
few-items sources few many =
    omega (arith, few-together sources few.0 many.0 few.1 many.1, few.2, many.2)

complete-end : (lost : Bool)
    → (status_of End lost ≡ Clear) ⊎ (status_of End lost ≡ LossFound)
complete-end true = inr refl
complete-end false = inl refl

complete-by : (ending : Ending) (lost : Bool) (sources : List Shown) → ending ≢ Write
    → ShowEnding ending sources → TellFew sources → (Any HasRisen sources → ⊥)
    → (status_of ending lost ≡ Clear) ⊎ (status_of ending lost ≡ LossFound)
complete-by End lost sources no_write shows few fine = complete-end lost
complete-by Fault lost sources no_write shows few fine = absurd (fine (shows.failed refl))
complete-by Long lost sources no_write shows few fine =
    absurd (few-short sources few (shows.long refl))
complete-by Full lost sources no_write shows few fine =
    absurd (few-items sources few (shows.full refl))
complete-by Write lost sources no_write shows few fine = absurd (no_write refl)

-- a session that ended, ended clear or with a loss found where nothing failed
pub complete-ended : (words : List (List ℕ)) (status : RunStatus) (ending : Ending) (lost : Bool)
    (first : Shown) (streams : Streams) (out : Shown) → status ≡ status_of ending lost
    → ending ≢ Write → ShowEnding ending streams.shown → IsComplete words status streams first out
complete-ended words status ending lost first streams out is no_write shows =
    λ there first_fine few sources_fine out_fine.
    inl (subst (λ (s : RunStatus). (s ≡ Clear) ⊎ (s ≡ LossFound)) (sym is)
    (complete-by ending lost streams.shown no_write shows few sources_fine))

-- one that was stopped had no memory, where nothing failed
pub complete-stopped : (words : List (List ℕ)) (status : RunStatus) (first : Shown)
    (streams : Streams) (out : Shown) → IsWriteError status → (status ≡ WriteFault → HasRisen out)
    → IsComplete words status streams first out
complete-stopped words status first streams out (inl fault) failed =
    λ there first_fine few sources_fine out_fine. absurd (out_fine (failed fault))
complete-stopped words status first streams out (inr memory) failed =
    λ there first_fine few sources_fine out_fine. inr memory

-- ---- when the statuses come

-- an ending tells of neither the words nor the plant
ended-else : (ending : Ending) (lost : Bool) (status : RunStatus) → status ≡ status_of ending lost
    → IsElse status
ended-else ending lost status is = record {
  usage = λ kind e. not-usage ending lost kind (sym is ∙ e);
  plant = λ fault e. not-plant ending lost fault (sym is ∙ e);
}

-- nor does what can go wrong in writing
pub stopped-else : (status : RunStatus) → IsWriteError status → IsElse status
stopped-else status error = record {
  usage = λ kind e. stopped-usage status kind error e;
  plant = λ fault e. stopped-plant status fault error e;
}

-- writing was stopped: a fault of the output is told
pub tells-stopped : (status : RunStatus) (sources : List Shown) (out : Shown)
    → IsWriteError status → (status ≡ WriteFault → HasRisen out)
    → TellsFaults status sources out
tells-stopped status sources out (inl fault) failed =
    subst (λ (s : RunStatus). TellsFaults s sources out) (sym fault)
    (tells-write sources out (failed fault))
tells-stopped status sources out (inr memory) failed =
    subst (λ (s : RunStatus). TellsFaults s sources out) (sym memory) (tells-memory sources out)

-- when the status of an ending comes
pub cause-ended : (words : List (List ℕ)) (form : Form) (status : RunStatus) (ending : Ending)
    (lost : Bool) (plant : Parts) (first : Shown) (streams : Streams) (out : Shown)
    → form_of words ≡ Ok form → WordsSay words first (Ok plant) → status ≡ status_of ending lost
    → ending ≢ Write → ShowEnding ending streams.shown
    → TellsFaults status (first ∷ streams.shown) out → HasCause words status streams first out
cause-ended words form status ending lost plant first streams out is_form says is no_write shows
    faults = record {
      plant = plant-found words form status plant first is_form says
          (ended-else ending lost status is);
      read_fault = λ e.
          inr (shows.failed (status_of-injective ending Fault lost false (sym is ∙ e)));
      write_fault = λ e. absurd (not-write_fault ending lost no_write (sym is ∙ e));
      too_long = λ e. shows.long (status_of-injective ending Long lost false (sym is ∙ e));
      journal_full = λ e. shows.full (status_of-injective ending Full lost false (sym is ∙ e));
      clear = λ e. shows.emptied (status_of-injective ending End lost false (sym is ∙ e));
      loss_found = λ e. shows.emptied (status_of-injective ending End lost true (sym is ∙ e));
      faults = faults;
    }

-- when a session was stopped in writing
pub cause-stopped : (words : List (List ℕ)) (form : Form) (status : RunStatus) (plant : Parts)
    (first : Shown) (streams : Streams) (out : Shown) → form_of words ≡ Ok form
    → WordsSay words first (Ok plant) → IsWriteError status → (status ≡ WriteFault → HasRisen out)
    → HasCause words status streams first out
cause-stopped words form status plant first streams out is_form says error failed = record {
  plant = plant-found words form status plant first is_form says (stopped-else status error);
  read_fault = λ e. absurd (stopped-whole status Fault false (λ f. cc) error e);
  write_fault = failed;
  too_long = λ e. absurd (stopped-whole status Long false (λ f. cc) error e);
  journal_full = λ e. absurd (stopped-whole status Full false (λ f. cc) error e);
  clear = λ e. absurd (stopped-whole status End false (λ f. cc) error e);
  loss_found = λ e. absurd (stopped-whole status End true (λ f. cc) error e);
  faults = tells-stopped status (first ∷ streams.shown) out error failed;
}

-- when there is no plant
pub cause-no_plant : (words : List (List ℕ)) (form : Form) (status : RunStatus) (word : List ℕ)
    (first : Shown) (streams : Streams) (out : Shown) → form_of words ≡ Ok form
    → HasPlant words word → IsPlantError word first status
    → TellsFaults status (first ∷ streams.shown) out → HasCause words status streams first out
cause-no_plant words form status word first streams out is_form named error faults = record {
  plant = plant-missed words form status word first is_form named error;
  read_fault = λ e. inl (subst (IsPlantError word first) e error);
  write_fault = λ e. absurd (subst (IsPlantError word first) e error);
  too_long = λ e. absurd (subst (IsPlantError word first) e error);
  journal_full = λ e. absurd (subst (IsPlantError word first) e error);
  clear = λ e. absurd (subst (IsPlantError word first) e error);
  loss_found = λ e. absurd (subst (IsPlantError word first) e error);
  faults = faults;
}

-- when the words are faulty
pub cause-usage : (words : List (List ℕ)) (kind : ℕ) (first : Shown) (streams : Streams)
    (out : Shown) → form_of words ≡ Err kind
    → TellsFaults (Usage kind) (first ∷ streams.shown) out
    → HasCause words (Usage kind) streams first out
cause-usage words kind first streams out is faults = record {
  plant = plant-unasked words kind first is;
  read_fault = λ e. absurd (cc);
  write_fault = λ e. absurd (cc);
  too_long = λ e. absurd (cc);
  journal_full = λ e. absurd (cc);
  clear = λ e. absurd (cc);
  loss_found = λ e. absurd (cc);
  faults = faults;
}

-- ---- a session of faulty words, and one without a plant

-- faulty words name no plant, and nothing was read or written
pub session-usage : (words : List (List ℕ)) (kind : ℕ) (first : Shown) (streams : Streams)
    (out : Shown) → form_of words ≡ Err kind → IsUnbegun streams out → NoneFailed first
    → All NoneFailed streams.shown → NoneFailed out
    → EndsSession words (Usage kind) streams first out
session-usage words kind first streams out is unbegun plant sources written = record {
  history = history-usage words kind first streams out unbegun;
  causes = cause-usage words kind first streams out is
      (tells-same (Usage kind) (first ∷ streams.shown) out written
      (All-cons NoneFailed first streams.shown plant sources));
  complete = λ there first_fine few sources_fine out_fine.
      absurd (unasked-none words kind first is there);
}

-- there is a plant, unless memory ran out
pub session-no_plant : (words : List (List ℕ)) (status : RunStatus) (word : List ℕ) (first : Shown)
    (streams : Streams) (out : Shown) → HasPlant words word → IsPlantError word first status
    → IsUnbegun streams out → TellsFaults status (first ∷ streams.shown) out
    → EndsSession words status streams first out
session-no_plant words status word first streams out named error unbegun faults = record {
  history = history-no_plant words status word first streams out error unbegun;
  causes = cause-no_plant words named.0 status word first streams out named.1 named error faults;
  complete = λ there first_fine few sources_fine out_fine.
      inr (missed-none words status word first named error there first_fine);
}

-- ---- one that was begun

pub session-ended : (words : List (List ℕ)) (word : List ℕ) (status : RunStatus) (ending : Ending)
    (lost : Bool) (plant : Parts) (first : Shown) (streams : Streams) (out : Shown)
    → HasPlant words word → PlantSays word first (Ok plant) → status ≡ status_of ending lost
    → ending ≢ Write → WritesWhole plant ending (status_of ending lost) streams out
    → ShowEnding ending streams.shown → NoneFailed first → NoneFailed out
    → EndsSession words status streams first out
session-ended words word status ending lost plant first streams out named says is no_write whole
    shows one written =
    let words_say : WordsSay words first (Ok plant) =
    record { word = word; named = named; says = says } in
    let all : WritesWhole plant ending status streams out =
    subst (λ (s : RunStatus). WritesWhole plant ending s streams out) (sym is) whole in
    let faults : TellsFaults status (first ∷ streams.shown) out =
    subst (λ (s : RunStatus). TellsFaults s (first ∷ streams.shown) out) (sym is)
    (tells-ended ending lost first streams.shown out no_write one written shows.no_fault) in
    record {
      history = history-ended words status ending lost plant first streams out words_say is
          no_write all;
      causes = cause-ended words named.0 status ending lost plant first streams out named.1
          words_say is no_write shows faults;
      complete = complete-ended words status ending lost first streams out is no_write shows;
    }

pub session-stopped : (words : List (List ℕ)) (word : List ℕ) (status : RunStatus) (plant : Parts)
    (first : Shown) (streams : Streams) (out : Shown) → HasPlant words word
    → PlantSays word first (Ok plant) → IsWriteError status
    → (status ≡ WriteFault → WritesPart plant streams out)
    → (status ≡ NoMemory → (out.after ≡ out.before) ⊎ WritesBegun plant streams out)
    → (status ≡ WriteFault → HasRisen out)
    → EndsSession words status streams first out
session-stopped words word status plant first streams out named says error part begun failed =
    let words_say : WordsSay words first (Ok plant) =
    record { word = word; named = named; says = says } in
    record {
      history = history-stopped words status plant first streams out words_say error part begun;
      causes = cause-stopped words named.0 status plant first streams out named.1 words_say error
          failed;
      complete = complete-stopped words status first streams out error failed;
    }
