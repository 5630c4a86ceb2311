-- What each end of a vote says.
use Rattle.std.proofs.Common.{◌≡◌, ◌≢◌, ℕ, ◌<◌, ◌≤◌, List, [], ◌∷◌, Bool, true, Option, Some, None}
use Rattle.std.proofs.Common.{Result, Ok, Err, refl, sym, ◌∙◌, ap, subst, inl, arith, codes}
use Rattle.std.proofs.Common.{length}
use Rattle.std.proofs.lemmas.List.Elements.{All-cons, All-nil}
use Rattle.std.specs.List.{Any}
use Rattle.std.specs.Prelude.{All}
use Rattle.dp_io.specs.Shown.{HasRisen, NoneFailed, Shown}
use Rattle.std.specs.Option.{IfSome}
use Rattle.std.proofs.lemmas.List.{length-append}
use Rattle.dp_io.specs.Streams.{Gave}
use Rattle.plant_file.specs.declared.fault.PlantFault.{PlantFault}
use Rattle.plant_model.specs.declared.limits.TheConstants.{MOST_STREAM_BYTES}
use Rattle.dp_words.specs.Faults.{HasGreaterCount, TellsFaults}
use Rattle.dp_words.specs.Words.{form_of}
use Rattle.dp_words.specs.declared.form.Form.{Form}
use Rattle.dp_words.specs.declared.form.Form.TheVariants.{Capability, Check, Drill, Replay, Run}
use Rattle.dp_words.specs.declared.form.Form.TheVariants.{Vote}
use Rattle.dp_words.specs.declared.status.RunStatus.{RunStatus}
use Rattle.dp_words.specs.declared.status.RunStatus.TheVariants.{Clear, JournalFull, LossFound}
use Rattle.dp_words.specs.declared.status.RunStatus.TheVariants.{NoMemory, Plant, StreamTooLong}
use Rattle.dp_words.specs.declared.status.RunStatus.TheVariants.{Usage, WriteFault}
use Rattle.dp_words.proofs.Commands.{differ, no-other, vote-other}
use Rattle.sensor_vote.specs.Calls.{AsksVote, EndsVote, TellsFew, WritesPart, WritesWhole}
use Rattle.sensor_vote.specs.Calls.{WritesWholeOf, names_vote, status_of}
use Rattle.sensor_vote.specs.declared.stream.Ending.{Ending}
use Rattle.sensor_vote.specs.declared.stream.Ending.TheVariants.{End, Fault, Long}

-- ---- the words

-- words that name a vote and have another form have none, for the words after the first
pub other-words : (words : List (List ℕ)) (read : Result Form ℕ) → names_vote words ≡ true
    → read ≡ form_of words
    → ((telegrams : ℕ) (report : Bool) → read ≡ Ok (Vote telegrams report) → ⊥)
    → form_of words ≡ Err 3
other-words [] read named is other = absurd (cc)
other-words (command ∷ words) (Ok (Vote telegrams report)) named is other =
    absurd (other telegrams report refl)
other-words (command ∷ words) (Ok (Run plant sensors operators workers)) named is other =
    absurd (no-other command words (codes "vote") (Run plant sensors operators workers) named
    (differ (codes "vote") (codes "run") refl) (sym is))
other-words (command ∷ words) (Ok (Replay plant telegrams)) named is other =
    absurd (no-other command words (codes "vote") (Replay plant telegrams) named
    (differ (codes "vote") (codes "replay") refl) (sym is))
other-words (command ∷ words) (Ok (Check plant demand json)) named is other =
    absurd (no-other command words (codes "vote") (Check plant demand json) named
    (differ (codes "vote") (codes "check") refl) (sym is))
other-words (command ∷ words) (Ok (Capability plant demand)) named is other =
    absurd (no-other command words (codes "vote") (Capability plant demand) named
    (differ (codes "vote") (codes "capability") refl) (sym is))
other-words (command ∷ words) (Ok (Drill seed size)) named is other =
    absurd (no-other command words (codes "vote") (Drill seed size) named
    (differ (codes "vote") (codes "drill") refl) (sym is))
other-words (command ∷ words) (Err kind) named is other =
    sym is ∙ ap Err (vote-other command words kind named (sym is))

has-form : (words : List (List ℕ)) (report : Bool) (kind : ℕ) → AsksVote words report
    → form_of words ≡ Err kind → ⊥
has-form words report kind asked is = cc (asked.1, is)

-- ---- faults

all-one : (x : Shown) → NoneFailed x → All NoneFailed (x ∷ [])
all-one x same = All-cons NoneFailed x [] same (All-nil NoneFailed)

still : (source : Shown) → NoneFailed source → HasGreaterCount source → ⊥
still source same greater = omega (arith, same, greater)

all-still : (sources : List Shown) → All NoneFailed sources → Any HasGreaterCount sources → ⊥
all-still sources all any =
    still any.1 (subst NoneFailed any.3 (all any.0 any.1 any.2)) any.4

tells-same : (status : RunStatus) (source out : Shown) → NoneFailed source → NoneFailed out
    → TellsFaults status (source ∷ []) out
tells-same status source out read written = record {
  none = λ tells. All-cons NoneFailed out (source ∷ []) written (all-one source read);
  of_output = λ greater. absurd (still out written greater);
  of_sources = λ fine any. absurd (all-still (source ∷ []) (all-one source read) any);
}

-- ---- endings

no-usage : (ending : Ending) (kind : ℕ) → Usage kind ≡ status_of ending → ⊥
no-usage End kind e = cc
no-usage Fault kind e = cc
no-usage Long kind e = cc

no-write : (ending : Ending) → status_of ending ≡ WriteFault → ⊥
no-write End e = cc
no-write Fault e = cc
no-write Long e = cc

no-loss : (ending : Ending) → status_of ending ≢ LossFound
no-loss End e = cc
no-loss Fault e = cc
no-loss Long e = cc

no-plant : (ending : Ending) (fault : PlantFault) → status_of ending ≢ Plant fault
no-plant End fault e = cc
no-plant Fault fault e = cc
no-plant Long fault e = cc

no-history : (ending : Ending) → status_of ending ≢ JournalFull
no-history End e = cc
no-history Fault e = cc
no-history Long e = cc

no-memory : (ending : Ending) → status_of ending ≢ NoMemory
no-memory End e = cc
no-memory Fault e = cc
no-memory Long e = cc

-- the status tells the ending
same-ending : (ending other : Ending) → status_of ending ≡ status_of other → ending ≡ other
same-ending End End e = refl
same-ending End Fault e = absurd (cc)
same-ending End Long e = absurd (cc)
same-ending Fault End e = absurd (cc)
same-ending Fault Fault e = refl
same-ending Fault Long e = absurd (cc)
same-ending Long End e = absurd (cc)
same-ending Long Fault e = absurd (cc)
same-ending Long Long e = refl

ending-faults : {report : Bool} (ending : Ending) (source out : Shown)
    → WritesWhole report ending source out → TellsFaults (status_of ending) (source ∷ []) out
ending-faults End source out writes =
    tells-same Clear source out writes.read.ends.1 writes.none_failed
ending-faults Fault source out writes = record {
  none = λ tells. absurd tells;
  of_output = λ greater. absurd (still out writes.none_failed greater);
  of_sources = λ fine any. inl refl;
}
ending-faults Long source out writes =
    tells-same StreamTooLong source out writes.read.ends.1 writes.none_failed

-- a source that tells at most so many bytes gave no more
gave-few : (before after : Option (List ℕ)) (bytes : List ℕ) (most : ℕ) → Gave before after bytes
    → IfSome before (λ told. length told ≤ most) → before ≢ None → most < length bytes → ⊥
gave-few (Some told) after bytes most gave few some long =
    omega (arith, few, long, ap length gave.2, length-append bytes gave.0)
gave-few None after bytes most gave few some long = some refl

complete : {report : Bool} (ending : Ending) (source out : Shown)
    → WritesWhole report ending source out → TellsFew source → (HasRisen source → ⊥)
    → status_of ending ≡ Clear
complete End source out writes few fine = refl
complete Fault source out writes few fine = absurd (fine writes.read.ends)
complete Long source out writes few fine =
    absurd (gave-few source.before source.after writes.bytes MOST_STREAM_BYTES writes.read.given
    few.0 few.1 writes.read.ends.0)

-- ---- the ends

-- the words have no form
pub ends-usage : (words : List (List ℕ)) (kind : ℕ) (source out : Shown) → form_of words ≡ Err kind
    → NoneFailed source → NoneFailed out → out.after ≡ out.before
    → EndsVote words (Usage kind) source out
ends-usage words kind source out is read written unwritten = record {
  voted = record {
    usage = λ other. (
      (λ e. let same : kind ≡ other = cc in is ∙ ap Err same),
      (λ e. let same : kind ≡ other = cc (is, e) in ap Usage same),
    );
    whole = λ ending e. absurd (no-usage ending kind e);
    part = λ e. absurd (cc);
    no_loss = λ e. cc;
    no_plant = λ fault e. cc;
    no_history = λ e. cc;
    no_memory = λ e. cc;
    faults = tells-same (Usage kind) source out read written;
  };
  complete = λ report asked few fine_in fine_out. absurd (has-form words report kind asked is);
  unwritten = λ other e. unwritten;
}

-- all was written
pub ends-whole : (words : List (List ℕ)) (report : Bool) (ending : Ending) (source out : Shown)
    → AsksVote words report → WritesWhole report ending source out
    → EndsVote words (status_of ending) source out
ends-whole words report ending source out asked writes = record {
  voted = record {
    usage = λ kind. (
      (λ e. absurd (no-usage ending kind (sym e))),
      (λ e. absurd (has-form words report kind asked e)),
    );
    whole = λ other e. subst (λ (one : Ending). WritesWholeOf words one source out)
        (same-ending ending other e) (record { report = report; asked = asked; writes = writes });
    part = λ e. absurd (no-write ending e);
    no_loss = λ e. no-loss ending e;
    no_plant = λ fault e. no-plant ending fault e;
    no_history = λ e. no-history ending e;
    no_memory = λ e. no-memory ending e;
    faults = ending-faults ending source out writes;
  };
  complete = λ other asks few fine_in fine_out. complete ending source out writes few fine_in;
  unwritten = λ kind e. absurd (has-form words report kind asked e);
}

-- writing was stopped
pub ends-part : (words : List (List ℕ)) (report : Bool) (source out : Shown)
    → AsksVote words report → WritesPart report source out → HasRisen out
    → EndsVote words WriteFault source out
ends-part words report source out asked writes failed = record {
  voted = record {
    usage = λ kind. ((λ e. absurd (cc)), (λ e. absurd (has-form words report kind asked e)));
    whole = λ ending e. absurd (no-write ending (sym e));
    part = λ e. record { report = report; asked = asked; writes = writes; failed = failed };
    no_loss = λ e. cc;
    no_plant = λ fault e. cc;
    no_history = λ e. cc;
    no_memory = λ e. cc;
    faults = record {
      none = λ tells. absurd tells;
      of_output = λ greater. inl refl;
      of_sources = λ fine any. absurd (fine failed);
    };
  };
  complete = λ other asks few fine_in fine_out. absurd (fine_out failed);
  unwritten = λ kind e. absurd (has-form words report kind asked e);
}
