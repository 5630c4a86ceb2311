-- What the program does with words of each form.
use Rattle.std.proofs.Common.{◌≡◌, ℕ, List, [], ◌∷◌, Bool, true, false, Ok, Err, refl, sym, subst}
use Rattle.std.proofs.Common.{◌∙◌, ap, codes}
use Rattle.std.proofs.lemmas.Slice.Eq.{bytes_eq-Decides}
use Rattle.std.specs.Str.{bytes_eq}
use Rattle.dp_io.specs.Shown.{NoneFailed, Shown}
use Rattle.plant_model.specs.declared.wrench.Wrench.{Wrench}
use Rattle.dp_words.specs.Words.{form_of}
use Rattle.dp_words.specs.declared.form.Form.TheVariants as forms
use Rattle.dp_words.specs.declared.status.RunStatus.{RunStatus}
use Rattle.dp_words.specs.declared.status.RunStatus.TheVariants.{Usage}
use Rattle.dp_words.proofs.Commands.{differ, names-it, no-other}
use Rattle.sensor_vote.specs.Calls.{names_vote}
use Rattle.capability_report.specs.Calls.{names_capability}
use Rattle.drill_session.specs.Calls.{names_drill}
use Rattle.dp_sessions.specs.Checks.{EndsFindings, names_check}
use Rattle.dp_words.specs.Plants.{NamesNoFile}
use Rattle.dp_sessions.specs.Sessions.{EndsSession, IsUntouched, Passed, recorded}
use Rattle.dp_sessions.proofs.Checked.{ends-usage}
use Rattle.dp_sessions.proofs.Endings.{session-usage}
use Rattle.dp_words.proofs.Faults.{all-one, all-two}
use Rattle.watch_session.specs.Threads.{watched}
use Rattle.dp_program.specs.Runs.{EndsElse, names_run, workers_of}

-- words that don't name a vote have no form of one
pub no-vote : (words : List (List ℕ)) (telegrams : ℕ) (report : Bool)
    → names_vote words ≡ false → form_of words ≡ Ok (forms.Vote telegrams report) → ⊥
no-vote [] telegrams report named is = absurd (cc)
no-vote (command ∷ words) telegrams report named is =
    let yes = names-it command words (forms.Vote telegrams report) is in cc (yes, named)

-- and likewise of a capability
pub no-capability : (words : List (List ℕ)) (plant : ℕ) (demand : Wrench)
    → names_capability words ≡ false → form_of words ≡ Ok (forms.Capability plant demand) → ⊥
no-capability [] plant demand named is = absurd (cc)
no-capability (command ∷ words) plant demand named is =
    let yes = names-it command words (forms.Capability plant demand) is in cc (yes, named)

-- and of a drill
pub no-drill : (words : List (List ℕ)) (seed size : ℕ)
    → names_drill words ≡ false → form_of words ≡ Ok (forms.Drill seed size) → ⊥
no-drill [] seed size named is = absurd (cc)
no-drill (command ∷ words) seed size named is =
    let yes = names-it command words (forms.Drill seed size) is in cc (yes, named)

-- a word isn't two commands
one-name : (command one other : List ℕ) → bytes_eq one other ≡ false
    → bytes_eq command one ≡ true → bytes_eq command other ≡ true → ⊥
one-name command one other apart first second =
    differ one other apart
    (sym ((bytes_eq-Decides command one).0 first) ∙ (bytes_eq-Decides command other).0 second)

-- words don't name two of these commands
pub vote-or-capability : (words : List (List ℕ)) → names_vote words ≡ true
    → names_capability words ≡ true → ⊥
vote-or-capability [] vote capability = absurd (cc)
vote-or-capability (command ∷ words) vote capability =
    one-name command (codes "vote") (codes "capability") refl vote capability

pub vote-or-drill : (words : List (List ℕ)) → names_vote words ≡ true
    → names_drill words ≡ true → ⊥
vote-or-drill [] vote drill = absurd (cc)
vote-or-drill (command ∷ words) vote drill =
    one-name command (codes "vote") (codes "drill") refl vote drill

pub capability-or-drill : (words : List (List ℕ)) → names_capability words ≡ true
    → names_drill words ≡ true → ⊥
capability-or-drill [] capability drill = absurd (cc)
capability-or-drill (command ∷ words) capability drill =
    one-name command (codes "capability") (codes "drill") refl capability drill

module _ {A B C : Type 0} (words : List (List ℕ)) (status : RunStatus) (first : Passed A)
    (second : Passed B) (third : Passed C) (out : Shown)
    (unread : NamesNoFile words → IsUntouched first) where
  pub ran-watch : (plant sensors operators workers : ℕ)
      → form_of words ≡ Ok (forms.Run plant sensors operators workers)
      → EndsSession words status (watched workers second third out) first.shown out
      → EndsElse words status first second third out
  ran-watch plant sensors operators workers is ends = record {
    ran = λ named. subst (λ (n : ℕ).
        EndsSession words status (watched n second third out) first.shown out)
        (sym (ap workers_of is)) ends;
    checked = λ named. absurd (no-check words named is);
    replayed = λ none named. absurd (is-run words none is);
    untouched = λ none. absurd (is-run words none is);
    unread = unread;
  }
    where
      no-check : (words : List (List ℕ)) → names_check words ≡ true
          → form_of words ≡ Ok (forms.Run plant sensors operators workers) → ⊥
      no-check [] named is = absurd (cc)
      no-check (command ∷ words) named is =
          no-other command words (codes "check") (forms.Run plant sensors operators workers) named
          (differ (codes "check") (codes "run") refl) is

      is-run : (words : List (List ℕ)) → names_run words ≡ false
          → form_of words ≡ Ok (forms.Run plant sensors operators workers) → ⊥
      is-run [] none is = absurd (cc)
      is-run (command ∷ words) none is =
          let yes = names-it command words (forms.Run plant sensors operators workers) is in
          cc (yes, none)

  pub ran-replay : (plant telegrams : ℕ) → form_of words ≡ Ok (forms.Replay plant telegrams)
      → EndsSession words status (recorded second out) first.shown out → IsUntouched third
      → EndsElse words status first second third out
  ran-replay plant telegrams is ends same = record {
    ran = λ named. absurd (no-run words named is);
    checked = λ named. absurd (no-check words named is);
    replayed = λ none named. ends;
    untouched = λ none. same;
    unread = unread;
  }
    where
      no-run : (words : List (List ℕ)) → names_run words ≡ true
          → form_of words ≡ Ok (forms.Replay plant telegrams) → ⊥
      no-run [] named is = absurd (cc)
      no-run (command ∷ words) named is =
          no-other command words (codes "run") (forms.Replay plant telegrams) named
          (differ (codes "run") (codes "replay") refl) is

      no-check : (words : List (List ℕ)) → names_check words ≡ true
          → form_of words ≡ Ok (forms.Replay plant telegrams) → ⊥
      no-check [] named is = absurd (cc)
      no-check (command ∷ words) named is =
          no-other command words (codes "check") (forms.Replay plant telegrams) named
          (differ (codes "check") (codes "replay") refl) is

  pub ran-check : (plant : ℕ) (demand : Wrench) (json : Bool)
      → form_of words ≡ Ok (forms.Check plant demand json)
      → EndsFindings words status first.shown out → IsUntouched second → IsUntouched third
      → EndsElse words status first second third out
  ran-check plant demand json is ends same also = record {
    ran = λ named. absurd (no-run words named is);
    checked = λ named. (ends, same);
    replayed = λ none other. absurd (is-check words other is);
    untouched = λ none. also;
    unread = unread;
  }
    where
      no-run : (words : List (List ℕ)) → names_run words ≡ true
          → form_of words ≡ Ok (forms.Check plant demand json) → ⊥
      no-run [] named is = absurd (cc)
      no-run (command ∷ words) named is =
          no-other command words (codes "run") (forms.Check plant demand json) named
          (differ (codes "run") (codes "check") refl) is

      is-check : (words : List (List ℕ)) → names_check words ≡ false
          → form_of words ≡ Ok (forms.Check plant demand json) → ⊥
      is-check [] none is = absurd (cc)
      is-check (command ∷ words) none is =
          let yes = names-it command words (forms.Check plant demand json) is in cc (yes, none)

-- faulty words, and nothing was read or written
pub ran-usage : {A B C : Type 0} (words : List (List ℕ)) (kind : ℕ) (first : Passed A)
    (second : Passed B) (third : Passed C) (out : Shown) → form_of words ≡ Err kind
    → IsUntouched first → IsUntouched second → IsUntouched third → out.after ≡ out.before
    → NoneFailed first.shown → NoneFailed second.shown → NoneFailed third.shown → NoneFailed out
    → EndsElse words (Usage kind) first second third out
ran-usage words kind first second third out is one two three unwritten none_one none_two none_three
    none_out = record {
      ran = λ named.
          session-usage words kind first.shown
          (watched (workers_of (form_of words)) second third out) out is
          (record { unwritten = unwritten; unread = (two, three) }) none_one
          (all-two NoneFailed second.shown third.shown none_two none_three) none_out;
      checked = λ named. (ends-usage words kind first.shown out is unwritten none_one none_out, two);
      replayed = λ none named.
          session-usage words kind first.shown (recorded second out) out is
          (record { unwritten = unwritten; unread = two }) none_one
          (all-one NoneFailed second.shown none_two) none_out;
      untouched = λ none. three;
      unread = λ none. one;
    }
