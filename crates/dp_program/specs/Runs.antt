-- What the program does with any words.
use Rattle.std.specs.Prelude.{◌≡◌, ℕ, List, [], ◌∷◌, Bool, true, false, Result, Ok, codes}
use Rattle.std.specs.Str.{bytes_eq}
use Rattle.dp_io.specs.Shown.{Shown}
use Rattle.dp_words.specs.Statuses.{IsTold}
use Rattle.dp_words.specs.Words.{form_of}
use Rattle.dp_words.specs.declared.form.Form.{Form}
use Rattle.dp_words.specs.declared.form.Form.TheVariants as forms
use Rattle.dp_words.specs.declared.status.RunStatus.{RunStatus}
use Rattle.sensor_vote.specs.Calls.{names_vote}
use Rattle.capability_report.specs.Calls.{EndsCapabilityCall, names_capability}
use Rattle.drill_session.specs.Calls.{EndsDrillCall, names_drill}
use Rattle.dp_sessions.specs.Checks.{EndsFindings, names_check}
use Rattle.dp_words.specs.Plants.{NamesNoFile}
use Rattle.dp_sessions.specs.Sessions.{EndsSession, IsUntouched, Passed, recorded}
use Rattle.dp_sessions.specs.Votes.{EndsVoting}
use Rattle.watch_session.specs.Threads.{watched}

-- A call of the program: its sources, of the plant, of the sensors or the recorded telegrams and of
-- the operators, and what its outputs showed.
pub record Run (A B C : Type 0) : Type 0 where
  pub first : Passed A
  pub second : Passed B
  pub third : Passed C
  pub out : Shown
  pub err : Shown

-- the first word names the session over two streams
abbrev pub names_run : List (List ℕ) → Bool
names_run [] = false
names_run (command ∷ words) = bytes_eq command (codes "run")

-- as many workers as words of that form say
abbrev pub workers_of : Result Form ℕ → ℕ
workers_of (Ok (forms.Run plant sensors operators workers)) = workers
workers_of _ = 0

-- How the program ends with this status where it neither votes nor tells a capability nor runs a drill:
-- as a session over two streams where the first word names it, as a check where that does, and else as
-- a session over recorded telegrams. A source that isn't the command's is as it was, and so is that of
-- the plant where no word names it.
pub record EndsElse {A B C : Type 0} (words : List (List ℕ)) (status : RunStatus)
    (first : Passed A) (second : Passed B) (third : Passed C) (out : Shown) : Type 0 where
  pub ran : names_run words ≡ true
      → EndsSession words status (watched (workers_of (form_of words)) second third out)
      first.shown out
  pub checked : names_check words ≡ true
      → EndsFindings words status first.shown out × IsUntouched second
  pub replayed : names_run words ≡ false → names_check words ≡ false
      → EndsSession words status (recorded second out) first.shown out
  pub untouched : names_run words ≡ false → IsUntouched third
  pub unread : NamesNoFile words → IsUntouched first

-- A capability of the plant. The other sources are as they were.
pub record EndsMeasuring {A B C : Type 0} (words : List (List ℕ)) (status : RunStatus)
    (run : Run A B C) : Type 0 where
  pub capability : EndsCapabilityCall words status run.first.before run.first.after run.first.shown
      run.out run.err
  pub second : IsUntouched run.second
  pub third : IsUntouched run.third

-- A drill. All sources are as they were.
pub record EndsDrilling {A B C : Type 0} (words : List (List ℕ)) (status : RunStatus)
    (run : Run A B C) : Type 0 where
  pub drill : EndsDrillCall words status run.out run.err
  pub first : IsUntouched run.first
  pub second : IsUntouched run.second
  pub third : IsUntouched run.third

-- How the program ends with this status: as a vote where the first word names it, with the operators'
-- source as it was, as a capability or a drill where that does, else as above. The line is told.
pub record EndsRun {A B C : Type 0} (words : List (List ℕ)) (status : RunStatus) (run : Run A B C)
    : Type 0 where
  pub voted : names_vote words ≡ true
      → EndsVoting words status run.first run.second run.out run.err × IsUntouched run.third
  pub measured : names_capability words ≡ true → EndsMeasuring words status run
  pub drilled : names_drill words ≡ true → EndsDrilling words status run
  pub ended : names_vote words ≡ false → names_capability words ≡ false
      → names_drill words ≡ false → EndsElse words status run.first run.second run.third run.out
  pub told : IsTold status run.err
