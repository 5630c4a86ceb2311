-- What the program does with words that name a vote, and a call that replays with words that name no
-- plant.
use Rattle.std.specs.Prelude.{◌≡◌, ℕ, List, None, Ok}
use Rattle.dp_io.specs.Shown.{NoneFailed, Shown}
use Rattle.dp_words.specs.Statuses.{IsTold}
use Rattle.dp_words.specs.Words.{form_of, plant_place}
use Rattle.dp_words.specs.declared.form.Form.{Form}
use Rattle.dp_words.specs.declared.status.RunStatus.{RunStatus}
use Rattle.dp_words.specs.declared.status.RunStatus.TheVariants as statuses
use Rattle.sensor_vote.specs.Calls.{EndsVoteCall}
use Rattle.dp_sessions.specs.Sessions.{EndsCall, IsUntouched, Passed, recorded}

-- A vote of the telegrams of the first source. The second is as it was.
pub record EndsVoting {A B : Type 0} (words : List (List ℕ)) (status : RunStatus)
    (first : Passed A) (second : Passed B) (out err : Shown) : Type 0 where
  pub vote : EndsVoteCall words status first.before first.after first.shown out err
  pub unread : IsUntouched second

-- Words are refused as other words than a session's: the status is that of faulty words, and nothing
-- is read or written.
pub record RefusesForm {A B : Type 0} (status : RunStatus) (first : Passed A) (second : Passed B)
    (out : Shown) : Type 0 where
  pub usage : status ≡ statuses.Usage 3
  pub unread : IsUntouched first × IsUntouched second
  pub unwritten : out.after ≡ out.before
  pub none_failed : NoneFailed out

-- the words have a form that has no plant: they ask for a vote or for a drill
abbrev pub HaveNoPlant : List (List ℕ) → Type 0
HaveNoPlant words = (form : Form) × (form_of words ≡ Ok form) × (plant_place form ≡ None)

-- How a call that replays ends: as a session, or, where the words have a form with no plant, by
-- refusing them. The line is told.
pub record EndsReplay {A B : Type 0} (words : List (List ℕ)) (status : RunStatus) (first : Passed A)
    (second : Passed B) (out err : Shown) : Type 0 where
  pub session : ¬ HaveNoPlant words → EndsCall words status first (recorded second out) out err
  pub refused : HaveNoPlant words → RefusesForm status first second out
  pub told : IsTold status err
