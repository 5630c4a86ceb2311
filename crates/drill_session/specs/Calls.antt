-- What a drill that the words ask for ends with.
use Rattle.std.specs.Prelude.{◌≡◌, ℕ, List, [], ◌∷◌, ◌⊎◌, ◌↔◌, Bool, false, Ok, Err, codes}
use Rattle.std.specs.Str.{bytes_eq}
use Rattle.dp_io.specs.Shown.{NoneFailed, Shown}
use Rattle.dp_words.specs.Statuses.{IsTold}
use Rattle.dp_words.specs.Words.{form_of}
use Rattle.dp_words.specs.declared.form.Form.TheVariants.{Drill}
use Rattle.dp_words.specs.declared.status.RunStatus.{RunStatus}
use Rattle.dp_words.specs.declared.status.RunStatus.TheVariants.{Usage}
use Rattle.drill_session.specs.Drills.{EndsDrill}

-- the first word names the command
abbrev pub names_drill : List (List ℕ) → Bool
names_drill [] = false
names_drill (command ∷ words) = bytes_eq command (codes "drill")

-- the words ask for a drill, which was run
pub record Drills (words : List (List ℕ)) (status : RunStatus) (out : Shown) : Type 0 where
  pub seed : ℕ
  pub size : ℕ
  pub asked : form_of words ≡ Ok (Drill seed size)
  pub ends : EndsDrill seed size status out

-- the words have no written form, and nothing was written
pub record HasNoForm (words : List (List ℕ)) (status : RunStatus) (out : Shown) : Type 0 where
  pub kind : ℕ
  pub none : form_of words ≡ Err kind
  pub usage : status ≡ Usage kind
  pub unwritten : out.after ≡ out.before
  pub no_fault : NoneFailed out

-- How a call of the program ends that runs a drill: as one of these, with the line told. The words are
-- told to be faulty exactly where they have no written form.
pub record EndsDrillCall (words : List (List ℕ)) (status : RunStatus) (out err : Shown) : Type 0
  where
    pub ends : Drills words status out ⊎ HasNoForm words status out
    pub usage : (kind : ℕ) → (status ≡ Usage kind) ↔ (form_of words ≡ Err kind)
    pub told : IsTold status err
