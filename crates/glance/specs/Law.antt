-- The rule of the log of what was published, and what the step that adds to it tells.
use Rattle.std.specs.Prelude.{ℕ, ◌≡◌, ◌+◌, ◌==◌, true, List, [], ◌∷◌, ◌++◌, length}
use Rattle.std.specs.Bool.{OnTrue}
use Rattle.logbook.specs.Pages.{Cell, Step, View, Book, Named}
use Rattle.glance.specs.Stages.{IsChain}
use Rattle.glance.specs.declared.stage.Stage.{Stage}

-- the one word is the number of the last stage, and each stage follows the one before
pub record IsKept {E B : Type 0} (cells : List Cell) (log : List (Stage E B)) : Type 0 where
  pub number : ℕ
  pub last : number + 1 ≡ length log
  pub words : cells ≡ (number, true) ∷ []
  pub chain : IsChain log

-- the one word of a log
abbrev pub head_of : Book → Named
head_of book = record { tracked = true; key = 0; book = book }

-- where the word was found as it was expected, the stage was added to all that had been seen
abbrev pub Adds : {E B : Type 0} → Step (Stage E B) → View (Stage E B) ℕ → ℕ
    → View (Stage E B) ℕ → Type 0
Adds s before found after = OnTrue (found == s.old) ((after.0 ≡ before.0 ++ s.ask ∷ []) × IsChain after.0)
