-- A board with the log that ends with what it stands for.
use Rattle.std.specs.Prelude.{ℕ, ◌≡◌, ◌+◌, List, [], ◌∷◌, ◌++◌, length}
use Rattle.logbook.specs.Pages.{Book}
use Rattle.plant_model.specs.declared.board.Cells.{Cells}
use Rattle.glance.specs.Shown.{Displays, Seeing, Writing}
use Rattle.glance.specs.Stages.{IsChain, base_of, identity_of, list_of, stage_of}
use Rattle.glance.specs.declared.stage.Stage.{Stage}

-- what a contract sees of a board: its cells, which displays it is for, and the log
pub record Standing (E B : Type 0) : Type 0 where
  pub cells : Cells
  pub glance : Book
  pub log : List (Stage E B)

module _ {E B : Type 0} where
  -- the number is that of the last stage, for which the cells stand
  pub record IsShot (any_base : B) (means : B → List E → Cells → Type 0) (number : ℕ)
      (cells : Cells) (log : List (Stage E B)) : Type 0 where
    pub last : number + 1 ≡ length log
    pub chain : IsChain log
    pub stands : means (base_of any_base log) (list_of log) cells

  -- the board of the empty list
  abbrev pub opening_shot : Cells → Book → B → Standing E B
  opening_shot cells glance base = record {
    cells = cells;
    glance = glance;
    log = stage_of base [] ∷ [];
  }

  -- the board that is published after another
  abbrev pub next_shot : Standing E B → Cells → B → List E → Standing E B
  next_shot before cells base list = record {
    cells = cells;
    glance = before.glance;
    log = before.log ++ stage_of base list ∷ [];
  }

  -- what contracts see of displays that open with a board, of one that shows a board, and of the
  -- writer that published it last
  abbrev pub showing : B → Standing E B → Displays B
  showing any shot = record { glance = identity_of shot.glance; base = base_of any shot.log }

  abbrev pub seeing : B → Standing E B → Seeing E B
  seeing any shot = record {
    glance = identity_of shot.glance;
    base = base_of any shot.log;
    seen = list_of shot.log;
  }

  abbrev pub writing : B → Standing E B → Writing E B
  writing any shot = record {
    glance = identity_of shot.glance;
    base = base_of any shot.log;
    list = list_of shot.log;
  }
