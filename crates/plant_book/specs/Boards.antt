-- Which boards displays show of a machine.
use Rattle.std.specs.Prelude.{◌≡◌, List}
use Rattle.plant_core.specs.Board.{cells_of}
use Rattle.plant_core.specs.Machine.{CoreView, IsLegal, state_after}
use Rattle.plant_core.specs.declared.call.Entry.{Entry}
use Rattle.plant_model.specs.Demo.{demo_parts}
use Rattle.plant_model.specs.declared.board.Cells.{Cells}
use Rattle.plant_book.specs.declared.board.BoardBase.{BoardBase}

-- the plant and the limit of a machine
abbrev pub board_base : CoreView → BoardBase
board_base core = record { plant = core.plant; limit = core.limit }

-- some plant and limit, whichever
abbrev pub some_board_base : BoardBase
some_board_base = record { plant = demo_parts; limit = 0 }

-- the board is the one of a legal history of the plant
abbrev pub Stands : BoardBase → List Entry → Cells → Type 0
Stands base history cells = IsLegal base.plant base.limit history
    × (cells ≡ cells_of base.plant (state_after base.plant history))
