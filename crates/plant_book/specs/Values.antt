-- What lies behind the lock: a machine, and the writer of what displays show of it.
use Rattle.std.specs.Prelude.{◌≡◌, ℕ}
use mathlib.Core.List.{IsPrefix}
use Rattle.glance.specs.Shown.{Writing}
use Rattle.glance.specs.declared.identity.Identity.{Identity}
use Rattle.plant_core.specs.Machine.{CoreView}
use Rattle.plant_core.specs.declared.call.Entry.{Entry}
use Rattle.plant_model.specs.Demo.{demo_parts}
use Rattle.plant_book.specs.Boards.{board_base}
use Rattle.plant_book.specs.declared.base.BookBase.{BookBase}
use Rattle.plant_book.specs.declared.board.BoardBase.{BoardBase}

-- the machine, and which displays show its board
pub record ValueView : Type 0 where
  pub core : CoreView
  pub glance : Identity

-- the writer is of the machine's plant and limit, and what it published last is a front of the
-- machine's history
pub record IsWritten (writer : Writing Entry BoardBase) (core : CoreView) : Type 0 where
  pub base : writer.base ≡ board_base core
  pub list : IsPrefix writer.list core.history

-- who made an entry
abbrev pub caller_of : Entry → ℕ
caller_of entry = entry.caller

-- what no call changes
abbrev pub base_of : ValueView → BookBase
base_of value =
    record { plant = value.core.plant; limit = value.core.limit; glance = value.glance }

-- some base, whichever
abbrev pub some_base : BookBase
some_base =
    record { plant = demo_parts; limit = 0; glance = record { number = 0; log = 0; cells = 0 } }
