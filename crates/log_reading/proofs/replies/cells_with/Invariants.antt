-- The cells so far, and the fields that are left.
use Rattle.std.proofs.Common.{◌-◌, length}
use Rattle.plant_model.specs.declared.limits.TheConstants.{MOST_GROUPS}
use Rattle.plant_model.specs.declared.board.Cell.{Cell}
use Rattle.telegram.specs.Telegrams.{fields_left}
use Rattle.log_reading.specs.Fields.{at_first}
use Rattle.log_reading.specs.Replies.{cell_of}
use Rattle.log_reading.proofs.Items.{IsGoing}
use Rattle.log_reading.proofs.replies.cells_with.Given as goal

abbrev pub invariant-loop-rest : goal.invariant-loop-rest
invariant-loop-rest l =
    IsGoing Cell (at_first cell_of) MOST_GROUPS (fields_left l.fn.fields) l.list.items (fields_left l.rest)

abbrev pub decreases-loop-rest : goal.decreases-loop-rest
decreases-loop-rest l = MOST_GROUPS - length l.list.items
