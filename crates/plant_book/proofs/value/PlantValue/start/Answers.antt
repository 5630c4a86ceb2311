use Rattle.std.proofs.Common.{List, ap, sym, ◌∙◌}
use Rattle.plant_core.specs.Board.{cells_of}
use Rattle.plant_core.specs.Machine.{opening, state_after, state_of}
use Rattle.plant_core.specs.declared.call.Entry.{Entry}
use Rattle.plant_book.specs.declared.board.PlantBoard.{PlantBoard}
use Rattle.plant_book.proofs.value.PlantValue.start.Goals as goal

pub start-requires : goal.start-requires
start-requires c =
    let core = c.args.core in
    let boxed = c.in_ok-board.ensures.ok in (
      tt,
      c.cells-cells.ensures
          ∙ ap (λ (b : PlantBoard). cells_of b.core.plant (state_of b.core)) (c.deref.ensures ∙ boxed)
          ∙ ap (λ (h : List Entry). cells_of core.plant (state_after core.plant h)) c.requires
          ∙ sym (ap (λ (b : PlantBoard). cells_of b.core.plant (opening b.core.plant))
          (c.deref-2.ensures ∙ boxed)),
    )
