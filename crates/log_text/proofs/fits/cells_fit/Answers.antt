-- Each cell is met.
use Rattle.std.proofs.Common.{rules}
use Rattle.plant_model.specs.declared.board.Cell.TheVariants.{Pending}
use Rattle.log_text.specs.Fits.{FitsCell}
use Rattle.log_text.proofs.FitLists.{each_met, one_more}
use Rattle.log_text.proofs.fits.cells_fit.Goals as goal

pub loop-cell-preserved : goal.loop-cell-preserved
loop-cell-preserved c =
    let read = c.as_slice-cell-items in
    one_more FitsCell c.args.cells.now.list.items read.result.now c.loop-cell.cell-index read.ensures.value Pending
    c.loop-cell-test.true c.loop-cell.invariant c.cell_fits.ensures

pub returns : goal.returns
returns c =
    let read = c.as_slice-cell-items in
    record {
      latest = c.word_fits.ensures;
      few = search rules;
      each = each_met FitsCell c.args.cells.now.list.items read.result.now c.loop-cell.cell-index read.ensures.value
          c.loop-cell-test.false c.loop-cell.invariant;
    }
