-- The cells so far fit.
use Rattle.std.proofs.Common.{All, take}
use Rattle.log_text.specs.Fits.{FitsCell}
use Rattle.log_text.proofs.fits.cells_fit.Given as goal

abbrev pub invariant-loop-cell : goal.invariant-loop-cell
invariant-loop-cell l = All FitsCell (take l.cell-index l.fn.cells.list.items)
