-- The cuts so far fit.
use Rattle.std.proofs.Common.{All, take}
use Rattle.log_text.specs.Fits.{FitsVector}
use Rattle.log_text.proofs.fits.cuts_fit.Given as goal

abbrev pub invariant-loop-cut : goal.invariant-loop-cut
invariant-loop-cut l = All FitsVector (take l.cut-index l.fn.cuts.list.items)
