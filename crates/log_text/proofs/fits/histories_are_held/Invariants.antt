-- The entries so far fit.
use Rattle.std.proofs.Common.{All, take}
use Rattle.log_text.specs.Fits.{FitsEntry}
use Rattle.log_text.proofs.fits.histories_are_held.Given as goal

abbrev pub invariant-loop-entry : goal.invariant-loop-entry
invariant-loop-entry l = All FitsEntry (take l.entry-index l.fn.history)
