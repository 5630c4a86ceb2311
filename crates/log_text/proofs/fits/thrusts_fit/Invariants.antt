-- The thrusts so far fit.
use Rattle.std.proofs.Common.{All, take}
use Rattle.log_text.specs.Fits.{FitsThrust}
use Rattle.log_text.proofs.fits.thrusts_fit.Given as goal

abbrev pub invariant-loop-thrust : goal.invariant-loop-thrust
invariant-loop-thrust l = All FitsThrust (take l.thrust-index l.fn.thrusts.list.items)
