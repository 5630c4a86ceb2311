-- Each entry is met.
use Rattle.std.proofs.Common.{refl, subst}
use Rattle.log_text.specs.Fits.{FitsEntry}
use Rattle.log_text.proofs.FitLists.{each_met, one_more}
use Rattle.log_text.proofs.fits.histories_are_held.Goals as goal

pub loop-entry-preserved : goal.loop-entry-preserved
loop-entry-preserved c =
    one_more FitsEntry c.args.history.now c.args.history.now c.loop-entry.entry-index refl
    c.entry-item.result c.loop-entry-test.true c.loop-entry.invariant
    (subst FitsEntry c.entry-item.is c.entry_fits.ensures)

pub returns : goal.returns
returns c =
    each_met FitsEntry c.args.history.now c.args.history.now c.loop-entry.entry-index refl
    c.loop-entry-test.false c.loop-entry.invariant
