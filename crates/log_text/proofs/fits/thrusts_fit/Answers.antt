-- Each thrust is met.
use Rattle.std.proofs.Common.{pos, rules}
use Rattle.log_text.specs.Fits.{FitsThrust}
use Rattle.log_text.proofs.FitLists.{each_met, one_more}
use Rattle.log_text.proofs.fits.thrusts_fit.Goals as goal

pub loop-thrust-preserved : goal.loop-thrust-preserved
loop-thrust-preserved c =
    let read = c.as_slice-thrust-items in
    one_more FitsThrust c.args.thrusts.now.list.items read.result.now c.loop-thrust.thrust-index read.ensures.value (record { x = pos 0; y = pos 0 })
    c.loop-thrust-test.true c.loop-thrust.invariant c.thrust_fits.ensures

pub returns : goal.returns
returns c =
    let read = c.as_slice-thrust-items in
    record {
      few = search rules;
      each = each_met FitsThrust c.args.thrusts.now.list.items read.result.now c.loop-thrust.thrust-index read.ensures.value
          c.loop-thrust-test.false c.loop-thrust.invariant;
    }
