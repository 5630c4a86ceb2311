-- The thrusts so far, and the fields that are left.
use Rattle.std.proofs.Common.{◌-◌, length}
use Rattle.plant_model.specs.declared.limits.TheConstants.{MOST_THRUSTERS}
use Rattle.plant_model.specs.declared.thrust.Thrust.{Thrust}
use Rattle.telegram.specs.Telegrams.{fields_left}
use Rattle.log_reading.specs.Outcomes.{thrust_at}
use Rattle.log_reading.proofs.Items.{IsGoing}
use Rattle.log_reading.proofs.outcomes.thrusts.Given as goal

abbrev pub invariant-loop-rest : goal.invariant-loop-rest
invariant-loop-rest l =
    IsGoing Thrust thrust_at MOST_THRUSTERS (fields_left l.fn.fields) l.list.items (fields_left l.rest)

abbrev pub decreases-loop-rest : goal.decreases-loop-rest
decreases-loop-rest l = MOST_THRUSTERS - length l.list.items
