-- The cuts so far, and the fields that are left.
use Rattle.std.proofs.Common.{◌-◌, length}
use Rattle.plant_model.specs.declared.limits.TheConstants.{MOST_CHOICES}
use Rattle.wrench_geometry.specs.declared.vector.Vec3.{Vec3}
use Rattle.telegram.specs.Telegrams.{fields_left}
use Rattle.log_reading.specs.Outcomes.{cut_at}
use Rattle.log_reading.proofs.Items.{IsGoing}
use Rattle.log_reading.proofs.outcomes.cuts.Given as goal

abbrev pub invariant-loop-rest : goal.invariant-loop-rest
invariant-loop-rest l =
    IsGoing Vec3 cut_at MOST_CHOICES (fields_left l.fn.fields) l.list.items (fields_left l.rest)

abbrev pub decreases-loop-rest : goal.decreases-loop-rest
decreases-loop-rest l = MOST_CHOICES - length l.list.items
