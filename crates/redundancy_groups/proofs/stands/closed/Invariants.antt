use Rattle.plant_model.specs.declared.limits.TheConstants.{MOST_TIES}
use Rattle.redundancy_groups.specs.Standing.{is_closed_after}
use Rattle.redundancy_groups.proofs.Places.{AreFilled}
use Rattle.redundancy_groups.proofs.stands.closed.Given as goal

abbrev pub invariant-loop-place : goal.invariant-loop-place
invariant-loop-place l =
    AreFilled MOST_TIES (is_closed_after l.parts l.status l.loss) l.place l.closed
