use Rattle.plant_model.specs.declared.limits.TheConstants.{MOST_GENERATORS}
use Rattle.redundancy_groups.specs.Standing.{runs_after}
use Rattle.redundancy_groups.proofs.Places.{AreFilled}
use Rattle.redundancy_groups.proofs.stands.running.Given as goal

abbrev pub invariant-loop-place : goal.invariant-loop-place
invariant-loop-place l =
    AreFilled MOST_GENERATORS (runs_after l.parts l.status l.loss) l.place l.running
