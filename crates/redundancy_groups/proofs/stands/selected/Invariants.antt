use Rattle.plant_model.specs.declared.limits.TheConstants.{MOST_THRUSTERS}
use Rattle.redundancy_groups.specs.Standing.{is_selected_after}
use Rattle.redundancy_groups.proofs.Places.{AreFilled}
use Rattle.redundancy_groups.proofs.stands.selected.Given as goal

abbrev pub invariant-loop-place : goal.invariant-loop-place
invariant-loop-place l =
    AreFilled MOST_THRUSTERS (is_selected_after l.parts l.status l.loss) l.place l.selected
