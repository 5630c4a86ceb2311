use Rattle.plant_model.specs.declared.limits.TheConstants.{MOST_SECTIONS}
use Rattle.redundancy_groups.specs.Standing.{is_live_after}
use Rattle.redundancy_groups.proofs.Places.{AreFilled}
use Rattle.redundancy_groups.proofs.stands.live.Given as goal

abbrev pub invariant-loop-section : goal.invariant-loop-section
invariant-loop-section l = AreFilled MOST_SECTIONS (is_live_after l.parts l.loss) l.section l.live
