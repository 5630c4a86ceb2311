use Rattle.std.specs.Prelude.{All}
use Rattle.plant_model.specs.declared.limits.TheConstants.{MOST_THRUST}
use Rattle.wrench_geometry.specs.Wrenches.{IsPointWithin}
use Rattle.analysis_tests.proofs.sums.points_of.Given as goal

abbrev pub invariant-loop-thrust : goal.invariant-loop-thrust
invariant-loop-thrust l = All (IsPointWithin MOST_THRUST) l.points.items
