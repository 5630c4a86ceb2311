use Rattle.std.proofs.Common.{ℕ, ◌<◌, get_or, map}
use Rattle.plant_model.specs.declared.thrust.Thrust.{Thrust}
use Rattle.thrust_region.specs.Pieces.{points_of}
use Rattle.certificate.specs.Beside.{IsTaken, LieBelow}
use Rattle.log_audit.proofs.shares.lie.Given as goal

abbrev pub invariant-loop-i : goal.invariant-loop-i
invariant-loop-i l = record {
  lie : LieBelow (map points_of l.chosen.pieces.items) l.fixed l.thrusts l.q l.i;
  taken : (k : ℕ) (d : Thrust) → k < l.i → IsTaken (get_or l.thrusts k d);
}
