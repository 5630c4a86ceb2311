-- The pieces so far, and the wedges of the rest, are those of the whole run.
use Rattle.std.proofs.Common.{◌≡◌, ◌<◌, ◌-◌, ◌++◌, length}
use Rattle.plant_model.specs.Rings.{wedges}
use Rattle.thrust_region.specs.Pieces.{all_points}
use Rattle.thrust_region.proofs.cutting.cut_run.Given as goal

abbrev pub invariant-loop : goal.invariant-loop
invariant-loop l = record {
  some : 0 < length l.rest;
  whole : all_points l.pieces ++ wedges (length l.run - l.counter) l.rest
      ≡ all_points l.initial.pieces ++ wedges (length l.run) l.run;
}
