-- The choices of the thrusters so far, with those of the others, are those of all.
use Rattle.std.proofs.Common.{◌≡◌, ◌≤◌, ◌*◌, ◌^◌, drop}
use Rattle.plant_model.specs.Plants.{choices_of}
use Rattle.plant_model.specs.declared.limits.TheConstants.{MOST_PIECES}
use Rattle.plant_file.proofs.building.choices.Given as goal

abbrev pub invariant-loop-thruster : goal.invariant-loop-thruster
invariant-loop-thruster l =
    record {
      product : l.choices * choices_of (drop l.thruster-index l.thrusters) ≡ choices_of l.thrusters;
      few : l.choices ≤ MOST_PIECES ^ l.thruster-index;
    }
