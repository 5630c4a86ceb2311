-- No thruster so far has a fault.
use Rattle.std.proofs.Common.{◌≡◌, drop, map}
use Rattle.std.specs.List.{enumerate_from, flat_map}
use Rattle.toml.specs.View.{view}
use Rattle.plant_file.specs.Faults.{judged}
use Rattle.plant_file.specs.PlantText.{thruster_faults}
use Rattle.plant_file.proofs.thruster.judge_thrusters.Given as goal

abbrev pub invariant-loop-index : goal.invariant-loop-index
invariant-loop-index l =
    judged (flat_map thruster_faults (drop l.index (enumerate_from 0 (map view l.elements))))
    ≡ judged (flat_map thruster_faults (enumerate_from 0 (map view l.elements)))
