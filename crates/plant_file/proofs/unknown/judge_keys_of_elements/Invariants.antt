-- No element so far has an unknown key.
use Rattle.std.proofs.Common.{◌≡◌, drop, map}
use Rattle.std.specs.List.{enumerate_from}
use Rattle.toml.specs.View.{view}
use Rattle.plant_file.specs.Faults.{faults_of_elements, judged, unknown_faults_at}
use Rattle.plant_file.proofs.unknown.judge_keys_of_elements.Given as goal

abbrev pub invariant-loop-index : goal.invariant-loop-index
invariant-loop-index l =
    judged (faults_of_elements (unknown_faults_at l.part l.rows)
    (drop l.index (enumerate_from 0 (map view l.elements))))
    ≡ judged (faults_of_elements (unknown_faults_at l.part l.rows)
    (enumerate_from 0 (map view l.elements)))
