-- What is left decides, with the last threshold as the least.
use Rattle.std.proofs.Common.{◌≡◌, drop, map, pos, ◌≤ℤ◌}
use Rattle.toml.specs.View.{view}
use Rattle.plant_model.specs.Plants.{are_thresholds_from}
use Rattle.plant_file.specs.Documents.{natural, number_in}
use Rattle.plant_file.proofs.kind.are_thresholds.Given as goal

abbrev pub invariant-loop-value : goal.invariant-loop-value
invariant-loop-value l = record {
  some : pos 1 ≤ℤ l.least;
  left : are_thresholds_from (natural l.least)
      (map (λ d. natural (number_in d)) (map view (drop l.value-index l.values)))
      ≡ are_thresholds_from 1 (map (λ d. natural (number_in d)) (map view l.values));
}
