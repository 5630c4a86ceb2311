-- No text so far equals a later one.
use Rattle.std.proofs.Common.{◌≡◌, drop, map}
use Rattle.std.specs.Str.{bytes_eq}
use Rattle.toml.specs.View.{view}
use Rattle.plant_model.specs.Plants.{are_distinct}
use Rattle.plant_file.specs.Documents.{text_in}
use Rattle.plant_file.proofs.names.are_distinct_texts.Given as goal

abbrev pub invariant-loop-index : goal.invariant-loop-index
invariant-loop-index l =
    are_distinct bytes_eq (map text_in (map view (drop l.index l.values)))
    ≡ are_distinct bytes_eq (map text_in (map view l.values))
