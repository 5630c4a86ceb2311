-- The elements so far.
use Rattle.std.proofs.Common.{◌≡◌, map, take}
use Rattle.toml.specs.View.{table_view, view}
use Rattle.plant_file.specs.Documents.{text_in}
use Rattle.plant_file.specs.Described.{member_named}
use Rattle.plant_file.proofs.parts.group.Given as goal

abbrev pub invariant-loop-value : goal.invariant-loop-value
invariant-loop-value l =
    l.members.items ≡ map (λ d. member_named (table_view l.document) (text_in d))
    (map view (take l.value-index l.value-items))
