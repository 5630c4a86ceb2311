use Rattle.std.proofs.Common.{map, sym, ◌∙◌, ap}
use Rattle.toml.specs.View.{view}
use Rattle.plant_file.proofs.Values.{elements-items_of, list_in-as_array}
use Rattle.plant_file.proofs.document.list.Goals as goal

pub returns-in-Some : goal.returns-in-Some
returns-in-Some c =
    let found = rw c.in-Some.is at c.as_array.ensures in
    let same = ap (map view) c.as_slice.ensures.value in
    list_in-as_array _ _ (sym found) ∙ elements-items_of (map view c.in-Some.values.now.items)
    ∙ sym same
