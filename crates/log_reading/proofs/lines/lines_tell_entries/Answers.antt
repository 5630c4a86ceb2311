-- A line is that of one entry.
use Rattle.std.proofs.lemmas.List.Elements.{recursion_from_All}
use Rattle.std.specs.Bool.{IsTrue}
use Rattle.plant_model.specs.Names.{is_name}
use Rattle.log_text.proofs.ToldGroups.{names-distinct}
use Rattle.log_reading.proofs.EntryLines.{one_entry}
use Rattle.log_reading.proofs.lines.lines_tell_entries.Goals as goal

pub returns : goal.returns
returns c =
    let plant = c.args.plant.now in
    let named = recursion_from_All (λ group. IsTrue (is_name group.name)) plant.groups.items
    c.groups_are_named.ensures in
    one_entry plant named (names-distinct plant c.parts-parts.ensures.fit)
