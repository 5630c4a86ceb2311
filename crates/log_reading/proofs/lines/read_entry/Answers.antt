-- What is read of the text is read of the line; what is no text is no line.
use Rattle.std.proofs.Common.{◌∙◌, ap}
use Rattle.std.proofs.lemmas.List.Elements.{recursion_from_All}
use Rattle.std.specs.Bool.{IsTrue}
use Rattle.plant_model.specs.Names.{is_name}
use Rattle.log_text.proofs.ToldGroups.{names-distinct}
use Rattle.log_reading.specs.Lines.{entry_of}
use Rattle.log_reading.proofs.EntryLines.{found_read, line_utf8, nothing_read}
use Rattle.log_reading.proofs.lines.read_entry.Goals as goal

pub returns-in-Ok-clause-found : goal.returns-in-Ok-clause-found
returns-in-Ok-clause-found c =
    let plant = c.args.plant.now in
    let named = recursion_from_All (λ group. IsTrue (is_name group.name)) plant.groups.items
    c.groups_are_named.ensures in
    found_read plant named (names-distinct plant c.parts-parts.ensures.fit) c.entry_of.result
    c.args.line.now (c.entry_of.ensures ∙ ap (entry_of plant) c.in-Ok.ensures.cases.0)

pub returns-in-Ok-clause-none : goal.returns-in-Ok-clause-none
returns-in-Ok-clause-none c =
    let plant = c.args.plant.now in
    let named = recursion_from_All (λ group. IsTrue (is_name group.name)) plant.groups.items
    c.groups_are_named.ensures in
    nothing_read plant named (names-distinct plant c.parts-parts.ensures.fit) c.entry_of.result
    c.args.line.now (c.entry_of.ensures ∙ ap (entry_of plant) c.in-Ok.ensures.cases.0)

pub returns-in-Err-clause-none : goal.returns-in-Err-clause-none
returns-in-Err-clause-none c =
    let plant = c.args.plant.now in
    let named = recursion_from_All (λ group. IsTrue (is_name group.name)) plant.groups.items
    c.groups_are_named.ensures in
    λ entry told. c.in-Err.ensures.cases.0
    (line_utf8 plant named (names-distinct plant c.parts-parts.ensures.fit) c.args.line.now entry told)
