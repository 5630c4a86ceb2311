-- Histories with one log.
use Rattle.std.proofs.lemmas.List.Elements.{recursion_from_All}
use Rattle.std.specs.Bool.{IsTrue}
use Rattle.plant_model.specs.Names.{is_name}
use Rattle.log_text.proofs.ToldEntries.{logs_tell}
use Rattle.log_text.proofs.ToldGroups.{names-distinct}
use Rattle.log_text.proofs.law.logs_tell_histories.Goals as goal

pub returns : goal.returns
returns c =
    let plant = c.args.plant.now in
    let named = recursion_from_All (λ group. IsTrue (is_name group.name)) plant.groups.items
    c.groups_are_named.ensures in
    logs_tell plant named (names-distinct plant c.parts-parts.ensures.fit)
