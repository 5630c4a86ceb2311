-- Histories of which the same is written.
use Rattle.std.proofs.lemmas.List.Elements.{recursion_from_All}
use Rattle.std.specs.Bool.{IsTrue}
use Rattle.plant_model.specs.Names.{is_name}
use Rattle.log_text.proofs.ToldGroups.{names-distinct}
use Rattle.log_text.proofs.ToldTexts.{texts_tell}
use Rattle.log_text.proofs.law.texts_tell_histories.Goals as goal

pub returns : goal.returns
returns c =
    let plant = c.args.plant.now in
    let groups = recursion_from_All (λ group. IsTrue (is_name group.name)) plant.groups.items
    c.groups_are_named.ensures in
    let thrusters = recursion_from_All (λ thruster. IsTrue (is_name thruster.name))
    plant.thrusters.items c.thrusters_are_named.ensures in
    texts_tell plant groups (names-distinct plant c.parts-parts.ensures.fit) thrusters
