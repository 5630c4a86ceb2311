-- The parts are those that the document describes.
use Rattle.std.proofs.Common.{◌≡◌, subst, sym, ◌∙◌, IsTrue}
use Rattle.toml.specs.View.{table_view}
use Rattle.plant_model.specs.Plants.{is_plant}
use Rattle.plant_model.specs.declared.plant.Parts.{Parts}
use Rattle.plant_file.specs.Described.{parts_in}
use Rattle.plant_file.proofs.Whole.{plant_described, same_parts, thrusters_judged}
use Rattle.plant_file.proofs.building.plant.Goals as goal

pub opening-requires-clause-right : goal.opening-requires-clause-right
opening-requires-clause-right c =
    thrusters_judged (table_view c.args.document.now) c.requires.right

pub of-requires : goal.of-requires
of-requires c =
    let doc = table_view c.args.document.now in
    let p : Parts = record {
      name = c.plant_name.result;
      band = c.band.result;
      gains = c.gains.result;
      wind = c.wind.result;
      sections = c.sections.result;
      ties = c.ties.result;
      generators = c.generators.result;
      thrusters = c.args.thrusters;
      groups = c.groups.result;
      opening = c.opening.result;
    } in
    let same : p ≡ parts_in doc =
    same_parts doc p c.plant_name.ensures c.band.ensures c.gains.ensures c.wind.ensures
    c.sections.ensures c.ties.ensures c.generators.ensures c.requires.thrusters c.groups.ensures
    c.opening.ensures in
    subst (λ (parts : Parts). IsTrue (is_plant parts)) (sym same)
    (plant_described doc c.requires.keys c.requires.right)

pub returns : goal.returns
returns c =
    let doc = table_view c.args.document.now in
    let p : Parts = record {
      name = c.plant_name.result;
      band = c.band.result;
      gains = c.gains.result;
      wind = c.wind.result;
      sections = c.sections.result;
      ties = c.ties.result;
      generators = c.generators.result;
      thrusters = c.args.thrusters;
      groups = c.groups.result;
      opening = c.opening.result;
    } in
    c.of.ensures
    ∙ same_parts doc p c.plant_name.ensures c.band.ensures c.gains.ensures c.wind.ensures
    c.sections.ensures c.ties.ensures c.generators.ensures c.requires.thrusters c.groups.ensures
    c.opening.ensures
