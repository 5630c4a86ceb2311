use Rattle.std.proofs.Common.{rules, ◌≡◌, tests}
use Rattle.std.proofs.lemmas.Iterator.{YieldsList-from_slice}
use Rattle.std.proofs.Common.{◌==◌}
use Rattle.std.proofs.lemmas.Iterator.Search.{any_from_yields_List}
use Rattle.std.specs.List.{list_any}
use Rattle.toml.specs.View.{view}
use Rattle.plant_file.specs.Documents.{natural, number_in}
use Rattle.plant_file.proofs.KeyLemmas.{list_any-map}
use Rattle.plant_file.proofs.thruster.is_one_of.Goals as goal

pub returns : goal.returns
returns c =
    let each : c.any.result
    ≡ list_any (λ value. c.args.sought == natural (number_in (view value))) c.args.values.now =
    any_from_yields_List (λ value. c.args.sought == natural (number_in (view value))) _ _
    c.any.result c.any.ensures.ran (YieldsList-from_slice c.args.values.now cc)
    (λ x b q k. search (rules, tests)) in
    rw (list_any-map, list_any-map) each
