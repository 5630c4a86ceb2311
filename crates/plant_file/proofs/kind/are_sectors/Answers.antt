use Rattle.std.proofs.Common.{rules, ◌≡◌, tests}
use Rattle.std.proofs.lemmas.Iterator.{YieldsList-from_slice}
use Rattle.std.proofs.lemmas.Iterator.Search.{all_from_yields_List}
use Rattle.std.proofs.lemmas.List.Folds.{list_all-map}
use Rattle.std.specs.List.{list_all}
use Rattle.toml.specs.View.{view}
use Rattle.plant_file.specs.Kinds.{are_places}
use Rattle.plant_file.proofs.kind.are_sectors.Goals as goal

pub returns : goal.returns
returns c =
    let each : c.all.result ≡ list_all (λ value. are_places (view value)) c.args.values.now =
    all_from_yields_List (λ value. are_places (view value)) _ _ c.all.result c.all.ensures.ran
    (YieldsList-from_slice c.args.values.now cc) (λ x b q k. search (rules, tests)) in
    rw list_all-map each
