use Rattle.std.proofs.Common.{rules, ◌≡◌, tests}
use Rattle.std.proofs.lemmas.Iterator.{YieldsList-from_slice}
use Rattle.std.proofs.lemmas.Iterator.Search.{all_from_yields_List}
use Rattle.std.proofs.lemmas.List.Folds.{list_all-map}
use Rattle.std.specs.List.{list_all, list_any}
use Rattle.std.specs.Str.{bytes_eq}
use Rattle.toml.specs.View.{table_view, view}
use Rattle.plant_file.specs.Described.{names_of_parts}
use Rattle.plant_file.specs.Documents.{text_in}
use Rattle.plant_file.proofs.names.are_known.Goals as goal

pub returns : goal.returns
returns c =
    let each : c.all.result
    ≡ list_all
    (λ value. list_any (bytes_eq (text_in (view value)))
    (names_of_parts c.args.parts.now (table_view c.args.document.now))) c.args.values.now =
    all_from_yields_List
    (λ value. list_any (bytes_eq (text_in (view value)))
    (names_of_parts c.args.parts.now (table_view c.args.document.now))) _ _ c.all.result
    c.all.ensures.ran (YieldsList-from_slice c.args.values.now cc)
    (λ x b q k. search (rules, tests)) in
    rw (list_all-map, list_all-map) each
