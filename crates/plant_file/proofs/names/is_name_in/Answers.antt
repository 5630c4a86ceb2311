use Rattle.std.proofs.Common.{rules, ◌≡◌, tests}
use Rattle.std.proofs.lemmas.Iterator.{YieldsList-from_slice}
use Rattle.std.proofs.lemmas.Iterator.Search.{any_from_yields_List}
use Rattle.std.specs.List.{list_any}
use Rattle.std.specs.Str.{bytes_eq}
use Rattle.toml.specs.View.{table_view}
use Rattle.plant_file.specs.Described.{names_of}
use Rattle.plant_file.proofs.NameLemmas.{list_any-flat_map}
use Rattle.plant_file.proofs.names.is_name_in.Goals as goal

pub returns : goal.returns
returns c =
    let each : c.any.result
    ≡ list_any
    (λ part. list_any (bytes_eq c.args.sought.now)
    (names_of part (table_view c.args.document.now))) c.args.parts.now =
    any_from_yields_List
    (λ part. list_any (bytes_eq c.args.sought.now)
    (names_of part (table_view c.args.document.now))) _ _ c.any.result c.any.ensures.ran
    (YieldsList-from_slice c.args.parts.now cc) (λ x b q k. search (rules, tests)) in
    rw list_any-flat_map each
