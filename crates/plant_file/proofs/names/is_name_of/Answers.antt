use Rattle.std.proofs.Common.{rules, ◌≡◌, tests}
use Rattle.std.proofs.lemmas.Iterator.{YieldsList-from_slice}
use Rattle.std.proofs.lemmas.Iterator.Search.{any_from_yields_List}
use Rattle.std.specs.List.{list_any}
use Rattle.std.specs.Str.{bytes_eq}
use Rattle.toml.specs.View.{view}
use Rattle.plant_file.specs.Described.{text_at}
use Rattle.plant_file.specs.declared.fault.Key.TheVariants.{Name}
use Rattle.plant_file.proofs.KeyLemmas.{list_any-map}
use Rattle.plant_file.proofs.names.is_name_of.Goals as goal

pub returns : goal.returns
returns c =
    let each : c.any.result
    ≡ list_any (λ value. bytes_eq c.args.sought.now (text_at Name (view value)))
    c.args.elements.now =
    any_from_yields_List (λ value. bytes_eq c.args.sought.now (text_at Name (view value))) _ _
    c.any.result c.any.ensures.ran (YieldsList-from_slice c.args.elements.now cc)
    (λ x b q k. search (rules, tests)) in
    rw (list_any-map, list_any-map) each
