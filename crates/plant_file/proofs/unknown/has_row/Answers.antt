use Rattle.std.proofs.Common.{rules, ◌≡◌, tests}
use Rattle.std.proofs.lemmas.Iterator.{YieldsList-from_slice}
use Rattle.std.proofs.lemmas.Iterator.Search.{any_from_yields_List}
use Rattle.std.specs.List.{list_any}
use Rattle.std.specs.Str.{bytes_eq}
use Rattle.plant_file.specs.Texts.{key_text}
use Rattle.plant_file.proofs.KeyLemmas.{list_any-map}
use Rattle.plant_file.proofs.unknown.has_row.Goals as goal

pub returns : goal.returns
returns c =
    let each : c.any.result
    ≡ list_any (λ row. bytes_eq c.args.key.now (key_text row.key)) c.args.rows.now =
    any_from_yields_List (λ row. bytes_eq c.args.key.now (key_text row.key)) _ _ c.any.result
    c.any.ensures.ran (YieldsList-from_slice c.args.rows.now cc)
    (λ x b q k. search (rules, tests)) in
    rw list_any-map each
