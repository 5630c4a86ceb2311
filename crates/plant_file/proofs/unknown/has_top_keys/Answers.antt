use Rattle.std.proofs.Common.{rules, ◌≡◌, map, string_bytes, tests}
use Rattle.std.proofs.lemmas.Iterator.Consumers.{YieldsList-from_rest}
use Rattle.std.proofs.lemmas.Iterator.Search.{all_from_yields_List}
use Rattle.std.specs.List.{list_all, list_any}
use Rattle.std.specs.Str.{bytes_eq}
use Rattle.plant_file.specs.Keys.{top_keys}
use Rattle.plant_file.proofs.KeyLemmas.{list_all-keys}
use Rattle.plant_file.proofs.unknown.has_top_keys.Goals as goal

pub returns : goal.returns
returns c =
    let each : c.all.result ≡ list_all (λ key. list_any (bytes_eq (string_bytes key)) top_keys)
    (map (λ e. e.0) c.args.document.now.entries) =
    all_from_yields_List (λ key. list_any (bytes_eq (string_bytes key)) top_keys) _ _ c.all.result
    c.all.ensures.ran
    (YieldsList-from_rest (map (λ e. e.0) c.args.document.now.entries) c.keys.ensures.rest)
    (λ x b q k. search (rules, tests)) in
    rw list_all-keys each
