use Rattle.std.proofs.Common.{◌≡◌, ◌∙◌, length, map, cond, Some, None, ap, sym, rules, tests}
use Rattle.std.proofs.Math.Dec.{ltb}
use Rattle.std.proofs.lemmas.Iterator.{YieldsList-from_slice}
use Rattle.std.proofs.lemmas.Iterator.Search.{position_from_yields_List}
use Rattle.std.specs.Prelude.{unwrap_or}
use Rattle.std.specs.List.{position_or_len}
use Rattle.std.specs.Str.{bytes_eq}
use Rattle.toml.specs.View.{view}
use Rattle.toml.specs.declared.value.Value.{Value}
use Rattle.plant_file.specs.declared.fault.Key.TheVariants.{Name}
use Rattle.plant_file.specs.Described.{text_at}
use Rattle.plant_file.proofs.NumberLemmas.{found_or, position-map}
use Rattle.plant_file.proofs.parts.number_of.Goals as goal

pub returns-clause-place : goal.returns-clause-place
returns-clause-place c =
    let xs = c.args.elements.now in
    let test = λ (e : Value). bytes_eq c.args.sought.now (text_at Name (view e)) in
    let at : c.position.result ≡ cond (ltb (position_or_len test xs) (length xs))
    (Some (position_or_len test xs)) None =
    position_from_yields_List test _ _ c.position.result c.position.ensures.ran
    (YieldsList-from_slice xs cc) (λ x b q k. search (rules, tests)) in
    c.unwrap_or.ensures ∙ ap (λ o. unwrap_or o (length xs)) at ∙ found_or test xs
    ∙ sym (position-map (bytes_eq c.args.sought.now) (text_at Name) (map view xs)
    ∙ position-map (λ d. bytes_eq c.args.sought.now (text_at Name d)) view xs)
