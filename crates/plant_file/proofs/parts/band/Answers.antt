use Rattle.std.proofs.Common.{◌≡◌, ◌∙◌, length, map, pos, true, ap, sym, arith, rules}
use Rattle.std.proofs.lemmas.Int.{ints}
use Rattle.std.proofs.lemmas.List.{length-map}
use Rattle.std.specs.List.{list_all}
use Rattle.toml.specs.Data.{table}
use Rattle.toml.specs.View.{table_view, view}
use Rattle.plant_model.specs.declared.limits.TheConstants.{AXES, MOST_MOMENT}
use Rattle.plant_file.specs.declared.fault.Key.TheVariants as key
use Rattle.plant_file.specs.declared.kind.Kind.TheVariants as kind
use Rattle.plant_file.specs.Described.{held, list_at}
use Rattle.plant_file.specs.Documents.{is_small}
use Rattle.plant_file.specs.Keys.{needed, top_rows}
use Rattle.plant_file.specs.Kinds.{exactly, span}
use Rattle.plant_file.proofs.KindLemmas.{right_at, wholes_right}
use Rattle.plant_file.proofs.RightLemmas.{top_right}
use Rattle.plant_file.proofs.SmallLemmas.{wholes_small}
use Rattle.plant_file.proofs.parts.band.Goals as goal

pub numbers-requires : goal.numbers-requires
numbers-requires c =
    let top = table (table_view c.args.document.now) in
    let values = c.list_in.result.now in
    let limits = span (pos 0) MOST_MOMENT in
    let row = needed key.Band (kind.Wholes (exactly AXES) limits) in
    let right = right_at top_rows 2 row top (omega arith)
    (top_right (table_view c.args.document.now) c.requires) in
    let whole = wholes_right key.Band AXES limits (held key.Band top) right in
    let long : length values ≡ AXES =
    sym (length-map values view) ∙ ap length c.list_in.ensures ∙ whole.0 in
    let small : list_all is_small (map view values) ≡ true =
    ap (list_all is_small) c.list_in.ensures
    ∙ wholes_small MOST_MOMENT (list_at key.Band top) (omega (arith, ints)) whole.1 in
    (search rules, (long, small))
