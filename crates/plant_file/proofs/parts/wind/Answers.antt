use Rattle.std.proofs.Common.{◌≡◌, ◌∙◌, length, map, true, ap, sym, arith}
use Rattle.std.proofs.lemmas.List.{length-map}
use Rattle.std.specs.List.{list_all}
use Rattle.toml.specs.Data.{Members, table}
use Rattle.toml.specs.View.{table_view, view}
use Rattle.plant_model.specs.Plants.{is_wind_row}
use Rattle.plant_model.specs.declared.limits.TheConstants.{WIND_ROWS}
use Rattle.plant_file.specs.declared.fault.Key.TheVariants as key
use Rattle.plant_file.specs.declared.kind.Kind.TheVariants as kind
use Rattle.plant_file.specs.Described.{held, list_at}
use Rattle.plant_file.specs.Keys.{needed, top_rows}
use Rattle.plant_file.specs.Kinds.{wind_row_in}
use Rattle.plant_file.specs.RightKeys.{HasRightKeys}
use Rattle.plant_file.proofs.BuiltLemmas.{all_at, filled_all, filled_more, filled_whole, no_wind}
use Rattle.plant_file.proofs.KindLemmas.{right_at, wind_right}
use Rattle.plant_file.proofs.RightLemmas.{top_right}
use Rattle.plant_file.proofs.parts.wind.Goals as goal

-- the wind table of a document without faults of its keys
wind_table : (doc : Members) → HasRightKeys doc
    → (length (list_at key.Wind (table doc)) ≡ WIND_ROWS)
    × (list_all (λ e. is_wind_row (wind_row_in e)) (list_at key.Wind (table doc)) ≡ true)
wind_table doc right =
    wind_right key.Wind (held key.Wind (table doc))
    (right_at top_rows 3 (needed key.Wind kind.Wind) (table doc) (omega arith)
    (top_right doc right))

pub wind_row-requires : goal.wind_row-requires
wind_row-requires c =
    all_at view (λ e. is_wind_row (wind_row_in e)) c.list_in-value-items.result.now
    c.loop-place.place c.value-item.result c.loop-place-test.true c.value-item.is
    (ap (list_all (λ e. is_wind_row (wind_row_in e))) c.list_in-value-items.ensures
    ∙ (wind_table (table_view c.args.document.now) c.requires).1)

pub bounds-wind-place : goal.bounds-wind-place
bounds-wind-place c =
    let values = c.list_in-value-items.result.now in
    let long : length values ≡ WIND_ROWS =
    sym (length-map values view) ∙ ap length c.list_in-value-items.ensures
    ∙ (wind_table (table_view c.args.document.now) c.requires).0 in
    omega (arith, long, c.loop-place-test.true)

pub loop-place-preserved : goal.loop-place-preserved
loop-place-preserved c =
    let values = c.list_in-value-items.result.now in
    let long : length values ≡ WIND_ROWS =
    sym (length-map values view) ∙ ap length c.list_in-value-items.ensures
    ∙ (wind_table (table_view c.args.document.now) c.requires).0 in
    filled_more wind_row_in view values c.loop-place.place WIND_ROWS no_wind c.value-item.result
    c.loop-place.wind c.wind_row.result c.loop-place-test.true
    (omega (arith, long, c.loop-place-test.true)) c.value-item.is c.loop-place.invariant
    c.wind_row.ensures

pub returns : goal.returns
returns c =
    let values = c.list_in-value-items.result.now in
    let long : length values ≡ WIND_ROWS =
    sym (length-map values view) ∙ ap length c.list_in-value-items.ensures
    ∙ (wind_table (table_view c.args.document.now) c.requires).0 in
    filled_all wind_row_in view values c.loop-place.place WIND_ROWS no_wind c.loop-place.wind
    c.loop-place-test.false c.loop-place.invariant
    ∙ filled_whole WIND_ROWS no_wind (map wind_row_in (map view values))
    (length-map (map view values) wind_row_in ∙ length-map values view ∙ long)
    ∙ ap (map wind_row_in) c.list_in-value-items.ensures
