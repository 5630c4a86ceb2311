use Rattle.std.proofs.Common.{◌≡◌, true, false, ◌++◌, map, take, ap, sym, ◌∙◌}
use Rattle.std.specs.List.{list_any}
use Rattle.std.specs.Str.{bytes_eq}
use Rattle.toml.specs.View.{table_view, view}
use Rattle.plant_file.specs.Described.{names_of_parts, text_at}
use Rattle.plant_file.specs.Faults.{judged}
use Rattle.plant_file.specs.PlantText.{named_from, twice_after}
use Rattle.plant_file.specs.declared.fault.Key.TheVariants.{Name}
use Rattle.plant_file.proofs.NameLemmas.{names_stop, names_more, names_over}
use Rattle.plant_file.proofs.names.judge_names_of.Goals as goal

pub returns-then-stands_earlier : goal.returns-then-stands_earlier
returns-then-stands_earlier c =
    let es = names_of_parts c.args.earlier.now (table_view c.args.document.now) in
    let xs = c.elements-elements.result.now in
    let i = c.loop-index.index in
    let x = c.index-elements-index.result in
    let found : list_any (bytes_eq (text_at Name (view x)))
    (es ++ map (text_at Name) (map view (take i xs))) ≡ true =
    ap (λ t. list_any (bytes_eq t) (es ++ map (text_at Name) (map view (take i xs))))
    (sym c.text_at-name.ensures) ∙ sym c.stands_earlier.ensures
    ∙ c.if-stands_earlier.true in
    sym (names_stop view c.args.part xs es i x c.loop-index-test.true
    (sym c.index-elements-index.is) found)
    ∙ c.loop-index.invariant
    ∙ ap (λ ds. judged (twice_after es (named_from c.args.part 0 ds)))
    (sym c.elements-elements.ensures)

pub loop-index-preserved : goal.loop-index-preserved
loop-index-preserved c =
    let es = names_of_parts c.args.earlier.now (table_view c.args.document.now) in
    let xs = c.elements-elements.result.now in
    let i = c.loop-index.index in
    let x = c.index-elements-index.result in
    let none : list_any (bytes_eq (text_at Name (view x)))
    (es ++ map (text_at Name) (map view (take i xs))) ≡ false =
    ap (λ t. list_any (bytes_eq t) (es ++ map (text_at Name) (map view (take i xs))))
    (sym c.text_at-name.ensures) ∙ sym c.stands_earlier.ensures
    ∙ c.if-stands_earlier.false in
    sym (names_more view c.args.part xs es i x c.loop-index-test.true
    (sym c.index-elements-index.is) none) ∙ c.loop-index.invariant

pub returns : goal.returns
returns c =
    let es = names_of_parts c.args.earlier.now (table_view c.args.document.now) in
    let xs = c.elements-elements.result.now in
    let i = c.loop-index.index in
    sym (names_over view c.args.part xs (es ++ map (text_at Name) (map view (take i xs))) i
    c.loop-index-test.false)
    ∙ c.loop-index.invariant
    ∙ ap (λ ds. judged (twice_after es (named_from c.args.part 0 ds)))
    (sym c.elements-elements.ensures)
