use Rattle.std.proofs.Common.{◌≡◌, ◌+◌, ◌-◌, true, false, length, map, take, drop, ap, sym, ◌∙◌}
use Rattle.std.proofs.Common.{arith}
use Rattle.std.proofs.lemmas.List.{length-drop, take_all}
use Rattle.std.specs.List.{list_any}
use Rattle.std.specs.Str.{bytes_eq}
use Rattle.toml.specs.View.{view}
use Rattle.plant_file.specs.Documents.{text_in}
use Rattle.plant_file.proofs.DistinctLemmas.{distinct_stop, distinct_more, distinct_over}
use Rattle.plant_file.proofs.names.are_distinct_texts.Goals as goal

pub returns-then-is_one_of : goal.returns-then-is_one_of
returns-then-is_one_of c =
    let xs = c.args.values.now in
    let i = c.loop-index.index in
    let x = c.index-values-index.result in
    let rest : take (length xs - (i + 1)) (drop (i + 1) xs) ≡ drop (i + 1) xs =
    take_all (length xs - (i + 1)) (drop (i + 1) xs) (omega (arith, length-drop (i + 1) xs)) in
    let found : list_any (bytes_eq (text_in (view x))) (map text_in (map view (drop (i + 1) xs)))
    ≡ true = ap (λ t. list_any (bytes_eq t) (map text_in (map view (drop (i + 1) xs))))
    (sym c.text.ensures)
    ∙ ap (λ r. list_any (bytes_eq c.text.result.now) (map text_in (map view r))) (sym rest)
    ∙ sym c.is_one_of.ensures ∙ c.if-is_one_of.true in
    sym (distinct_stop view xs i x c.loop-index-test.true (sym c.index-values-index.is) found)
    ∙ c.loop-index.invariant

pub loop-index-preserved : goal.loop-index-preserved
loop-index-preserved c =
    let xs = c.args.values.now in
    let i = c.loop-index.index in
    let x = c.index-values-index.result in
    let rest : take (length xs - (i + 1)) (drop (i + 1) xs) ≡ drop (i + 1) xs =
    take_all (length xs - (i + 1)) (drop (i + 1) xs) (omega (arith, length-drop (i + 1) xs)) in
    let none : list_any (bytes_eq (text_in (view x))) (map text_in (map view (drop (i + 1) xs)))
    ≡ false =
    ap (λ t. list_any (bytes_eq t) (map text_in (map view (drop (i + 1) xs))))
    (sym c.text.ensures)
    ∙ ap (λ r. list_any (bytes_eq c.text.result.now) (map text_in (map view r))) (sym rest)
    ∙ sym c.is_one_of.ensures ∙ c.if-is_one_of.false in
    sym (distinct_more view xs i x c.loop-index-test.true (sym c.index-values-index.is) none)
    ∙ c.loop-index.invariant

pub returns : goal.returns
returns c =
    sym (distinct_over view c.args.values.now c.loop-index.index c.loop-index-test.false)
    ∙ c.loop-index.invariant
