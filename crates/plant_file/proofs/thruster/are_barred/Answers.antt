use Rattle.std.proofs.Common.{◌≡◌, ◌∙◌, ◌+◌, ◌-◌, ◌<◌, ◌≤◌, ◌==◌, ◌∷◌, true, false, length, map}
use Rattle.std.proofs.Common.{take, drop, ap, sym, arith}
use Rattle.std.proofs.lemmas.List.{at_drop_all, length-drop, take_all}
use Rattle.std.specs.List.{list_any}
use Rattle.toml.specs.View.{view}
use Rattle.plant_file.specs.Documents.{natural, number_in}
use Rattle.plant_file.specs.PlantText.{are_barred}
use Rattle.plant_file.proofs.MaskLemmas.{barred_more, barred_past, barred_twice, places_more}
use Rattle.plant_file.proofs.MaskLemmas.{places_of}
use Rattle.plant_file.proofs.thruster.are_barred.Goals as goal

pub returns-then-place-pieces : goal.returns-then-place-pieces
returns-then-place-pieces c =
    let xs = c.args.values.now in
    let i = c.loop-index.index in
    let x = c.index-values-index.result in
    let n = c.args.pieces in
    let place = natural (number_in (view x)) in
    let others = places_of (map view (drop (i + 1) xs)) in
    let more : places_of (map view (drop i xs)) ≡ place ∷ others =
    places_more view n xs i x c.loop-index-test.true c.index-values-index.is in
    let past : n ≤ place = omega (arith, c.natural-place.ensures) in
    sym (ap (are_barred n) more ∙ barred_past n place others past) ∙ c.loop-index.invariant

pub returns-then-is_one_of : goal.returns-then-is_one_of
returns-then-is_one_of c =
    let xs = c.args.values.now in
    let i = c.loop-index.index in
    let x = c.index-values-index.result in
    let n = c.args.pieces in
    let place = natural (number_in (view x)) in
    let others = places_of (map view (drop (i + 1) xs)) in
    let more : places_of (map view (drop i xs)) ≡ place ∷ others =
    places_more view n xs i x c.loop-index-test.true c.index-values-index.is in
    let rest : take (length xs - (i + 1)) (drop (i + 1) xs) ≡ drop (i + 1) xs =
    take_all (length xs - (i + 1)) (drop (i + 1) xs) (omega (arith, length-drop (i + 1) xs)) in
    let one : list_any (λ b. place == b) others ≡ true =
    ap (λ p. list_any (λ b. p == b) others) (sym c.natural-place.ensures)
    ∙ ap (λ r. list_any (λ b. c.natural-place.result == b) (places_of (map view r))) (sym rest)
    ∙ sym c.is_one_of.ensures ∙ c.if-is_one_of.true in
    sym (ap (are_barred n) more ∙ barred_twice n place others one) ∙ c.loop-index.invariant

pub loop-index-preserved : goal.loop-index-preserved
loop-index-preserved c =
    let xs = c.args.values.now in
    let i = c.loop-index.index in
    let x = c.index-values-index.result in
    let n = c.args.pieces in
    let place = natural (number_in (view x)) in
    let others = places_of (map view (drop (i + 1) xs)) in
    let more : places_of (map view (drop i xs)) ≡ place ∷ others =
    places_more view n xs i x c.loop-index-test.true c.index-values-index.is in
    let rest : take (length xs - (i + 1)) (drop (i + 1) xs) ≡ drop (i + 1) xs =
    take_all (length xs - (i + 1)) (drop (i + 1) xs) (omega (arith, length-drop (i + 1) xs)) in
    let one : list_any (λ b. place == b) others ≡ false =
    ap (λ p. list_any (λ b. p == b) others) (sym c.natural-place.ensures)
    ∙ ap (λ r. list_any (λ b. c.natural-place.result == b) (places_of (map view r))) (sym rest)
    ∙ sym c.is_one_of.ensures ∙ c.if-is_one_of.false in
    let there : place < n = omega (arith, c.natural-place.ensures) in
    sym (ap (are_barred n) more ∙ barred_more n place others there one) ∙ c.loop-index.invariant

pub returns : goal.returns
returns c =
    sym (at_drop_all (λ rest. are_barred c.args.pieces (places_of (map view rest)))
    c.args.values.now c.loop-index.index c.loop-index-test.false) ∙ c.loop-index.invariant
