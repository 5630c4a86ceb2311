use Rattle.std.proofs.Common.{◌≡◌, ◌<◌, ◌≤◌, length, get_or, map, ap, sym, ◌∙◌, arith}
use Rattle.std.specs.List.{enumerate_from, flat_map}
use Rattle.toml.specs.View.{view}
use Rattle.plant_file.specs.PlantText.{repeated}
use Rattle.plant_file.specs.Faults.{judged}
use Rattle.plant_file.proofs.ArrayLemmas.{get_or-placed, length-placed}
use Rattle.plant_file.proofs.JudgedLemmas.{walk_failed, walk_goes_on, walk_ended}
use Rattle.plant_file.proofs.names.judge_repeated.Goals as goal

pub returns-in_err-judge_repeated_in : goal.returns-in_err-judge_repeated_in
returns-in_err-judge_repeated_in c =
    let xs = c.elements-elements.result.now in
    let i = c.loop-index.index in
    let x = c.index-elements-index.result in
    let here : get_or (enumerate_from 0 (map view xs)) i (0, view x) ≡ (i, view x) =
    get_or-placed view xs i x c.loop-index-test.true
    ∙ ap (λ y. (i, view y)) (sym c.index-elements-index.is) in
    let within : i < length (enumerate_from 0 (map view xs)) =
    omega (arith, length-placed view xs) in
    walk_failed (repeated c.args.part c.args.key) (enumerate_from 0 (map view xs)) i
    (0, view x) within _ _
    c.from_residual.ensures.1
    (rw here (sym c.judge_repeated_in.ensures ∙ c.in_err-judge_repeated_in.was))
    c.loop-index.invariant
    ∙ ap (λ ds. judged (flat_map (repeated c.args.part c.args.key) (enumerate_from 0 ds)))
    (sym c.elements-elements.ensures)

pub loop-index-preserved : goal.loop-index-preserved
loop-index-preserved c =
    let xs = c.elements-elements.result.now in
    let i = c.loop-index.index in
    let x = c.index-elements-index.result in
    let here : get_or (enumerate_from 0 (map view xs)) i (0, view x) ≡ (i, view x) =
    get_or-placed view xs i x c.loop-index-test.true
    ∙ ap (λ y. (i, view y)) (sym c.index-elements-index.is) in
    let within : i < length (enumerate_from 0 (map view xs)) =
    omega (arith, length-placed view xs) in
    walk_goes_on (repeated c.args.part c.args.key) (enumerate_from 0 (map view xs)) i
    (0, view x) within
    (rw here (sym c.judge_repeated_in.ensures ∙ c.in_ok-judge_repeated_in.was))
    c.loop-index.invariant

pub returns : goal.returns
returns c =
    let xs = c.elements-elements.result.now in
    let over : length (enumerate_from 0 (map view xs)) ≤ c.loop-index.index =
    omega (arith, length-placed view xs) in
    walk_ended (repeated c.args.part c.args.key) (enumerate_from 0 (map view xs)) c.loop-index.index
    over c.loop-index.invariant
    ∙ ap (λ ds. judged (flat_map (repeated c.args.part c.args.key) (enumerate_from 0 ds)))
    (sym c.elements-elements.ensures)
