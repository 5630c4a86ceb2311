use Rattle.std.proofs.Common.{◌≡◌, ◌<◌, ◌≤◌, length, get_or, map, ap, sym, ◌∙◌, arith}
use Rattle.std.specs.List.{enumerate_from}
use Rattle.toml.specs.View.{view}
use Rattle.plant_file.specs.Faults.{in_element, table_faults_at}
use Rattle.plant_file.proofs.ArrayLemmas.{get_or-placed, length-placed}
use Rattle.plant_file.proofs.JudgedLemmas.{walk_failed, walk_goes_on, walk_ended}
use Rattle.plant_file.proofs.judging.judge_elements.Goals as goal

pub returns-in_err-judge_element : goal.returns-in_err-judge_element
returns-in_err-judge_element c =
    let x = c.index-elements-index.result in
    let here : get_or (enumerate_from 0 (map view c.args.elements.now)) c.loop-index.index
    (0, view x) ≡ (c.loop-index.index, view x) =
    get_or-placed view c.args.elements.now c.loop-index.index x c.loop-index-test.true
    ∙ ap (λ y. (c.loop-index.index, view y)) (sym c.index-elements-index.is) in
    let within : c.loop-index.index < length (enumerate_from 0 (map view c.args.elements.now)) =
    omega (arith, length-placed view c.args.elements.now) in
    walk_failed (λ e. in_element (table_faults_at c.args.part c.args.rows.now e.0) e.1)
    (enumerate_from 0 (map view c.args.elements.now)) c.loop-index.index (0, view x) within _ _
    c.from_residual.ensures.1 (rw here (sym c.judge_element.ensures ∙ c.in_err-judge_element.was))
    c.loop-index.invariant

pub loop-index-preserved : goal.loop-index-preserved
loop-index-preserved c =
    let x = c.index-elements-index.result in
    let here : get_or (enumerate_from 0 (map view c.args.elements.now)) c.loop-index.index
    (0, view x) ≡ (c.loop-index.index, view x) =
    get_or-placed view c.args.elements.now c.loop-index.index x c.loop-index-test.true
    ∙ ap (λ y. (c.loop-index.index, view y)) (sym c.index-elements-index.is) in
    let within : c.loop-index.index < length (enumerate_from 0 (map view c.args.elements.now)) =
    omega (arith, length-placed view c.args.elements.now) in
    walk_goes_on (λ e. in_element (table_faults_at c.args.part c.args.rows.now e.0) e.1)
    (enumerate_from 0 (map view c.args.elements.now)) c.loop-index.index (0, view x) within
    (rw here (sym c.judge_element.ensures ∙ c.in_ok-judge_element.was)) c.loop-index.invariant

pub returns : goal.returns
returns c =
    let over : length (enumerate_from 0 (map view c.args.elements.now)) ≤ c.loop-index.index =
    omega (arith, length-placed view c.args.elements.now) in
    walk_ended (λ e. in_element (table_faults_at c.args.part c.args.rows.now e.0) e.1)
    (enumerate_from 0 (map view c.args.elements.now)) c.loop-index.index over
    c.loop-index.invariant
