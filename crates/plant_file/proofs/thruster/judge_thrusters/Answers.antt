use Rattle.std.proofs.Common.{◌≡◌, ◌<◌, ◌≤◌, ◌^◌, length, get_or, map, ap, sym, ◌∙◌, arith, rules}
use Rattle.std.proofs.lemmas.List.{length-map}
use Rattle.std.specs.List.{enumerate_from, flat_map, list_all}
use Rattle.toml.specs.View.{table_view, view}
use Rattle.plant_file.specs.declared.fault.Part.TheVariants.{Thruster}
use Rattle.plant_file.specs.Faults.{elements_at, judged}
use Rattle.plant_file.specs.Keys.{thruster_rows_of_1}
use Rattle.plant_file.specs.PlantText.{thruster_faults}
use Rattle.plant_file.specs.RightKeys.{has_right_keys}
use Rattle.plant_file.proofs.ArrayLemmas.{get_or-placed, length-placed}
use Rattle.plant_file.proofs.BuiltLemmas.{all_at}
use Rattle.plant_file.proofs.JudgedLemmas.{walk_failed, walk_goes_on, walk_ended}
use Rattle.plant_file.proofs.RightLemmas.{few_thrusters, thrusters_right_of_1}
use Rattle.plant_file.proofs.thruster.judge_thrusters.Goals as goal

pub overflow_cast-index : goal.overflow_cast-index
overflow_cast-index c =
    let doc = table_view c.args.document.now in
    let long : length (elements_at Thruster doc) ≡ length c.elements-elements.result.now =
    ap length c.elements-elements.ensures ∙ length-map c.elements-elements.result.now view in
    let few = few_thrusters doc c.requires in
    let small : c.loop-index.index < 2 ^ 32 = omega arith in
    search rules

pub judge_thruster-requires : goal.judge_thruster-requires
judge_thruster-requires c =
    all_at view (has_right_keys thruster_rows_of_1) c.elements-elements.result.now
    c.loop-index.index c.index-elements-index.result c.loop-index-test.true
    c.index-elements-index.is
    (ap (list_all (has_right_keys thruster_rows_of_1)) (sym c.elements-elements.ensures)
    ∙ thrusters_right_of_1 (table_view c.args.document.now) c.requires)

pub returns-in_err-judge_thruster : goal.returns-in_err-judge_thruster
returns-in_err-judge_thruster c =
    let xs = c.elements-elements.result.now in
    let i = c.loop-index.index in
    let x = c.index-elements-index.result in
    let here : get_or (enumerate_from 0 (map view xs)) i (0, view x) ≡ (i, view x) =
    get_or-placed view xs i x c.loop-index-test.true
    ∙ ap (λ y. (i, view y)) (sym c.index-elements-index.is) in
    let within : i < length (enumerate_from 0 (map view xs)) =
    omega (arith, length-placed view xs) in
    walk_failed thruster_faults (enumerate_from 0 (map view xs)) i (0, view x) within _ _
    c.from_residual.ensures.1 (rw here (sym c.judge_thruster.ensures ∙ c.in_err-judge_thruster.was))
    c.loop-index.invariant
    ∙ ap (λ ds. judged (flat_map thruster_faults (enumerate_from 0 ds)))
    (sym c.elements-elements.ensures)

pub loop-index-preserved : goal.loop-index-preserved
loop-index-preserved c =
    let xs = c.elements-elements.result.now in
    let i = c.loop-index.index in
    let x = c.index-elements-index.result in
    let here : get_or (enumerate_from 0 (map view xs)) i (0, view x) ≡ (i, view x) =
    get_or-placed view xs i x c.loop-index-test.true
    ∙ ap (λ y. (i, view y)) (sym c.index-elements-index.is) in
    let within : i < length (enumerate_from 0 (map view xs)) =
    omega (arith, length-placed view xs) in
    walk_goes_on thruster_faults (enumerate_from 0 (map view xs)) i (0, view x) within
    (rw here (sym c.judge_thruster.ensures ∙ c.in_ok-judge_thruster.was)) c.loop-index.invariant

pub returns : goal.returns
returns c =
    let xs = c.elements-elements.result.now in
    let over : length (enumerate_from 0 (map view xs)) ≤ c.loop-index.index =
    omega (arith, length-placed view xs) in
    walk_ended thruster_faults (enumerate_from 0 (map view xs)) c.loop-index.index over
    c.loop-index.invariant
    ∙ ap (λ ds. judged (flat_map thruster_faults (enumerate_from 0 ds)))
    (sym c.elements-elements.ensures)
