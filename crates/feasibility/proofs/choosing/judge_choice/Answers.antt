use Rattle.std.proofs.Common.{◌≡◌, ◌∙◌, ◌≤ℤ◌, ◌<ℤ◌, List, ap, subst, sym, map, arith}
use Rattle.std.proofs.lemmas.Int.{ints}
use Rattle.std.proofs.lemmas.List.{length-map}
use Rattle.plant_model.specs.declared.parts.Thruster.{Thruster}
use Rattle.thrust_region.specs.Choices.{choice_of}
use Rattle.thrust_region.specs.Pieces.{all_points, points_of}
use Rattle.wrench_geometry.specs.Chosen.{images_of, levers_of}
use Rattle.wrench_geometry.specs.Vectors.{dot_of, support_of}
use Rattle.wrench_geometry.specs.declared.vector.Vec3.{Vec3}
use Rattle.exit_point.specs.Exits.{IsExit}
use Rattle.certificate.specs.Outcomes.{question_of}
use Rattle.feasibility.proofs.Means.{room_for_weights}
use Rattle.feasibility.proofs.Steps.{one_each}
use Rattle.feasibility.proofs.choosing.judge_choice.Goals as goal
use Rattle.feasibility.proofs.choosing.judge_choice.Goals.{After-exit-exit}

-- the weights are those of the choice's images
exits : (c : After-exit-exit) → IsExit
    (images_of (levers_of c.args.plant.now) (map points_of c.choice-chosen.result.pieces.items))
    c.args.ahead c.exit-exit.result
exits c = subst (λ (l : List (List Vec3)). IsExit l c.args.ahead c.exit-exit.result)
    c.sums_of.ensures c.exit-exit.ensures.exit

pub returns-then-exit : goal.returns-then-exit
returns-then-exit c =
    let levers = levers_of c.args.plant.now in
    let w = c.cut_off.result in
    let same : c.sums_of.result ≡ images_of levers
    (choice_of (map all_points c.args.regions.now.list.items) c.args.k) =
    c.sums_of.ensures ∙ ap (images_of levers) c.choice-chosen.ensures.pieces in
    let exit = c.exit-exit.result in
    let before : exit.t <ℤ exit.q = omega (arith, ints, c.if-exit.true) in (
      subst (λ (l : List (List Vec3)). support_of l w <ℤ dot_of w c.args.ahead) same
          (c.cut_off.ensures.separates c.sums_of.result c.args.ahead c.exit-exit.ensures.exit
          before),
      c.cut_off.ensures.primitive c.args.ahead c.exit-exit.ensures.exit.cut.bottom,
    )

pub held-requires-clause-rows : goal.held-requires-clause-rows
held-requires-clause-rows c =
    let plant = c.args.plant.now in
    let items = c.choice-chosen.result.pieces.items in
    let at = goal.at.held-requires-clause-rows c in
    room_for_weights c.exit-exit.result.q (levers_of plant) c.exit-exit.result.weights.items
    (map points_of items)
    (length-map items points_of ∙ c.choice-chosen.ensures.one_each ∙ c.requires.region_each
    ∙ sym (length-map plant.thrusters.items (λ (t : Thruster). t.lever)))
    (exits at.After-exit-exit).weights

pub held-requires-clause-from_1 : goal.held-requires-clause-from_1
held-requires-clause-from_1 c =
    let low = c.exit-exit.ensures.exit.q_from_1 in
    omega (arith, ints, low, c.if-exit.false)

pub returns : goal.returns
returns c =
    let plant = c.args.plant.now in
    let regions = c.args.regions.now in
    let at = goal.at.returns c in
    let enough : c.exit-exit.result.q ≤ℤ c.exit-exit.result.t = omega (arith, ints, c.if-exit.false)
    in (
      λ demand is_ahead. c.held.ensures.valid (question_of plant regions demand) c.args.ahead
          (record {
            one_each = one_each plant regions demand c.requires.region_each c.requires.fixed_each;
            there = c.requires.there;
            chosen = c.choice-chosen.ensures.pieces;
            same_fixed = c.as_slice.ensures.value;
            is_ahead = is_ahead;
            exits = exits at.After-exit-exit;
            enough = enough;
          }),
      c.held.ensures.lowest,
      c.held.ensures.choice,
    )
