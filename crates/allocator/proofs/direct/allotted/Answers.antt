use Rattle.std.proofs.Common.{◌≡◌, ◌≢◌, ◌∙◌, List, map, ap, sym, subst, rules, to_z, of_z, w64}
use Rattle.std.proofs.lemmas.Int.{to_z-of_z}
use Rattle.std.proofs.lemmas.List.{length-map}
use Rattle.plant_model.specs.declared.parts.Thruster.{Thruster}
use Rattle.plant_model.specs.declared.thrust.Point.{Point}
use Rattle.thrust_region.specs.Pieces.{points_of}
use Rattle.wrench_geometry.specs.Chosen.{images_of, levers_of}
use Rattle.wrench_geometry.specs.Vectors.{zero_vector}
use Rattle.wrench_geometry.proofs.Bounds.{same_vector}
use Rattle.exit_point.specs.Exits.{EachHasWeights}
use Rattle.exit_point.proofs.Compared.{apart_from_test, same_from_test}
use Rattle.certificate.specs.Outcomes.{IsOneEach, Question, question_of}
use Rattle.feasibility.proofs.Means.{room_for_weights}
use Rattle.feasibility.proofs.Steps.{one_each}
use Rattle.allocator.proofs.Rightness.{given_right, none_asked_right, none_given_right}
use Rattle.allocator.proofs.direct.allotted.Goals as goal
use Rattle.allocator.proofs.direct.allotted.Goals.{After-farthest_reach-best}

pub returns-then-eq-clause-right : goal.returns-then-eq-clause-right
returns-then-eq-clause-right c =
    let plant = c.args.plant.now in
    let regions = c.args.regions.now in
    let none = c.default.ensures in
    let zero : c.args.demand ≡ zero_vector =
    same_from_test c.args.demand c.default.result c.if-eq.ensures
    ∙ same_vector {b = zero_vector} none.0 none.1.0 none.1.1 in
    none_asked_right (question_of plant regions c.args.demand) c.idle.result
    (one_each plant regions c.args.demand c.requires.region_each c.requires.fixed_each)
    c.requires.rest regions.some zero
    (record {
      top = ap (λ f. f.top) c.idle.ensures.fraction;
      bottom = ap (λ f. f.bottom) c.idle.ensures.fraction;
    })
    (record {
      choice = c.idle.ensures.choice;
      q = c.idle.ensures.q;
      thrusts = c.idle.ensures.thrusts;
    })

some : (c : After-farthest_reach-best) → c.args.demand ≢ zero_vector
some c is_zero =
    let none = c.default.ensures in
    apart_from_test c.args.demand c.default.result c.if-eq.ensures
    (is_zero ∙ sym (same_vector {b = zero_vector} none.0 none.1.0 none.1.1))

one_each_of : (c : After-farthest_reach-best) →
    IsOneEach (question_of c.args.plant.now c.args.regions.now c.args.demand)
one_each_of c =
    one_each c.args.plant.now c.args.regions.now c.args.demand c.requires.region_each
    c.requires.fixed_each

pub returns-then-best-eq0-clause-right : goal.returns-then-best-eq0-clause-right
returns-then-best-eq0-clause-right c =
    let at = goal.at.returns-then-best-eq0-clause-right c in
    let idle = c.idle-then-best-eq0 in
    let top = c.farthest_reach-best.result.part.top in
    let top_is : to_z w64 (of_z w64 top) ≡ top = to_z-of_z w64 _ (search rules) in
    none_given_right (question_of c.args.plant.now c.args.regions.now c.args.demand) idle.result
    c.farthest_reach-best.result c.farthest_reach-best.ensures
    (some at.After-farthest_reach-best) idle.ensures.fraction
    (one_each_of at.After-farthest_reach-best) c.requires.rest
    (sym top_is ∙ ap (to_z w64) c.if-best-eq0.true)
    (record {
      choice = idle.ensures.choice;
      q = idle.ensures.q;
      thrusts = idle.ensures.thrusts;
    })

pub given-requires-clause-rows : goal.given-requires-clause-rows
given-requires-clause-rows c =
    let plant = c.args.plant.now in
    let items = c.choice.result.pieces.items in
    let levers = levers_of plant in
    let exit = c.farthest_reach-best.result.exit in
    let weights : EachHasWeights exit.q (images_of levers (map points_of items)) exit.weights.items
    = subst (λ (p : List (List Point)). EachHasWeights exit.q (images_of levers p)
    exit.weights.items) (sym c.choice.ensures.pieces)
    c.farthest_reach-best.ensures.reached.exits.weights in
    room_for_weights exit.q levers exit.weights.items (map points_of items)
    (length-map items points_of ∙ c.choice.ensures.one_each ∙ c.requires.region_each
    ∙ sym (length-map plant.thrusters.items (λ (t : Thruster). t.lever))) weights

pub returns-clause-right : goal.returns-clause-right
returns-clause-right c =
    let at = goal.at.returns-clause-right c in
    let question : Question = question_of c.args.plant.now c.args.regions.now c.args.demand in
    let best = c.farthest_reach-best in
    given_right question c.given.result best.result best.ensures
    (some at.After-farthest_reach-best) c.given.ensures.fraction
    (λ e. c.if-best-eq0.false (ap (of_z w64) e))
    c.given.ensures.choice
    (c.given.ensures.gives question (one_each_of at.After-farthest_reach-best) c.requires.rest
    c.as_slice.ensures.value c.choice.ensures.pieces best.ensures.reached)
