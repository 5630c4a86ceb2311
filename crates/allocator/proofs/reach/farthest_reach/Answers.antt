use Rattle.std.proofs.Common.{◌≡◌, ◌∙◌, ℕ, ◌+◌, ◌++◌, [], ◌∷◌, ap, sym, subst, length, map, rules, to_z, of_z, w64, arith, List}
use Rattle.std.proofs.lemmas.Int.{to_z-of_z}
use Rattle.std.proofs.lemmas.List.{length_push}
use Rattle.thrust_region.specs.Choices.{choices_of}
use Rattle.thrust_region.specs.Pieces.{all_points}
use Rattle.wrench_geometry.specs.declared.vector.Vec3.{Vec3}
use Rattle.certificate.specs.Outcomes.{question_of}
use Rattle.allocator.specs.Reaches.{IsFarthest}
use Rattle.allocator.proofs.Farthest.{farthest_more, farthest_on, farthest_past, first_farthest, from_max, to_max, whole_farthest}
use Rattle.allocator.proofs.reach.farthest_reach.Goals as goal

pub loop-k-init : goal.loop-k-init
loop-k-init c =
    let product = c.choices-k-end.ensures.product in
    let some = c.choices-k-end.ensures.some in
    record {
      farthest = first_farthest
          (question_of c.args.plant.now c.args.regions.now c.args.demand) c.reach_in-best.result
          c.reach_in-best.ensures.choice c.reach_in-best.ensures.reach;
      enough = search rules;
      there = omega (arith, product, some);
      few = let one = ap length (c.push.ensures.items
          ∙ ap (λ (l : List Vec3). l ++ c.reach_in-best.result.exit.cut.w ∷ [])
          c.new-directions.ensures) in omega (arith, one);
    }

pub returns-then-best : goal.returns-then-best
returns-then-best c =
    let count = choices_of (map all_points c.args.regions.now.list.items) in
    let part = c.loop-k.best.part in
    let top_is : to_z w64 (of_z w64 part.top) ≡ part.top = to_z-of_z w64 _ (search rules) in
    let bottom_is : to_z w64 (of_z w64 part.bottom) ≡ part.bottom = to_z-of_z w64 _ (search rules)
    in
    whole_farthest (question_of c.args.plant.now c.args.regions.now c.args.demand) c.loop-k.done
    count c.loop-k.best c.loop-k.invariant.there
    (sym top_is ∙ ap (to_z w64) c.if-best.true ∙ bottom_is) c.loop-k.invariant.farthest

pub loop-k-preserved-then-passed-gt0 : goal.loop-k-preserved-then-passed-gt0
loop-k-preserved-then-passed-gt0 c =
    let enough = c.loop-k.invariant.enough in
    let all = c.if-k-done.false in
    let few = c.loop-k.invariant.few in
    let some = c.if-passed-gt0.true in
    record {
      farthest = farthest_past
          (question_of c.args.plant.now c.args.regions.now c.args.demand) c.loop-k.done
          (c.loop-k.k + c.passed-passed.result) c.loop-k.k c.passed-passed.result c.loop-k.best
          (omega (arith, all)) c.loop-k.invariant.farthest enough (search rules)
          c.passed-passed.ensures.none;
      enough = omega (arith, some);
      there = c.passed-passed.ensures.there;
      few = omega (arith, few);
    }

pub loop-k-preserved : goal.loop-k-preserved
loop-k-preserved c =
    let question = question_of c.args.plant.now c.args.regions.now c.args.demand in
    let k = c.loop-k.k in
    let enough = c.loop-k.invariant.enough in
    let all = c.if-k-done.false in
    let few = c.loop-k.invariant.few in
    let done : c.loop-k.done ≡ k = omega (arith, enough, all) in
    let before : IsFarthest question k c.loop-k.best =
    subst (λ (i : ℕ). IsFarthest question i c.loop-k.best) done c.loop-k.invariant.farthest in
    let after : IsFarthest question (k + 1) c.farther-best.result =
    farthest_more question k c.loop-k.best c.reach_in-reach.result before
    c.reach_in-reach.ensures.reach c.reach_in-reach.ensures.choice c.farther-best.result
    c.farther-best.ensures in
    let product = c.choices-k-end.ensures.product in
    let there = c.loop-k-test.true in
    let some = from_max c.passed_along.result c.max.result c.max.ensures in
    let pushed = ap length c.push-in-loop-k.ensures.items in
    let longer = length_push c.loop-k.directions.items c.reach_in-reach.result.exit.cut.w in
    record {
      farthest = farthest_on question k c.passed_along.result c.max.result c.farther-best.result
          after c.max.ensures c.passed_along.ensures.none;
      enough = omega (arith, some);
      there = to_max k c.passed_along.result c.max.result
          (choices_of (map all_points c.args.regions.now.list.items)) c.max.ensures
          (omega (arith, product, there)) c.passed_along.ensures.there;
      few = omega (arith, few, pushed, longer);
    }
