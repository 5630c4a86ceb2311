use Rattle.std.proofs.Common.{◌≡◌, ◌∙◌, inr, subst, ◌+◌, ◌≤ℤ◌, ◌<ℤ◌, ◌*ℤ◌, pos, map, ℤ, arith}
use Rattle.std.proofs.Common.{rules, to_z, of_z, w64}
use Rattle.std.specs.Int.{w128}
use Rattle.std.proofs.lemmas.Int.{ints, to_z-of_z}
use Rattle.thrust_region.specs.Choices.{choice_of}
use Rattle.thrust_region.specs.Pieces.{all_points}
use Rattle.wrench_geometry.specs.Chosen.{images_of, levers_of}
use Rattle.wrench_geometry.specs.Vectors.{dot_of, support_of}
use Rattle.wrench_geometry.specs.declared.vector.TheConstants.{MOST_PLAIN}
use Rattle.wrench_geometry.proofs.Bounds.{wider}
use Rattle.certificate.specs.Outcomes.{question_of}
use Rattle.feasibility.proofs.Steps.{one_each}
use Rattle.allocator.proofs.Duals.{greatest_within}
use Rattle.allocator.proofs.passing.passed_along.Goals as goal

pub dot-along-requires : goal.dot-along-requires
dot-along-requires c =
    inr (wider MOST_PLAIN MOST_PLAIN (omega (arith, ints)) (omega (arith, ints)) c.requires.demand)

pub returns-clause-none : goal.returns-clause-none
returns-clause-none c m below =
    let plant = c.args.plant.now in
    let regions = c.args.regions.now in
    let d = c.args.demand in
    let w = c.args.w in
    let lists = map all_points regions.list.items in
    let part = c.args.part in
    let along : to_z w128 (of_z w128 c.dot-along.result) ≡ dot_of w d =
    to_z-of_z w128 _ (search rules) ∙ c.dot-along.ensures in
    let short : to_z w64 (of_z w64 (to_z w128 (of_z w128 c.dot-along.result)))
    ≡ to_z w128 (of_z w128 c.dot-along.result) = to_z-of_z w64 _ (search rules) in
    let past : to_z w128 (of_z w128 c.past.result) ≡ c.past.result =
    to_z-of_z w128 _ (search rules) in
    let s = support_of (images_of (levers_of plant) (choice_of lists (c.args.k + m))) w in
    let most : (s *ℤ part.bottom) ≤ℤ (part.top *ℤ dot_of w d) =
    subst (λ (z : ℤ). (s *ℤ part.bottom) ≤ℤ (part.top *ℤ z)) (short ∙ along)
    (c.past.ensures s (subst (λ (z : ℤ). s <ℤ z) past (c.cut_off_from.ensures.short m below))) in
    let ahead : pos 1 ≤ℤ dot_of w d =
    subst (λ (z : ℤ). pos 1 ≤ℤ z) along (omega (arith, ints, c.if-along-lt1.false)) in
    greatest_within (question_of plant regions d) (c.args.k + m) w part.top part.bottom
    (one_each plant regions d c.requires.region_each c.requires.fixed_each) c.requires.rest
    (let all = c.cut_off_from.ensures.there in omega (arith, all, below)) part.bottom_from_1 ahead
    most
