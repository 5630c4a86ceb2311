use Rattle.std.proofs.Common.{◌∙◌, List, ap, subst, map}
use Rattle.thrust_region.specs.Choices.{choice_of}
use Rattle.thrust_region.specs.Pieces.{all_points}
use Rattle.wrench_geometry.specs.Chosen.{images_of, levers_of}
use Rattle.wrench_geometry.specs.declared.vector.Vec3.{Vec3}
use Rattle.exit_point.specs.Exits.{IsExit}
use Rattle.certificate.specs.Outcomes.{question_of}
use Rattle.feasibility.proofs.Steps.{one_each}
use Rattle.allocator.proofs.Duals.{exit_from_0, greatest_in}
use Rattle.allocator.proofs.reach.reach_in.Goals as goal

pub part_of-requires-clause-from_0 : goal.part_of-requires-clause-from_0
part_of-requires-clause-from_0 c =
    exit_from_0 c.sums_of.result c.args.demand c.exit-exit.result c.exit-exit.ensures.exit

pub returns-clause-reach : goal.returns-clause-reach
returns-clause-reach c =
    let plant = c.args.plant.now in
    let regions = c.args.regions.now in
    let d = c.args.demand in
    let levers = levers_of plant in
    let pieces = choice_of (map all_points regions.list.items) c.args.k in
    let exit = c.exit-exit.result in
    let part = c.part_of.ensures.part in
    let exits : IsExit (images_of levers pieces) d exit =
    subst (λ (l : List (List Vec3)). IsExit l d exit)
    (c.sums_of.ensures ∙ ap (images_of levers) c.choice.ensures.pieces) c.exit-exit.ensures.exit in
    record {
      there = c.requires.there;
      exits = exits;
      part = part;
      lowest = c.part_of.ensures.lowest;
      same = c.part_of.ensures.same;
      greatest = greatest_in (question_of plant regions d) c.args.k exit c.part_of.result.top
          c.part_of.result.bottom
          (one_each plant regions d c.requires.region_each c.requires.fixed_each) c.requires.rest
          c.requires.there exits part.bottom_from_1 c.part_of.ensures.same;
    }
