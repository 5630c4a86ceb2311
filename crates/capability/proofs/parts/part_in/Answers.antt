use Rattle.std.proofs.Common.{◌≡◌, ◌∙◌, ℤ, pos, ◌*ℤ◌, ◌≤ℤ◌, List, ap, sym, subst, map, rules, to_z, of_z}
use Rattle.std.proofs.Common.{w64}
use Rattle.std.proofs.lemmas.Int.{to_z-of_z}
use Rattle.dp_num.specs.Fractions.{SameQuotient}
use Rattle.thrust_region.specs.Choices.{choice_of}
use Rattle.thrust_region.specs.Pieces.{all_points}
use Rattle.wrench_geometry.specs.Chosen.{images_of, levers_of}
use Rattle.wrench_geometry.specs.declared.vector.Vec3.{Vec3}
use Rattle.exit_point.specs.Exits.{IsExit}
use Rattle.certificate.specs.Outcomes.{question_of}
use Rattle.feasibility.proofs.Steps.{one_each}
use Rattle.capability.proofs.Exits.{exit_from_0, exit_gives, exit_is_most}
use Rattle.capability.proofs.parts.part_in.Goals as goal

pub reduce-requires-clause-top_from_0 : goal.reduce-requires-clause-top_from_0
reduce-requires-clause-top_from_0 c =
    let t = c.exit-exit.result.t in
    let t_is : to_z w64 (of_z w64 t) ≡ t = to_z-of_z w64 _ (search rules) in
    subst (λ (z : ℤ). pos 0 ≤ℤ z) (sym t_is)
    (exit_from_0 c.sums_of.result c.args.demand c.exit-exit.result c.exit-exit.ensures.exit)

pub returns : goal.returns
returns c =
    let plant = c.args.plant.now in
    let regions = c.args.regions.now in
    let d = c.args.demand in
    let k = c.args.k in
    let levers = levers_of plant in
    let pieces = choice_of (map all_points regions.list.items) k in
    let exit = c.exit-exit.result in
    let part = c.reduce.result in
    let question = question_of plant regions d in
    let one = one_each plant regions d c.requires.region_each c.requires.fixed_each in
    let exits : IsExit (images_of levers pieces) d exit =
    subst (λ (l : List (List Vec3)). IsExit l d exit)
    (c.sums_of.ensures ∙ ap (images_of levers) c.choice.ensures.pieces) c.exit-exit.ensures.exit in
    let t_is : to_z w64 (of_z w64 exit.t) ≡ exit.t = to_z-of_z w64 _ (search rules) in
    let q_is : to_z w64 (of_z w64 exit.q) ≡ exit.q = to_z-of_z w64 _ (search rules) in
    let same : SameQuotient part.top part.bottom exit.t exit.q =
    ap (λ (z : ℤ). part.top *ℤ z) (sym q_is) ∙ c.reduce.ensures.same
    ∙ ap (λ (z : ℤ). z *ℤ part.bottom) t_is in
    record {
      lowest = c.reduce.ensures.lowest;
      gives = exit_gives question k exit part.top part.bottom one c.requires.rest c.requires.there
          exits same;
      most = exit_is_most question k exit part.top part.bottom one c.requires.rest c.requires.there
          exits same part.bottom_from_1;
    }
