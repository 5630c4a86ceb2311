use Rattle.std.proofs.Common.{◌≡◌, ℕ, subst, map, arith}
use Rattle.thrust_region.specs.Choices.{choices_of}
use Rattle.thrust_region.specs.Pieces.{all_points}
use Rattle.certificate.specs.Outcomes.{question_of}
use Rattle.capability.specs.Reserves.{IsGreatestBelow}
use Rattle.capability.proofs.Greatest.{first_greatest, greatest_more}
use Rattle.capability.proofs.parts.greatest_part.Goals as goal

pub loop-k-init : goal.loop-k-init
loop-k-init c =
    first_greatest (question_of c.args.plant.now c.args.regions.now c.args.demand)
    c.part_in-greatest.result c.part_in-greatest.ensures

pub loop-k-preserved : goal.loop-k-preserved
loop-k-preserved c =
    greatest_more (question_of c.args.plant.now c.args.regions.now c.args.demand) c.loop-k.k
    c.loop-k.greatest c.part_in.result c.loop-k.invariant c.part_in.ensures
    c.greater-greatest.result c.greater-greatest.ensures

pub returns : goal.returns
returns c =
    let count = choices_of (map all_points c.args.regions.now.list.items) in
    let all : c.loop-k.k ≡ count = omega (
      arith,
      c.choices-k-end.ensures.product,
      c.choices-k-end.ensures.some,
      c.loop-k-test.false,
      c.loop-k.auto.k-end c.choices-k-end.ensures.some,
    ) in
    subst (λ (n : ℕ).
    IsGreatestBelow (question_of c.args.plant.now c.args.regions.now c.args.demand) n
    c.loop-k.greatest) all c.loop-k.invariant
