use Rattle.std.proofs.Common.{◌≡◌, subst}
use Rattle.wrench_geometry.specs.Chosen.{levers_of}
use Rattle.certificate.specs.Losses.{question_after}
use Rattle.certificate.specs.Outcomes.{Question, question_of}
use Rattle.capability.specs.Reserves.{IsMargin}
use Rattle.capability.proofs.parts.reserve.Goals as goal

pub returns : goal.returns
returns c =
    let plant = c.args.plant.now in
    let same : question_of plant c.surviving.result c.vector_of.result
    ≡ question_after plant c.args.status.now c.args.loss c.args.demand =
    λ i. record {
      levers = levers_of plant;
      regions = c.surviving.ensures.list i;
      fixed = c.surviving.ensures.fixed i;
      demand = c.vector_of.ensures.value i;
    } in
    subst (λ (q : Question). IsMargin q c.margin_of.result) same c.margin_of.ensures
