use Rattle.std.proofs.Common.{◌≡◌, subst}
use Rattle.wrench_geometry.specs.Chosen.{levers_of}
use Rattle.certificate.specs.Losses.{demand_of, question_after}
use Rattle.certificate.specs.Outcomes.{Question, question_of}
use Rattle.feasibility.specs.First.{IsByFirst}
use Rattle.feasibility.proofs.analysis.analyse.Goals as goal

pub returns-clause-first : goal.returns-clause-first
returns-clause-first c =
    let plant = c.args.plant.now in
    let same : question_of plant c.surviving.result (demand_of c.args.demand)
    ≡ question_after plant c.args.status.now c.args.loss c.args.demand =
    λ i. record {
      levers = levers_of plant;
      regions = c.surviving.ensures.list i;
      fixed = c.surviving.ensures.fixed i;
      demand = demand_of c.args.demand;
    } in
    subst (λ (q : Question). IsByFirst q c.verdict.result) same c.verdict.ensures.first
