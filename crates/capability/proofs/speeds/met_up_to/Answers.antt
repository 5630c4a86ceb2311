use Rattle.std.proofs.Common.{◌≡◌, subst}
use Rattle.plant_model.specs.declared.wrench.Wrench.{Wrench}
use Rattle.wrench_geometry.specs.Chosen.{levers_of}
use Rattle.certificate.specs.Losses.{demand_of, question_after}
use Rattle.certificate.specs.Outcomes.{Question, question_of}
use Rattle.capability.specs.Paths.{IsMetUpTo}
use Rattle.capability.proofs.speeds.met_up_to.Goals as goal

pub returns : goal.returns
returns c =
    let plant = c.args.plant.now in
    let same : (λ (d : Wrench). question_of plant c.surviving.result (demand_of d))
    ≡ question_after plant c.args.status.now c.args.loss =
    λ i. λ d. record {
      levers = levers_of plant;
      regions = c.surviving.ensures.list i;
      fixed = c.surviving.ensures.fixed i;
      demand = demand_of d;
    } in
    subst (λ (ask : Wrench → Question). IsMetUpTo ask c.args.path.now c.first_unmet.result) same
    c.first_unmet.ensures
