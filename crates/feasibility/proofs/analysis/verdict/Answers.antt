use Rattle.std.proofs.Common.{subst}
use Rattle.wrench_geometry.specs.declared.vector.Vec3.{Vec3}
use Rattle.certificate.specs.Losses.{demand_of}
use Rattle.certificate.specs.Outcomes.{IsAhead, question_of}
use Rattle.feasibility.proofs.Beyond.{holds_where_feasible, lost_where_not}
use Rattle.feasibility.proofs.Steps.{one_each}
use Rattle.feasibility.proofs.analysis.verdict.Goals as goal

pub returns-clause-holds : goal.returns-clause-holds
returns-clause-holds c =
    let plant = c.args.plant.now in
    let regions = c.args.regions.now in
    let demand = demand_of c.args.demand in
    holds_where_feasible (question_of plant regions demand)
    (one_each plant regions demand c.requires.region_each c.requires.fixed_each) c.judged.result
    (c.judged.ensures.valid demand
    (subst (λ (d : Vec3). IsAhead (question_of plant regions d) c.ahead.result)
    c.vector_of.ensures.value c.ahead.ensures.ahead))

pub returns-clause-lost : goal.returns-clause-lost
returns-clause-lost c =
    let plant = c.args.plant.now in
    let regions = c.args.regions.now in
    let demand = demand_of c.args.demand in
    lost_where_not (question_of plant regions demand)
    (one_each plant regions demand c.requires.region_each c.requires.fixed_each) c.judged.result
    (c.judged.ensures.valid demand
    (subst (λ (d : Vec3). IsAhead (question_of plant regions d) c.ahead.result)
    c.vector_of.ensures.value c.ahead.ensures.ahead))
