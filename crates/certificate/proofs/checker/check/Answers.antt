use Rattle.std.proofs.Common.{◌≡◌, ap, length, subst, arith}
use Rattle.std.proofs.lemmas.List.{length-map}
use Rattle.std.proofs.lemmas.Result.{on_ok_weaker}
use Rattle.plant_model.specs.declared.parts.Thruster.{Thruster}
use Rattle.thrust_region.specs.Pieces.{all_points}
use Rattle.certificate.specs.Losses.{demand_of, question_after}
use Rattle.certificate.specs.Outcomes.{IsOneEach, IsValid, Question, question_of}
use Rattle.certificate.proofs.Shown.{valid_shows}
use Rattle.certificate.proofs.checker.check.Goals as goal

pub returns-clause-shown : goal.returns-clause-shown
returns-clause-shown c =
    let plant = c.args.plant.now in
    let regions = c.surviving.result in
    let question = question_after plant c.args.status.now c.args.loss c.args.demand in
    let levers = length-map plant.thrusters.items (λ (t : Thruster). t.lever) in
    let one_each : IsOneEach question = record {
      regions = omega (
        arith,
        levers,
        length-map regions.list.items all_points,
        ap length c.surviving.ensures.list,
        c.surviving.ensures.one_list_each,
      );
      fixed = omega (
        arith,
        levers,
        ap length c.surviving.ensures.fixed,
        c.surviving.ensures.one_fixed_each,
      );
    } in
    let same : question_of plant regions (demand_of c.args.demand) ≡ question = λ i. record {
      levers = question.levers;
      regions = c.surviving.ensures.list i;
      fixed = c.surviving.ensures.fixed i;
      demand = demand_of c.args.demand;
    } in
    on_ok_weaker c.judge.result
    (λ valid. valid_shows question one_each c.args.outcome.now
    (subst (λ (x : Question). IsValid x c.args.outcome.now) same valid))
    c.judge.ensures.ok
