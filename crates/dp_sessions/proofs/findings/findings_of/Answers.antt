-- The verdicts are those of the plant as it opens.
use Rattle.std.proofs.Common.{subst}
use Rattle.plant_core.specs.Allocations.{IsRight}
use Rattle.plant_model.specs.declared.status.Loss.TheVariants.{Intact}
use Rattle.plant_model.specs.declared.status.Status.{Status}
use Rattle.certificate.specs.Losses.{question_after}
use Rattle.dp_sessions.proofs.Losses.{verdict_at}
use Rattle.dp_sessions.proofs.findings.findings_of.Goals as goal

pub returns : goal.returns
returns c =
    let plant = c.args.plant.now in
    let demand = c.args.demand in
    let status = c.opening-status.result.now in
    let opens = c.opening-status.ensures in
    let answer = c.analyse.ensures in
    record {
      intact = verdict_at plant status demand Intact c.analyse.result opens (record {
        valid = answer.valid;
        lowest = answer.lowest;
        holds = answer.holds;
        lost = answer.lost;
      });
      groups = c.losses_of.ensures;
      allocation = subst
          (λ (s : Status). IsRight (question_after plant s Intact demand) c.allocate.result) opens
          c.allocate.ensures.right;
      lowest = c.allocate.ensures.lowest;
    }
