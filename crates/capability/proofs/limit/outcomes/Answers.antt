use Rattle.certificate.specs.Losses.{question_after}
use Rattle.capability.specs.Limits.{IsAnswer}
use Rattle.capability.proofs.Limits.{one_outcome_more}
use Rattle.capability.proofs.limit.outcomes.Goals as goal

pub loop-group-preserved : goal.loop-group-preserved
loop-group-preserved c =
    let answer = c.analyse-in-loop-group in
    one_outcome_more
    (λ loss. IsAnswer (question_after c.args.plant.now c.args.status.now loss c.args.demand))
    c.loop-group.group c.loop-group.outcomes.items c.push-in-loop-group.new.self.items answer.result
    c.push-in-loop-group.ensures.items (record {
      valid = answer.ensures.valid;
      holds = answer.ensures.holds;
    }) c.loop-group.invariant
