-- One verdict more.
use Rattle.dp_sessions.proofs.Losses.{one_verdict_more, verdict_at}
use Rattle.plant_model.specs.declared.status.Loss.TheVariants.{Group}
use Rattle.dp_sessions.proofs.findings.losses_of.Goals as goal

pub loop-number-preserved : goal.loop-number-preserved
loop-number-preserved c =
    let answer = c.analyse.ensures in
    let plant = c.args.plant.now in
    let number = c.loop-number.number in
    let verdict = verdict_at plant c.opening.result.now c.args.demand (Group number)
    c.analyse.result c.opening.ensures (record {
      valid = answer.valid;
      lowest = answer.lowest;
      holds = answer.holds;
      lost = answer.lost;
    }) in
    one_verdict_more plant c.args.demand number c.loop-number.outcomes.items c.push.new.self.items
    c.analyse.result c.push.ensures.items verdict c.loop-number.invariant
