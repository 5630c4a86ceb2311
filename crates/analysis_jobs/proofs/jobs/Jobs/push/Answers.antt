use Rattle.crossbeam_queue.specs.Passes.{ruled_capacity}
use Rattle.analysis_jobs.specs.Passes.{hand_of}
use Rattle.analysis_jobs.proofs.Balance.{learns, pushes}
use Rattle.analysis_jobs.proofs.jobs.Jobs.push.Goals as goal

pub push_as-requires-clause-rule : goal.push_as-requires-clause-rule
push_as-requires-clause-rule g c =
    let seat = c.pass.inside.pass.id in
    let hand = hand_of c.pass.inside.pass in (
      pushes (ruled_capacity c.self.inside.queue) seat hand c.args.job,
      learns seat hand,
    )
