use Rattle.analysis_jobs.specs.Passes.{hand_of}
use Rattle.analysis_jobs.proofs.Balance.{learns, takes}
use Rattle.analysis_jobs.proofs.jobs.Jobs.take.Goals as goal

pub pop_as-requires-clause-rule : goal.pop_as-requires-clause-rule
pop_as-requires-clause-rule g c =
    let seat = c.pass.inside.pass.id in
    let hand = hand_of c.pass.inside.pass in (takes seat hand, learns seat hand)
