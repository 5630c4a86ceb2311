use Rattle.analysis_jobs.specs.Passes.{hand_of}
use Rattle.analysis_jobs.proofs.Balance.{forks}
use Rattle.analysis_jobs.proofs.jobs.Jobs.pass.Goals as goal

pub another-pass-requires-clause-rule : goal.another-pass-requires-clause-rule
another-pass-requires-clause-rule c =
    forks c.own.inside.pass.id (hand_of c.own.inside.pass)
