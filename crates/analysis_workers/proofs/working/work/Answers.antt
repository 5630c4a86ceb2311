use Rattle.std.proofs.Common.{sym, subst}
use Rattle.std.specs.Prelude.{Result}
use Rattle.std.proofs.lemmas.Result.{err_from_is_err_and}
use Rattle.no_memory.specs.declared.NoMemory.{NoMemory}
use Rattle.analysis_jobs.specs.declared.job.Job.{Job}
use Rattle.analysis_jobs.specs.declared.job.Job.TheVariants.{Analyse}
use Rattle.analysis_workers.specs.Works.{Works, worker}
use Rattle.analysis_workers.proofs.Worked.{worked-fail, worked-more, worked-none}
use Rattle.analysis_workers.proofs.working.work.Goals as goal

pub loop-init : goal.loop-init
loop-init g c = record {
  so_far = worked-none (worker c.args.pass.now c.args.own.now c.args.eyes.now)
      c.caller-caller.ensures.rest;
  pass = c.requires.pass;
  own = c.requires.own;
  eyes = c.requires.eyes;
}

pub loop-preserved : goal.loop-preserved
loop-preserved g c =
    let old = worker c.args.pass.now c.args.own.now c.args.eyes.now in
    let mid = worker c.loop.pass c.loop.own c.loop.eyes in
    let new = worker c.work_on.new.pass c.next_job.new.own c.work_on.new.eyes in
    let job : Job = Analyse c.in-Analyse.version c.in-Analyse.group in record {
      so_far = worked-more old mid new job c.in_ok-work_on-in-Analyse.field-0
          c.loop.invariant.so_far c.in-Analyse.ensures.taken
          c.in_ok-work_on-in-Analyse.ensures.works;
      pass = c.work_on.ensures.pass;
      own = c.next_job.ensures.own;
      eyes = c.work_on.ensures.eyes;
    }

pub returns-in_err-work_on-in-Analyse-clause-works :
    goal.returns-in_err-work_on-in-Analyse-clause-works
returns-in_err-work_on-in-Analyse-clause-works g c =
    let old = worker c.args.pass.now c.args.own.now c.args.eyes.now in
    let mid = worker c.loop.pass c.loop.own c.loop.eyes in
    let new = worker c.work_on.new.pass c.next_job.new.own c.work_on.new.eyes in
    let job : Job = Analyse c.in-Analyse.version c.in-Analyse.group in
    let failed = err_from_is_err_and c.from_residual.result c.from_residual.ensures.1 in
    subst (λ (answer : Result (Unit {0}) NoMemory).
    Works {A = Unit {0}} {E = NoMemory} old new answer) (sym failed.1)
    (worked-fail old mid new job c.in_err-work_on-in-Analyse.field-0.0 failed.0 tt
    c.loop.invariant.so_far c.in-Analyse.ensures.taken c.in_err-work_on-in-Analyse.ensures.works)
