use Rattle.std.proofs.Common.{sym, subst}
use Rattle.std.specs.Prelude.{Result}
use Rattle.std.proofs.lemmas.Result.{err_from_is_err_and}
use Rattle.no_memory.specs.declared.NoMemory.{NoMemory}
use Rattle.plant_model.specs.Versions.{Version}
use Rattle.analysis_jobs.specs.declared.job.Job.TheVariants.{Analyse}
use Rattle.analysis_workers.specs.Works.{IsSkipped, WorksOn}
use Rattle.analysis_workers.proofs.Worked.{works-fail, works-skip, works-verdict}
use Rattle.analysis_workers.proofs.working.work_on.Goals as goal

pub returns-then-is_skipped-clause-works : goal.returns-then-is_skipped-clause-works
returns-then-is_skipped-clause-works g c =
    works-skip c.args.book.now c.args.pass.now c.args.eyes.now c.is_skipped.new.eyes c.args.version
    c.args.group tt c.requires.pass c.is_skipped.ensures.looked c.is_skipped.ensures.legal
    c.caller-caller.ensures.rest
    (subst (λ (v : Version). IsSkipped c.args.book.now.base.plant c.is_skipped.new.eyes.seen
    v.number c.args.group) c.version.view_is c.if-is_skipped.ensures.skipped)

pub returns-in_err-publish_verdict-clause-works : goal.returns-in_err-publish_verdict-clause-works
returns-in_err-publish_verdict-clause-works g c =
    let failed = err_from_is_err_and c.from_residual.result c.from_residual.ensures.1 in
    subst (λ (answer : Result (Unit {0}) NoMemory).
    WorksOn {A = Unit {0}} {E = NoMemory} c.args.pass.now c.publish_verdict.new.pass
    c.args.eyes.now c.is_skipped.new.eyes (Analyse c.args.version c.args.group) answer)
    (sym failed.1)
    (works-fail c.args.book.now c.args.pass.now c.publish_verdict.new.pass c.args.eyes.now
    c.is_skipped.new.eyes (Analyse c.args.version c.args.group) failed.0 c.requires.pass
    c.is_skipped.ensures.looked c.is_skipped.ensures.legal
    c.in_err-publish_verdict.ensures.kept)

pub returns-clause-works : goal.returns-clause-works
returns-clause-works g c =
    works-verdict c.args.book.now c.args.pass.now c.publish_verdict.new.pass c.args.eyes.now
    c.is_skipped.new.eyes c.args.version c.args.group c.in_ok-publish_verdict.field-0 tt
    c.requires.pass c.is_skipped.ensures.looked c.is_skipped.ensures.legal
    c.in_ok-publish_verdict.ensures.verdict
