use Rattle.std.proofs.Common.{ap, sym, subst, ◌∙◌}
use Rattle.plant_model.specs.Versions.{Version}
use Rattle.plant_model.specs.declared.plant.Parts.{Parts}
use Rattle.plant_book.specs.declared.base.BookBase.{BookBase}
use Rattle.analysis_workers.specs.Verdicts.{IsValidFor}
use Rattle.analysis_workers.proofs.Worked.{publishes}
use Rattle.analysis_workers.proofs.verdict.publish_verdict.Goals as goal

pub returns-clause-verdict : goal.returns-clause-verdict
returns-clause-verdict g c =
    let outcome = c.analyse-outcome.result in
    let seen : Version = record {
      number = c.version.inside.number;
      status = c.version.inside.status;
      demand = c.version.inside.demand;
    } in
    publishes c.publish.result c.args.pass.now c.publish.new.pass c.args.version seen c.args.group
    outcome c.version.view_is
    (subst (λ (p : Parts). IsValidFor p seen c.args.group outcome)
    (c.plant.ensures ∙ sym (ap (λ (b : BookBase). b.plant) c.requires.of.base))
    c.analyse-outcome.ensures.valid)
    c.publish.ensures.served
