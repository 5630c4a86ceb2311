use Rattle.std.proofs.Common.{ap, sym, subst, ◌∙◌, ◌≡◌, inl, inr}
use Rattle.plant_core.specs.Machine.{state_after}
use Rattle.plant_model.specs.Versions.{Version}
use Rattle.plant_book.specs.Books.{BookShown}
use Rattle.analysis_workers.specs.Sweeps.{state_seen}
use Rattle.analysis_workers.specs.Verdicts.{PublishesVerdict}
use Rattle.analysis_workers.proofs.Swept.{adds-shown, current-is, root-passes}
use Rattle.analysis_workers.proofs.sweeping.sweep_group.Goals as goal

pub returns-then-is_current-clause-swept : goal.returns-then-is_current-clause-swept
returns-then-is_current-clause-swept g c =
    let old = c.args.root.now in
    let mid = c.cells-cells.new.pass in
    let same = root-passes old mid c.requires.root c.requires.alone c.cells-cells.ensures.passes in
    inl (
      same,
      current-is c.args.book.now old mid c.cells-cells.result c.args.group c.is_current.result
          c.requires.of same c.requires.group c.cells-cells.ensures.cells c.is_current.ensures
          ∙ c.if-is_current.true,
    )

pub returns-clause-swept : goal.returns-clause-swept
returns-clause-swept g c =
    let old = c.args.root.now in
    let mid = c.cells-cells.new.pass in
    let late = c.latest-version.new.pass in
    let version : Version = c.latest-version.result in
    let same = root-passes old mid c.requires.root c.requires.alone c.cells-cells.ensures.passes in
    let again : late ≡ old = root-passes mid late
    (ap (λ (p : BookShown). p.shown.caller) same ∙ c.requires.root)
    (ap (λ (p : BookShown). p.shown.away) same ∙ c.requires.alone) c.latest-version.ensures.passes
    ∙ same in
    let unshown = current-is c.args.book.now old mid c.cells-cells.result c.args.group
    c.is_current.result c.requires.of same c.requires.group c.cells-cells.ensures.cells
    c.is_current.ensures ∙ c.if-is_current.false in
    let latest : version ≡ (state_seen old).latest = c.latest-version.ensures.latest
    ∙ (λ i. (state_after (sym c.requires.of.base i).plant (again i).shown.seen).latest) in
    inr (adds-shown old c.publish_verdict.new.pass version c.args.group
    c.in_ok-publish_verdict.field-0 c.requires.root c.requires.alone c.requires.is_open unshown
    latest (subst (λ (p : BookShown). PublishesVerdict p c.publish_verdict.new.pass version
    c.args.group c.in_ok-publish_verdict.field-0) again c.in_ok-publish_verdict.ensures.verdict))
