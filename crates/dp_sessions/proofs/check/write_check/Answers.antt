-- The text is that of findings that are right.
use Rattle.std.proofs.Common.{◌∙◌}
use Rattle.dp_sessions.specs.Checks.{TellsFindings}
use Rattle.dp_sessions.proofs.Losses.{so}
use Rattle.dp_sessions.proofs.check.write_check.Goals as goal

pub returns-in_err-send_lines-clause-cut : goal.returns-in_err-send_lines-clause-cut
returns-in_err-send_lines-clause-cut g c = λ e.
    let text = c.as_bytes.result.now in
    let told : TellsFindings c.args.plant.now c.args.demand c.args.json text = record {
      findings = c.findings_of-findings.result;
      right = c.findings_of-findings.ensures;
      is = c.as_bytes.ensures.value ∙ c.in_ok-text.ensures;
    } in
    let part = c.in_err-send_lines.ensures.part in
    (text, told, (part.0, part.2))

pub returns-clause-found : goal.returns-clause-found
returns-clause-found g c =
    let text = c.as_bytes.result.now in
    let right = c.findings_of-findings.ensures in
    let told : TellsFindings c.args.plant.now c.args.demand c.args.json text = record {
      findings = c.findings_of-findings.result;
      right = right;
      is = c.as_bytes.ensures.value ∙ c.in_ok-text.ensures;
    } in (
      (text, told, c.in_ok-send_lines.ensures.whole),
      so c.args.plant.now c.args.demand c.findings_of-findings.result c.has_lost.result right
          c.has_lost.ensures,
    )
