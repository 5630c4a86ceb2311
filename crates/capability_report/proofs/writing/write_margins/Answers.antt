-- The text is that of right margins.
use Rattle.capability_report.specs.Texts.{margin_lines}
use Rattle.capability_report.proofs.writing.write_margins.Goals as goal

pub returns : goal.returns
returns g c =
    let margins = c.margins_of-margins.result in
    record {
      margins = margins;
      are = c.margins_of-margins.ensures;
      ends = c.send_text.ensures (margin_lines c.args.plant.now c.args.demand margins)
          c.margin_lines.ensures;
    }
