-- Another first line than a log's.
use Rattle.std.proofs.Common.{◌∙◌, ap, sym}
use Rattle.log_audit.specs.Lines.{head_line}
use Rattle.log_audit.proofs.Readings.{opens_bad}
use Rattle.log_audit.proofs.log.opened.Goals as goal

pub returns-else-is_head : goal.returns-else-is_head
returns-else-is_head c =
    opens_bad c.args.core.now c.requires.read c.args.line.now c.requires.feed
    (λ same. let yes = c.if-is_head.ensures.1 (same ∙ ap head_line (sym c.plant.ensures)) in
    absurd (cc))
