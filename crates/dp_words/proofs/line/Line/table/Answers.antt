-- A table of the controller has a name of its own.
use Rattle.std.proofs.Common.{append_assoc, codes}
use Rattle.plant_file.specs.Texts.{axis_text}
use Rattle.dp_words.proofs.line.Line.table.Goals as goal

pub returns-in-Controller-clause-text : goal.returns-in-Controller-clause-text
returns-in-Controller-clause-text c =
    rw (
      c.in-Controller.is,
      c.text-in-Controller-2.ensures,
      c.text-in-Controller.ensures,
      c.axis_text.ensures.text,
    )
    (append_assoc c.args.self (codes "controller.") (axis_text c.args.index))
