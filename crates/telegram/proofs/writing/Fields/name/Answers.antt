-- The bytes of a name are those of bodies.
use Rattle.telegram.proofs.TextBytes.{plain-name}
use Rattle.telegram.proofs.writing.Fields.name.Goals as goal

pub field-requires-clause-bytes : goal.field-requires-clause-bytes
field-requires-clause-bytes c =
    rw c.as_str.ensures.value (plain-name c.args.name.now c.as_str.ensures.named).body
