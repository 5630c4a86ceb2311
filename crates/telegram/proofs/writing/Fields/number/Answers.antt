-- The bytes of a number are those of bodies.
use Rattle.std.proofs.Common.{w64}
use Rattle.std.proofs.lemmas.Int.{to_z-of_z}
use Rattle.telegram.proofs.TextBytes.{plain-fitting}
use Rattle.telegram.proofs.writing.Fields.number.Goals as goal

pub field-requires-clause-bytes : goal.field-requires-clause-bytes
field-requires-clause-bytes c =
    rw (c.format.ensures.text, to_z-of_z w64 c.args.number c.ranges.number)
    (plain-fitting c.args.number c.ranges.number).body
