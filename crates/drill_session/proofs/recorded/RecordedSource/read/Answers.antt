-- The bytes given are those that the source moved past.
use Rattle.std.proofs.Common.{refl, arith}
use Rattle.std.proofs.lemmas.Grind.{common_steps}
use Rattle.dp_io.proofs.Fronts.{left-moved}
use Rattle.drill_session.proofs.recorded.RecordedSource.read.Goals as goal

pub returns-clause-moved : goal.returns-clause-moved
returns-clause-moved c =
    let copied = c.copy_from_slice.ensures.after in
    let all_bytes = c.deref.ensures.value in
    let moved = left-moved c.self.inside.bytes.items c.args.into.now c.copy_from_slice.new.self
    c.self.inside.given c.min-count.result (cc) (grind (arith, common_steps)) in
    rw (← c.self.view_is) (_, refl, moved)
