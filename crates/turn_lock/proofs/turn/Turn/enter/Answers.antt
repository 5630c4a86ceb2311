use Rattle.turn_lock.proofs.Resting.{entered}
use Rattle.turn_lock.proofs.turn.Turn.enter.Goals as goal

pub invariant_of-pass : goal.invariant_of-pass
invariant_of-pass g c =
    entered g.K.Keeps.entries g.K.Keeps.base_of g.K.Keeps.caller_of c.pass.inside.caller
    c.pass.inside.next c.take.new.seat.table_id c.pass.inside.seat.table_id c.pass.inside.seat.me
    c.draw-ticket.new.seat.me
    c.wait_for.new.seat.me c.take.new.seat.me c.wait_for.ensures.turn.0 c.wait_for.ensures.turn.1
    c.draw-ticket.ensures.known c.take.ensures.held c.pass.invariant

pub returns-clause-sound : goal.returns-clause-sound
returns-clause-sound g c =
    (entered g.K.Keeps.entries g.K.Keeps.base_of g.K.Keeps.caller_of c.pass.inside.caller
    c.pass.inside.next c.take.new.seat.table_id c.pass.inside.seat.table_id c.pass.inside.seat.me
    c.draw-ticket.new.seat.me
    c.wait_for.new.seat.me c.take.new.seat.me c.wait_for.ensures.turn.0 c.wait_for.ensures.turn.1
    c.draw-ticket.ensures.known c.take.ensures.held c.pass.invariant).sound
