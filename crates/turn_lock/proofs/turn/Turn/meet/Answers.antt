use Rattle.turn_lock.specs.Steps.{met}
use Rattle.turn_lock.proofs.Resting.{rests}
use Rattle.turn_lock.proofs.turn.Turn.meet.Goals as goal

pub invariant_of-pass : goal.invariant_of-pass
invariant_of-pass g c =
    rests g.K.Keeps.entries g.K.Keeps.base_of g.K.Keeps.caller_of c.pass.inside.caller
    c.pass.inside.next c.learn.new.seat.table_id
    (met c.pass.inside.seat.me.0 c.other.inside.seat.me.0, c.pass.inside.seat.me.1)
    c.learn.new.seat.me
    c.learn.ensures.seat c.pass.invariant.same_caller c.pass.invariant.same_next
    c.pass.invariant.still c.learn.ensures.sound

pub returns-clause-sound : goal.returns-clause-sound
returns-clause-sound g c = c.learn.ensures.sound c.learn.new.seat.table_id
