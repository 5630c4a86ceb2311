use Rattle.std.proofs.Common.{ap, ◌∙◌}
use Rattle.turn_lock.specs.Steps.{joined}
use Rattle.turn_lock.proofs.Resting.{rests, fewer}
use Rattle.turn_lock.proofs.turn.Turn.join.Goals as goal

pub invariant_of-root : goal.invariant_of-root
invariant_of-root g c =
    rests g.K.Keeps.entries g.K.Keeps.base_of g.K.Keeps.caller_of c.root.inside.caller
    c.root.inside.next c.take_back.new.root.table_id
    (joined c.root.inside.seat.me.0 c.other.inside.seat.me.0, c.root.inside.seat.me.1)
    c.take_back.new.root.me
    c.take_back.ensures.root c.root.invariant.same_caller c.root.invariant.same_next
    c.root.invariant.still c.take_back.ensures.sound

pub returns-clause-sound : goal.returns-clause-sound
returns-clause-sound g c = c.take_back.ensures.sound c.take_back.new.root.table_id

pub returns-clause-fewer : goal.returns-clause-fewer
returns-clause-fewer g c =
    fewer g.K.Keeps.caller_of c.root.inside.seat.table_id c.root.inside.seat.me.0
    c.other.inside.seat.me.0 c.take_back.new.root.me.0
    (ap (λ p. p.caller) c.root.view_is ∙ c.requires.root)
    c.root.invariant.sound (ap (λ m. m.0) c.take_back.ensures.root)
    (c.take_back.ensures.sound c.root.inside.seat.table_id) ∙ ap (λ p. p.away) c.root.view_is
