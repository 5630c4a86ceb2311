use Rattle.std.proofs.Common.{rules, refl, ap, arith, ◌∙◌}
use Rattle.turn_lock.proofs.Pairs.{splits}
use Rattle.turn_lock.proofs.Resting.{new_rests}
use Rattle.turn_lock.proofs.Seats.{at_rest_free}
use Rattle.turn_lock.proofs.turn.Turn.split.Goals as goal

pub split_seat-seat-requires : goal.split_seat-seat-requires
split_seat-seat-requires g c =
    let at_rest =
    at_rest_free _ _ c.root.invariant.still (ap (λ p. p.holds) c.root.view_is ∙ c.requires.free) in
    let next = ap (λ p. p.next) c.root.view_is in
    let room = c.requires.room in (
      search rules,
      search rules,
      splits g.K.Keeps.entries g.K.Keeps.base_of g.K.Keeps.caller_of _ c.root.inside.seat.me.0
          at_rest.0 (ap (λ p. p.caller) c.root.view_is ∙ c.requires.root) (omega arith),
    )

pub invariant_of-result : goal.invariant_of-result
invariant_of-result g c =
    new_rests g.K.Keeps.entries g.K.Keeps.base_of g.K.Keeps.caller_of c.root.inside.next 0
    c.split_seat-seat.result.table_id c.root.inside.seat.table_id c.root.inside.seat.me.0
    c.split_seat-seat.result.me
    c.split_seat-seat.ensures.4 (ap (λ p. p.caller) c.root.view_is ∙ c.requires.root)
    c.root.invariant.sound c.root.invariant.same_next refl

pub returns-clause-pass_sound : goal.returns-clause-pass_sound
returns-clause-pass_sound g c =
    (new_rests g.K.Keeps.entries g.K.Keeps.base_of g.K.Keeps.caller_of c.root.inside.next 0
    c.split_seat-seat.result.table_id c.root.inside.seat.table_id c.root.inside.seat.me.0
    c.split_seat-seat.result.me
    c.split_seat-seat.ensures.4 (ap (λ p. p.caller) c.root.view_is ∙ c.requires.root)
    c.root.invariant.sound c.root.invariant.same_next refl).sound
