use Rattle.std.proofs.Common.{rules, ap, sym, ◌∙◌}
use Rattle.turn_lock.proofs.Seats.{at_rest_holding}
use Rattle.turn_lock.proofs.Turns.{serves_at}
use Rattle.turn_lock.proofs.turn.Turn.leave.Goals as goal

pub fetch_add-requires : goal.fetch_add-requires
fetch_add-requires g c =
    let put = c.put.ensures.held in
    let rest = at_rest_holding _ _ c.pass.invariant.still
    (ap (λ p. p.holds) c.pass.view_is ∙ c.requires.holds) in (
      search rules,
      search rules,
      serves_at g.K.Keeps.entries g.K.Keeps.base_of g.K.Keeps.caller_of _ _ c.put.new.seat.me rest.0
          c.args.value c.self.invariant.1
          (ap (λ m. m.0.standing) put ∙ rest.1) (ap (λ m. m.1) put)
          (c.requires.base ∙ sym (ap (λ m. m.0.known.base) put ∙ ap (λ p. p.base) c.pass.view_is))
          (c.requires.entries
          ∙ sym (ap (λ m. m.0.known.seen) put ∙ ap (λ p. p.seen) c.pass.view_is)),
    )
