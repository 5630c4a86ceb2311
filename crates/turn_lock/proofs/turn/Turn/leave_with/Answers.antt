use Rattle.std.proofs.Common.{rules, ◌++◌, ◌∷◌, [], refl, ap, sym, ◌∙◌}
use Rattle.turn_lock.specs.Steps.{served_with}
use Rattle.turn_lock.proofs.Resting.{rests}
use Rattle.turn_lock.proofs.Seats.{at_rest_holding}
use Rattle.turn_lock.proofs.Turns.{serves_entry_at}
use Rattle.turn_lock.proofs.turn.Turn.leave_with.Goals as goal

pub fetch_add-requires : goal.fetch_add-requires
fetch_add-requires g c =
    let put = c.put.ensures.held in
    let rest = at_rest_holding _ _ c.pass.invariant.still
    (ap (λ p. p.holds) c.pass.view_is ∙ c.requires.holds) in
    let caller = ap (λ m. m.0.known.caller) put ∙ ap (λ p. p.caller) c.pass.view_is in
    let seen = ap (λ m. m.0.known.seen) put ∙ ap (λ p. p.seen) c.pass.view_is in
    let adds = c.requires.entry in (
      search rules,
      search rules,
      serves_entry_at g.K.Keeps.entries g.K.Keeps.base_of g.K.Keeps.caller_of _ _ c.put.new.seat.me
          rest.0 c.args.value c.self.invariant.1
          (ap (λ m. m.0.standing) put ∙ rest.1) (ap (λ m. m.1) put)
          (c.requires.base ∙ sym (ap (λ m. m.0.known.base) put ∙ ap (λ p. p.base) c.pass.view_is))
          record {
            entry = adds.entry;
            list = adds.list ∙ ap (λ l. l ++ adds.entry ∷ []) (sym seen);
            own = adds.own ∙ sym caller;
          },
    )

pub invariant_of-pass : goal.invariant_of-pass
invariant_of-pass g c =
    let put = c.put.ensures.held in
    let serve = c.fetch_add.ensures.2 in
    rests g.K.Keeps.entries g.K.Keeps.base_of g.K.Keeps.caller_of c.pass.inside.caller
    c.pass.inside.next c.fetch_add.new.seat.table_id
    (served_with g.K.Keeps.caller_of c.put.new.seat.me.0 (g.K.Keeps.entries c.args.value), [])
    c.fetch_add.new.seat.me
    (serve.seat c.args.value (ap (λ m. m.1) put))
    (ap (λ m. m.0.known.caller) put ∙ c.pass.invariant.same_caller)
    (ap (λ m. m.0.known.next) put ∙ c.pass.invariant.same_next) refl serve.sound

pub returns-clause-sound : goal.returns-clause-sound
returns-clause-sound g c =
    let put = c.put.ensures.held in
    let serve = c.fetch_add.ensures.2 in
    (rests g.K.Keeps.entries g.K.Keeps.base_of g.K.Keeps.caller_of c.pass.inside.caller
    c.pass.inside.next c.fetch_add.new.seat.table_id
    (served_with g.K.Keeps.caller_of c.put.new.seat.me.0 (g.K.Keeps.entries c.args.value), [])
    c.fetch_add.new.seat.me
    (serve.seat c.args.value (ap (λ m. m.1) put))
    (ap (λ m. m.0.known.caller) put ∙ c.pass.invariant.same_caller)
    (ap (λ m. m.0.known.next) put ∙ c.pass.invariant.same_next) refl serve.sound).sound
