use Rattle.std.proofs.Common.{ap, ◌∙◌}
use Rattle.turn_lock.proofs.Pairs.{closes, left_some, left_entries, left_base}
use Rattle.turn_lock.proofs.Seats.{at_rest_free}
use Rattle.turn_lock.proofs.turn.Turn.close.Goals as goal

pub unreachable-requires : goal.unreachable-requires
unreachable-requires g c =
    let at_rest =
    at_rest_free _ _ c.root.invariant.still (ap (λ p. p.holds) c.root.view_is ∙ c.requires.free) in
    left_some g.K.Keeps.entries g.K.Keeps.base_of g.K.Keeps.caller_of c.root.inside.seat.me.0.known
    c.take-last.result
    (closes g.K.Keeps.entries g.K.Keeps.base_of g.K.Keeps.caller_of _ c.root.inside.seat.me.0 _ _
    c.take-last.result at_rest.0
    (ap (λ p. p.caller) c.root.view_is ∙ c.requires.root)
    (ap (λ p. p.away) c.root.view_is ∙ c.requires.alone) c.close_with-closed.ensures.values.2
    c.take-last.ensures.value)
    c.in_default.is

pub returns-clause-entries : goal.returns-clause-entries
returns-clause-entries g c =
    let at_rest =
    at_rest_free _ _ c.root.invariant.still (ap (λ p. p.holds) c.root.view_is ∙ c.requires.free) in
    left_entries g.K.Keeps.entries g.K.Keeps.base_of g.K.Keeps.caller_of
    c.root.inside.seat.me.0.known c.take-last.result c.in-Some.value
    (closes g.K.Keeps.entries g.K.Keeps.base_of g.K.Keeps.caller_of _ c.root.inside.seat.me.0 _ _
    c.take-last.result at_rest.0
    (ap (λ p. p.caller) c.root.view_is ∙ c.requires.root)
    (ap (λ p. p.away) c.root.view_is ∙ c.requires.alone) c.close_with-closed.ensures.values.2
    c.take-last.ensures.value)
    c.in-Some.is ∙ ap (λ p. p.seen) c.root.view_is

pub returns-clause-base : goal.returns-clause-base
returns-clause-base g c =
    let at_rest =
    at_rest_free _ _ c.root.invariant.still (ap (λ p. p.holds) c.root.view_is ∙ c.requires.free) in
    left_base g.K.Keeps.entries g.K.Keeps.base_of g.K.Keeps.caller_of c.root.inside.seat.me.0.known
    c.take-last.result c.in-Some.value
    (closes g.K.Keeps.entries g.K.Keeps.base_of g.K.Keeps.caller_of _ c.root.inside.seat.me.0 _ _
    c.take-last.result at_rest.0
    (ap (λ p. p.caller) c.root.view_is ∙ c.requires.root)
    (ap (λ p. p.away) c.root.view_is ∙ c.requires.alone) c.close_with-closed.ensures.values.2
    c.take-last.ensures.value)
    c.in-Some.is ∙ ap (λ p. p.base) c.root.view_is
