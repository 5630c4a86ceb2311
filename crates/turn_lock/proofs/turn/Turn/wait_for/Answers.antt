use Rattle.std.proofs.Common.{rules, ap, sym, subst, ◌∙◌}
use Rattle.turn_lock.specs.Steps.{IsWaiting}
use Rattle.turn_lock.specs.declared.view.Standing.{Standing}
use Rattle.turn_lock.proofs.Turns.{looks_at}
use Rattle.turn_lock.proofs.turn.Turn.wait_for.Goals as goal

pub load-turn-requires : goal.load-turn-requires
load-turn-requires g c = let same = c.loop.invariant.1 in (
  search rules,
  search rules,
  looks_at g.K.Keeps.entries g.K.Keeps.base_of g.K.Keeps.caller_of _ _ c.args.ticket c.loop.seat.me
      (subst (λ (s : Standing). IsWaiting c.args.ticket s) (ap (λ m. m.0.standing) (sym same))
      c.requires.ticket) (ap (λ m. m.1) same ∙ c.requires.held),
)
