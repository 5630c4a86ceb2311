use Rattle.std.proofs.Common.{rules, ap, sym, subst, ◌∙◌}
use Rattle.turn_lock.specs.Steps.{ShowsSound}
use Rattle.turn_lock.proofs.Pairs.{copies, meets}
use Rattle.turn_lock.proofs.Turns.{compares_at}
use Rattle.turn_lock.proofs.turn.Turn.learn.Goals as goal

pub split_seat-copy-requires : goal.split_seat-copy-requires
split_seat-copy-requires g c = (
  search rules,
  search rules,
  copies g.K.Keeps.entries g.K.Keeps.base_of g.K.Keeps.caller_of _ c.args.other.now.me.0
      c.requires.other_free,
)

pub join_seat-requires : goal.join_seat-requires
join_seat-requires g c = (
  search rules,
  search rules,
  search rules,
  search rules,
  meets g.K.Keeps.entries g.K.Keeps.base_of g.K.Keeps.caller_of _ _ c.args.seat.now.me.0
      c.split_seat-copy.result.me.0 g.K.Keeps.any_base c.requires.free
      (ap (λ m. m.0.standing) c.split_seat-copy.ensures.4),
)

pub load-requires : goal.load-requires
load-requires g c = (
  search rules,
  search rules,
  compares_at g.K.Keeps.entries g.K.Keeps.base_of g.K.Keeps.caller_of _ _ c.join_seat.new.seat.me
      (ap (λ m. m.0.standing) c.join_seat.ensures.2 ∙ c.requires.free),
)

pub returns-clause-sound : goal.returns-clause-sound
returns-clause-sound g c =
    subst (λ m. ShowsSound g.K.Keeps.caller_of m.0) (sym c.load.ensures.2.same)
    c.load.ensures.2.sound
