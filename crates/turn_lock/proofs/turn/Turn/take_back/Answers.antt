use Rattle.std.proofs.Common.{rules, ap, sym, subst, ◌∙◌}
use Rattle.turn_lock.specs.Steps.{ShowsSound}
use Rattle.turn_lock.proofs.Pairs.{joins}
use Rattle.turn_lock.proofs.Turns.{compares_at}
use Rattle.turn_lock.proofs.turn.Turn.take_back.Goals as goal

pub join_seat-requires : goal.join_seat-requires
join_seat-requires g c = (
  search rules,
  search rules,
  search rules,
  search rules,
  joins g.K.Keeps.entries g.K.Keeps.base_of g.K.Keeps.caller_of _ _ c.args.root.now.me.0
      c.args.other.me.0 g.K.Keeps.any_base c.requires.free c.requires.root c.requires.other_free,
)

pub load-requires : goal.load-requires
load-requires g c = (
  search rules,
  search rules,
  compares_at g.K.Keeps.entries g.K.Keeps.base_of g.K.Keeps.caller_of _ _ c.join_seat.new.seat.me
      (ap (λ m. m.0.standing) c.join_seat.ensures.2 ∙ c.requires.free),
)

pub returns-clause-sound : goal.returns-clause-sound
returns-clause-sound g c =
    subst (λ m. ShowsSound g.K.Keeps.caller_of m.0) (sym c.load.ensures.2.same)
    c.load.ensures.2.sound
