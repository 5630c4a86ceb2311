use Rattle.std.proofs.Common.{rules}
use Rattle.turn_lock.proofs.Turns.{draws_at}
use Rattle.turn_lock.proofs.turn.Turn.draw.Goals as goal

pub fetch_add-requires : goal.fetch_add-requires
fetch_add-requires g c = (
  search rules,
  search rules,
  draws_at g.K.Keeps.entries g.K.Keeps.base_of g.K.Keeps.caller_of _ _ c.args.seat.now.me
      c.requires.free,
)
