use Rattle.std.proofs.Common.{rules, ◌∷◌, List, ℕ, Option, Some, ap, sym, ◌∙◌}
use Rattle.atomic_table.specs.Table.{rest}
use Rattle.turn_lock.proofs.turn.Turn.take.Goals as goal

pub exchange-requires : goal.exchange-requires
exchange-requires g c = let held = c.requires.held in (
  search rules,
  (
    Some held.0,
    held.1 ∙ ap (λ (xs : List (ℕ × Option g.row.K.Denot)). (0, Some held.0) ∷ rest xs) (sym held.1),
  ),
)
