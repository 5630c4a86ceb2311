use Rattle.std.proofs.Common.{◌∷◌, [], ◌++◌, List, Option, Some, ap, ◌∙◌}
use Rattle.turn_lock.proofs.Turns.{opens}
use Rattle.turn_lock.proofs.turn.Turn.start.Goals as goal

pub new-requires : goal.new-requires
new-requires g c =
    let items = c.push_reserved.ensures.items
    ∙ ap (λ (xs : List (Option g.row.K.Denot)). xs ++ Some c.args.value ∷ [])
    c.in-Ok.ensures.items in
    rw (items, c.of-opened.ensures)
    (opens g.K.Keeps.entries g.K.Keeps.base_of g.K.Keeps.caller_of c.args.value c.requires)
