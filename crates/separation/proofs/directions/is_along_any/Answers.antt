use Rattle.std.proofs.Common.{arith}
use Rattle.std.proofs.lemmas.List.Elements.{Contains-get_or}
use Rattle.separation.proofs.DirectionLists.{settles_along}
use Rattle.separation.proofs.directions.is_along_any.Goals as goal

pub returns-then-is_along : goal.returns-then-is_along
returns-then-is_along c = λ t. settles_along c.args.directions.now _ c.args.direction
    (Contains-get_or c.args.directions.now c.loop-member.member-index _ (omega arith))
    (c.if-is_along.ensures.0 t)
