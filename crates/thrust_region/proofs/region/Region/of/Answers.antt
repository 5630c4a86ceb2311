use Rattle.thrust_region.proofs.Free.{left_with, left_within}
use Rattle.std.proofs.Common.{◌∙◌, ap, List, map}
use Rattle.plant_model.specs.declared.thrust.Piece.{Piece}
use Rattle.thrust_region.specs.Left.{left_of}
use Rattle.thrust_region.specs.Pieces.{points_of}
use Rattle.thrust_region.specs.Scaling.{are_whole_points}
use Rattle.thrust_region.proofs.region.Region.of.Goals as goal

pub returns-clause-left : goal.returns-clause-left
returns-clause-left c =
    left_with c.args.quarter c.args.barred (map points_of c.as_slice.result.now)
    c.if-quarter-eq0.false
    ∙ ap (λ (l : List Piece). left_of c.args.quarter c.args.barred (map points_of l))
    c.as_slice.ensures.value

pub returns-clause-within : goal.returns-clause-within
returns-clause-within c =
    left_within c.args.quarter c.requires.quarter c.args.barred (map points_of c.as_slice.result.now)
    (ap (λ (l : List Piece). are_whole_points (map points_of l)) c.as_slice.ensures.value
    ∙ c.requires.points)
