use Rattle.std.proofs.Common.{◌∙◌, ap, sym, [], map, get_or}
use Rattle.plant_model.specs.declared.thrust.Pieces.{Pieces}
use Rattle.thrust_region.specs.Left.{free}
use Rattle.thrust_region.specs.Pieces.{all_points, points_of}
use Rattle.thrust_region.specs.Scaling.{scaled_point}
use Rattle.thrust_region.proofs.Free.{piece_at}
use Rattle.thrust_region.proofs.region.Region.piece.Goals as goal

pub returns-in-Some-clause-points : goal.returns-in-Some-clause-points
returns-in-Some-clause-points c =
    let r = c.self.inside in
    c.scaled_piece.ensures.points ∙ ap (map (scaled_point r.quarter)) c.in-Some.ensures.some
    ∙ sym (piece_at r.quarter (free r.barred (map points_of r.pieces.now)) c.args.place)
    ∙ ap (λ (p : Pieces). get_or (all_points p) c.args.place []) c.self.view_is

pub returns-in-None-clause-points : goal.returns-in-None-clause-points
returns-in-None-clause-points c =
    let r = c.self.inside in
    c.default.ensures
    ∙ ap (map (scaled_point r.quarter)) c.in-None.ensures.none
    ∙ sym (piece_at r.quarter (free r.barred (map points_of r.pieces.now)) c.args.place)
    ∙ ap (λ (p : Pieces). get_or (all_points p) c.args.place []) c.self.view_is
